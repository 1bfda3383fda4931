-- The leaf takes the node, and the tree with it.
use Rattle.std.proofs.Common.{◌≡◌, ◌+◌, ◌≤◌, Option, Some, None, length, set, sym, ap, subst, ◌∙◌, arith}
use Rattle.std.specs.Prelude.{find, insert}
use Rattle.page_image.specs.Page.{Node, PageContents, IsInsertPlace, IsPage, HasRisingKeys, node_at, page_size}
use Rattle.btree_inplace.specs.Alterations.{AlteredTree}
use Rattle.btree_inplace.specs.Changes.{inserted}
use Rattle.btree_inplace.specs.Order.{has_key}
use Rattle.btree_inplace.specs.Shape.{page_in}
use Rattle.btree_inplace.proofs.Below.{found_at}
use Rattle.btree_inplace.proofs.Changing.{set-stays}
use Rattle.btree_inplace.proofs.Cuts.{when_ok}
use Rattle.btree_inplace.proofs.Leaves.{altered_exchanges, altered_is_tree, inserted-local, leaf-insert}
use Rattle.btree_inplace.proofs.Writes.{page_is, wrote}
use Rattle.btree_inplace.proofs.Tree.insert.Goals as goal

pub returns-in_err-page-clause-tree : goal.returns-in_err-page-clause-tree
returns-in_err-page-clause-tree c = altered_is_tree (λ nodes. nodes) c.args.space.now c.leaf_with_room.new.space c.args.self.now c.leaf_with_room.new.self c.in_err-page.ensures.err

pub returns-in_err-page-clause-pages : goal.returns-in_err-page-clause-pages
returns-in_err-page-clause-pages c = altered_exchanges (λ nodes. nodes) c.args.space.now c.leaf_with_room.new.space c.args.self.now c.leaf_with_room.new.self c.in_err-page.ensures.err

-- The key is not there.
never_found : (o : Option Node) (n : Node) → o ≡ None → o ≡ Some n → ⊥
never_found o n none some = cc

never : (c : goal.After-space-1) → ⊥
never c =
    let key = c.args.key.now in
    let reach = c.in_ok-page.ensures.ok in
    let nodes = c.page_mut-leaf.result.now.nodes in
    let is : page_in c.leaf_with_room.new.space c.in_ok-page.page ≡ c.page_mut-leaf.result.now = page_is c.leaf_with_room.new.space c.in_ok-page.page c.page_mut-leaf.result.now c.page_mut-leaf.ensures.value in
    let rising : HasRisingKeys nodes = subst (λ (p : PageContents). HasRisingKeys p.nodes) is reach.shape.page.rising in
    never_found (find (has_key key) nodes) (node_at nodes c.in-Ok.field-0) (ap (λ (p : PageContents). find (has_key key) p.nodes) (sym is) ∙ reach.found ∙ c.requires.absent) (found_at nodes key c.in-Ok.field-0 rising c.in-Ok.ensures.0 c.in-Ok.ensures.1)

pub returns-in-Ok-clause-tree : goal.returns-in-Ok-clause-tree
returns-in-Ok-clause-tree c = absurd (never c)

pub returns-in-Ok-clause-ok : goal.returns-in-Ok-clause-ok
returns-in-Ok-clause-ok c = absurd (never c)

pub returns-in-Ok-clause-pages : goal.returns-in-Ok-clause-pages
returns-in-Ok-clause-pages c = absurd (never c)

-- the tree after the insert
altered : (c : goal.After-space-in-Err-1) → AlteredTree (λ nodes. inserted nodes (record { key = c.args.key.now; extent = c.args.extent; «data» = c.args.data.now })) c.args.space.now c.args.self.now (set c.leaf_with_room.new.space c.in_ok-page.page (Some c.insert.new.self)) c.leaf_with_room.new.self
altered c =
    let key = c.args.key.now in
    let n : Node = record { key = key; extent = c.args.extent; «data» = c.args.data.now } in
    let reach = c.in_ok-page.ensures.ok in
    let frames = c.leaf_with_room.new.space in
    let leaf = c.in_ok-page.page in
    let i = c.in-Err.i in
    let new = set frames leaf (Some c.insert.new.self) in
    let is : page_in frames leaf ≡ c.page_mut-leaf.result.now = page_is frames leaf c.page_mut-leaf.result.now c.page_mut-leaf.ensures.value in
    let place : IsInsertPlace (page_in frames leaf).nodes key i = subst (λ (p : PageContents). IsInsertPlace p.nodes key i) (sym is) c.in-Err.ensures in
    let fits : page_size c.page_mut-leaf.result.now.nodes + (6 + length key + c.args.extent) ≤ 4096 = omega (arith, reach.room, ap (λ (p : PageContents). page_size p.nodes) is) in
    let value : c.insert.new.self ≡ record (page_in frames leaf) { nodes = insert (page_in frames leaf).nodes i n } = when_ok c.insert.result _ (c.insert.ensures.full.1 fits) c.insert.ensures.ok ∙ ap (λ (p : PageContents). record p { nodes = insert p.nodes i n }) (sym is) in
    reach.lifts (λ nodes. inserted nodes n) new (inserted-local n)
    (leaf-insert frames new leaf i n reach.shape place (record { size = c.requires.small; key = c.requires.short }) (set-stays frames leaf (Some c.insert.new.self))
    (wrote frames leaf c.insert.new.self reach.shape.taken ∙ ap Some value) (subst IsPage value c.insert.ensures.page))

pub returns-in-Err-clause-tree : goal.returns-in-Err-clause-tree
returns-in-Err-clause-tree c = altered_is_tree (λ nodes. inserted nodes (record { key = c.args.key.now; extent = c.args.extent; «data» = c.args.data.now })) c.args.space.now (set c.leaf_with_room.new.space c.in_ok-page.page (Some c.insert.new.self)) c.args.self.now c.leaf_with_room.new.self (altered c)

pub returns-in-Err-clause-ok : goal.returns-in-Err-clause-ok
returns-in-Err-clause-ok c = (altered c).nodes

pub returns-in-Err-clause-pages : goal.returns-in-Err-clause-pages
returns-in-Err-clause-pages c = altered_exchanges (λ nodes. inserted nodes (record { key = c.args.key.now; extent = c.args.extent; «data» = c.args.data.now })) c.args.space.now (set c.leaf_with_room.new.space c.in_ok-page.page (Some c.insert.new.self)) c.args.self.now c.leaf_with_room.new.self (altered c)
