-- The leaf keeps more for the data, and the tree with it.
use Rattle.std.proofs.Common.{◌≡◌, ◌-◌, ◌<◌, ◌≤◌, Some, None, length, set, sym, ap, subst, ◌∙◌, arith}
use Rattle.std.specs.Prelude.{find}
use Rattle.page_image.specs.Page.{Node, PageContents, IsPage, HasRisingKeys, no_node, node_at, node_size, page_size, with_extent}
use Rattle.common_lemmas.proofs.Edits.{sum-set}
use Rattle.btree_inplace.specs.Alterations.{AlteredTree}
use Rattle.btree_inplace.specs.Changes.{with_extent_at}
use Rattle.btree_inplace.specs.Order.{has_key}
use Rattle.btree_inplace.specs.Shape.{page_in}
use Rattle.btree_inplace.specs.Trees.{nodes_of}
use Rattle.btree_inplace.proofs.Below.{found_at, not_found}
use Rattle.btree_inplace.proofs.Changing.{fact_of_found, none_found, set-stays}
use Rattle.btree_inplace.proofs.Cuts.{when_ok}
use Rattle.btree_inplace.proofs.Leaves.{altered_exchanges, altered_is_tree, leaf-widen, with_extent_at-local}
use Rattle.btree_inplace.proofs.Writes.{page_is, wrote}
use Rattle.btree_inplace.proofs.Tree.widen.Goals as goal

pub returns-in_err-page-clause-tree : goal.returns-in_err-page-clause-tree
returns-in_err-page-clause-tree c = altered_is_tree (λ nodes. nodes) c.args.space.now c.leaf_with_room.new.space c.args.self.now c.leaf_with_room.new.self c.in_err-page.ensures.err

pub returns-in_err-page-clause-pages : goal.returns-in_err-page-clause-pages
returns-in_err-page-clause-pages c = altered_exchanges (λ nodes. nodes) c.args.space.now c.leaf_with_room.new.space c.args.self.now c.leaf_with_room.new.self c.in_err-page.ensures.err

pub set_extent-requires-clause-fits : goal.set_extent-requires-clause-fits
set_extent-requires-clause-fits c =
    let key = c.args.key.now in
    let reach = c.in_ok-page.ensures.ok in
    let frames = c.leaf_with_room.new.space in
    let leaf = c.in_ok-page.page in
    let nodes = c.page_mut-leaf.result.now.nodes in
    let is : page_in frames leaf ≡ c.page_mut-leaf.result.now = page_is frames leaf c.page_mut-leaf.result.now c.page_mut-leaf.ensures.value in
    let rising : HasRisingKeys nodes = subst (λ (p : PageContents). HasRisingKeys p.nodes) is reach.shape.page.rising in
    let found : find (has_key key) (nodes_of c.args.space.now c.args.self.now) ≡ Some (node_at nodes c.in-Ok.i) = sym reach.found ∙ ap (λ (p : PageContents). find (has_key key) p.nodes) is ∙ found_at nodes key c.in-Ok.i rising c.in-Ok.ensures.0 c.in-Ok.ensures.1 in
    let fits : length (node_at nodes c.in-Ok.i).data ≤ c.args.extent = fact_of_found (λ (n : Node). length n.data ≤ c.args.extent) (find (has_key key) (nodes_of c.args.space.now c.args.self.now)) (node_at nodes c.in-Ok.i) found c.requires.fits in
    fits

-- the tree with the extent
altered : (c : goal.After-space-1) → AlteredTree (λ nodes. with_extent_at nodes c.args.key.now c.args.extent) c.args.space.now c.args.self.now (set c.leaf_with_room.new.space c.in_ok-page.page (Some c.set_extent.new.self)) c.leaf_with_room.new.self
altered c =
    let key = c.args.key.now in
    let reach = c.in_ok-page.ensures.ok in
    let frames = c.leaf_with_room.new.space in
    let leaf = c.in_ok-page.page in
    let nodes = c.page_mut-leaf.result.now.nodes in
    let is : page_in frames leaf ≡ c.page_mut-leaf.result.now = page_is frames leaf c.page_mut-leaf.result.now c.page_mut-leaf.ensures.value in
    let rising : HasRisingKeys nodes = subst (λ (p : PageContents). HasRisingKeys p.nodes) is reach.shape.page.rising in
    let found : find (has_key key) (nodes_of c.args.space.now c.args.self.now) ≡ Some (node_at nodes c.in-Ok.i) = sym reach.found ∙ ap (λ (p : PageContents). find (has_key key) p.nodes) is ∙ found_at nodes key c.in-Ok.i rising c.in-Ok.ensures.0 c.in-Ok.ensures.1 in
    let i = c.in-Ok.i in
    let wide = c.args.extent in
    let more : c.missing-more.result ≡ wide - (node_at nodes i).extent = fact_of_found (λ (n : Node). c.missing-more.result ≡ wide - n.extent) (find (has_key key) (nodes_of c.args.space.now c.args.self.now)) (node_at nodes i) found c.missing-more.ensures.value in
    let fits : page_size (with_extent nodes i wide) ≤ 4096 = omega (arith, reach.room, more, ap (λ (p : PageContents). page_size p.nodes) is, sum-set node_size nodes i (record (node_at nodes i) { extent = wide }) no_node c.in-Ok.ensures.0) in
    let value : c.set_extent.new.self ≡ record (page_in frames leaf) { nodes = with_extent (page_in frames leaf).nodes i wide } = when_ok c.set_extent.result _ (c.set_extent.ensures.full.1 fits) c.set_extent.ensures.ok ∙ ap (λ (p : PageContents). record p { nodes = with_extent p.nodes i wide }) (sym is) in
    let back = sym is in
    reach.lifts (λ ns. with_extent_at ns key wide) (set frames leaf (Some c.set_extent.new.self)) (with_extent_at-local key wide)
    (leaf-widen frames (set frames leaf (Some c.set_extent.new.self)) leaf i key wide reach.shape
    (subst (λ (p : PageContents). i < length p.nodes) back c.in-Ok.ensures.0)
    (subst (λ (p : PageContents). (node_at p.nodes i).key ≡ key) back c.in-Ok.ensures.1)
    c.requires.small (set-stays frames leaf (Some c.set_extent.new.self))
    (wrote frames leaf c.set_extent.new.self reach.shape.taken ∙ ap Some value) (subst IsPage value c.set_extent.ensures.page))

pub returns-in-Ok-clause-tree : goal.returns-in-Ok-clause-tree
returns-in-Ok-clause-tree c = altered_is_tree (λ nodes. with_extent_at nodes c.args.key.now c.args.extent) c.args.space.now (set c.leaf_with_room.new.space c.in_ok-page.page (Some c.set_extent.new.self)) c.args.self.now c.leaf_with_room.new.self (altered c)

pub returns-in-Ok-clause-ok : goal.returns-in-Ok-clause-ok
returns-in-Ok-clause-ok c = (altered c).nodes

pub returns-in-Ok-clause-pages : goal.returns-in-Ok-clause-pages
returns-in-Ok-clause-pages c = altered_exchanges (λ nodes. with_extent_at nodes c.args.key.now c.args.extent) c.args.space.now (set c.leaf_with_room.new.space c.in_ok-page.page (Some c.set_extent.new.self)) c.args.self.now c.leaf_with_room.new.self (altered c)

-- The key is there.
never : (c : goal.After-space-in-Err-1) → ⊥
never c =
    let key = c.args.key.now in
    let reach = c.in_ok-page.ensures.ok in
    let is : page_in c.leaf_with_room.new.space c.in_ok-page.page ≡ c.page_mut-leaf.result.now = page_is c.leaf_with_room.new.space c.in_ok-page.page c.page_mut-leaf.result.now c.page_mut-leaf.ensures.value in
    let none : find (has_key key) (nodes_of c.args.space.now c.args.self.now) ≡ None = sym reach.found ∙ ap (λ (p : PageContents). find (has_key key) p.nodes) is ∙ not_found c.page_mut-leaf.result.now.nodes key c.in-Err.field-0 c.in-Err.ensures in
    none_found (λ (n : Node). length n.data ≤ c.args.extent) (find (has_key key) (nodes_of c.args.space.now c.args.self.now)) none c.requires.fits

pub returns-in-Err-clause-tree : goal.returns-in-Err-clause-tree
returns-in-Err-clause-tree c = absurd (never c)

pub returns-in-Err-clause-ok : goal.returns-in-Err-clause-ok
returns-in-Err-clause-ok c = absurd (never c)

pub returns-in-Err-clause-pages : goal.returns-in-Err-clause-pages
returns-in-Err-clause-pages c = absurd (never c)
