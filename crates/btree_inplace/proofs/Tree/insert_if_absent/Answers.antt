-- The leaf that the key belongs to has the node, or takes the new one where it has room.
use Rattle.std.proofs.Common.{◌≡◌, ◌+◌, ◌≤◌, Option, Some, None, length, set, sym, ap, subst, ◌∙◌, arith}
use Rattle.std.specs.Prelude.{find, insert, if◌then◌else◌, is_some, unwrap_or}
use Rattle.std.specs.Option.{option_map}
use Rattle.page_image.specs.Page.{Node, PageContents, IsInsertPlace, HasRisingKeys, page_size}
use Rattle.page_space.specs.Frames.{empty_page}
use Rattle.btree_inplace.specs.Changes.{inserted, inserted_if_absent}
use Rattle.btree_inplace.specs.Order.{has_key}
use Rattle.btree_inplace.specs.Shape.{page_in}
use Rattle.btree_inplace.specs.Trees.{Exchanges, IsTree, nodes_of, pages_of}
use Rattle.btree_inplace.proofs.Below.{found_at, not_found}
use Rattle.btree_inplace.proofs.Cuts.{when_ok}
use Rattle.btree_inplace.proofs.Leaves.{leaf_taken, same_exchanges}
use Rattle.btree_inplace.proofs.Writes.{page_is}
use Rattle.btree_inplace.proofs.Tree.insert_if_absent.Goals as goal
use Rattle.btree_inplace.proofs.Tree.insert_if_absent.Goals.{After-insert, In-Err}

pub returns-in-Ok-clause-there : goal.returns-in-Ok-clause-there
returns-in-Ok-clause-there c =
    let inner : page_in c.args.space.now c.leaf-page.result ≡ c.page-leaf.result.now = ap (λ (o : Option PageContents). unwrap_or o (empty_page c.leaf-page.result)) c.page-leaf.ensures in
    let rising : HasRisingKeys c.page-leaf.result.now.nodes = subst (λ (p : PageContents). HasRisingKeys p.nodes) inner c.leaf-page.ensures.leaf.page.rising in
    ap Some c.extent.ensures
    ∙ ap (option_map (λ (n : Node). n.extent)) (sym (found_at c.page-leaf.result.now.nodes c.args.key.now c.in-Ok.i rising c.in-Ok.ensures.0 c.in-Ok.ensures.1)
    ∙ ap (λ (p : PageContents). find (has_key c.args.key.now) p.nodes) (sym inner) ∙ c.leaf-page.ensures.found)

pub returns-in-Ok-clause-ok : goal.returns-in-Ok-clause-ok
returns-in-Ok-clause-ok c =
    let nodes = nodes_of c.args.space.now c.args.self.now in
    let n : Node = record { key = c.args.key.now; extent = c.args.extent; «data» = c.args.data.now } in
    let inner : page_in c.args.space.now c.leaf-page.result ≡ c.page-leaf.result.now = ap (λ (o : Option PageContents). unwrap_or o (empty_page c.leaf-page.result)) c.page-leaf.ensures in
    let rising : HasRisingKeys c.page-leaf.result.now.nodes = subst (λ (p : PageContents). HasRisingKeys p.nodes) inner c.leaf-page.ensures.leaf.page.rising in
    sym (ap (λ (o : Option Node). if is_some o then nodes else inserted nodes n) (sym c.leaf-page.ensures.found
    ∙ ap (λ (p : PageContents). find (has_key c.args.key.now) p.nodes) inner
    ∙ found_at c.page-leaf.result.now.nodes c.args.key.now c.in-Ok.i rising c.in-Ok.ensures.0 c.in-Ok.ensures.1))

pub returns-in-Ok-clause-pages : goal.returns-in-Ok-clause-pages
returns-in-Ok-clause-pages c = same_exchanges c.args.space.now (pages_of c.args.space.now c.args.self.now)

-- no node has the key
absent : (c : In-Err) → find (has_key c.args.key.now) (nodes_of c.args.space.now c.args.self.now) ≡ None
absent c =
    let inner : page_in c.args.space.now c.leaf-page.result ≡ c.page-leaf.result.now = ap (λ (o : Option PageContents). unwrap_or o (empty_page c.leaf-page.result)) c.page-leaf.ensures in
    sym (c.leaf-page.ensures.found) ∙ ap (λ (p : PageContents). find (has_key c.args.key.now) p.nodes) inner ∙ not_found c.page-leaf.result.now.nodes c.args.key.now c.in-Err.i c.in-Err.ensures

taken_in : (c : In-Err)
    → inserted_if_absent (nodes_of c.args.space.now c.args.self.now) (record { key = c.args.key.now; extent = c.args.extent; «data» = c.args.data.now })
    ≡ inserted (nodes_of c.args.space.now c.args.self.now) (record { key = c.args.key.now; extent = c.args.extent; «data» = c.args.data.now })
taken_in c =
    let nodes = nodes_of c.args.space.now c.args.self.now in
    let n : Node = record { key = c.args.key.now; extent = c.args.extent; «data» = c.args.data.now } in
    ap (λ (o : Option Node). if is_some o then nodes else inserted nodes n) (absent c)

-- the tree after the leaf took the node
taken : (c : After-insert)
    → let new = set c.args.space.now c.leaf-page.result (Some c.insert.new.self) in
    let n : Node = record { key = c.args.key.now; extent = c.args.extent; «data» = c.args.data.now } in
    IsTree new c.args.self.now × (nodes_of new c.args.self.now ≡ inserted (nodes_of c.args.space.now c.args.self.now) n) × Exchanges c.args.space.now new (pages_of c.args.space.now c.args.self.now) (pages_of new c.args.self.now)
taken c =
    let frames = c.args.space.now in
    let key = c.args.key.now in
    let leaf = c.leaf-page.result in
    let n : Node = record { key = key; extent = c.args.extent; «data» = c.args.data.now } in
    let read : page_in frames leaf ≡ c.page-leaf.result.now = ap (λ (o : Option PageContents). unwrap_or o (empty_page leaf)) c.page-leaf.ensures in
    let written : page_in frames leaf ≡ c.page_mut.result.now = page_is frames leaf c.page_mut.result.now c.page_mut.ensures.value in
    let place : IsInsertPlace (page_in frames leaf).nodes key c.in-Err.i = subst (λ (p : PageContents). IsInsertPlace p.nodes key c.in-Err.i) (sym read) c.in-Err.ensures in
    let fits : page_size c.page_mut.result.now.nodes + (6 + length key + c.args.extent) ≤ 4096 =
    omega (arith, c.if-used-key-le-PAGE_BYTES.true, c.used.ensures.value, ap (λ (p : PageContents). page_size p.nodes) (sym read ∙ written)) in
    let value : c.insert.new.self ≡ record (page_in frames leaf) { nodes = insert (page_in frames leaf).nodes c.in-Err.i n } =
    when_ok c.insert.result _ (c.insert.ensures.full.1 fits) c.insert.ensures.ok ∙ ap (λ (p : PageContents). record p { nodes = insert p.nodes c.in-Err.i n }) (sym written) in
    leaf_taken frames c.args.self.now leaf c.in-Err.i n c.insert.new.self c.requires.tree c.leaf-page.ensures.leaf c.leaf-page.ensures.own c.leaf-page.ensures.lifts
    place (record { size = c.requires.small; key = c.requires.short }) value c.insert.ensures.page

pub returns-then-used-key-le-PAGE_BYTES-clause-tree : goal.returns-then-used-key-le-PAGE_BYTES-clause-tree
returns-then-used-key-le-PAGE_BYTES-clause-tree c = (taken (goal.at.returns-then-used-key-le-PAGE_BYTES-clause-tree c).After-insert).0

pub returns-then-used-key-le-PAGE_BYTES-clause-ok : goal.returns-then-used-key-le-PAGE_BYTES-clause-ok
returns-then-used-key-le-PAGE_BYTES-clause-ok c =
    (taken (goal.at.returns-then-used-key-le-PAGE_BYTES-clause-ok c).After-insert).1 ∙ sym (taken_in (goal.at.returns-then-used-key-le-PAGE_BYTES-clause-ok c).In-Err)

pub returns-then-used-key-le-PAGE_BYTES-clause-pages : goal.returns-then-used-key-le-PAGE_BYTES-clause-pages
returns-then-used-key-le-PAGE_BYTES-clause-pages c = (taken (goal.at.returns-then-used-key-le-PAGE_BYTES-clause-pages c).After-insert).2

pub returns-then-used-key-le-PAGE_BYTES-clause-there : goal.returns-then-used-key-le-PAGE_BYTES-clause-there
returns-then-used-key-le-PAGE_BYTES-clause-there c = ap (option_map (λ (n : Node). n.extent)) (sym (absent (goal.at.returns-then-used-key-le-PAGE_BYTES-clause-there c).In-Err))

pub insert-requires-in-Err-clause-absent : goal.insert-requires-in-Err-clause-absent
insert-requires-in-Err-clause-absent c = absent (goal.at.insert-requires-in-Err-clause-absent c).In-Err

pub returns-in-Ok-insert-clause-there : goal.returns-in-Ok-insert-clause-there
returns-in-Ok-insert-clause-there c = ap (option_map (λ (n : Node). n.extent)) (sym (absent (goal.at.returns-in-Ok-insert-clause-there c).In-Err))

pub returns-in-Err-insert-clause-absent : goal.returns-in-Err-insert-clause-absent
returns-in-Err-insert-clause-absent c = ap (option_map (λ (n : Node). n.extent)) (absent (goal.at.returns-in-Err-insert-clause-absent c).In-Err)

pub returns-in-Ok-insert-clause-ok : goal.returns-in-Ok-insert-clause-ok
returns-in-Ok-insert-clause-ok c = c.in-Ok-insert.ensures.ok ∙ sym (taken_in (goal.at.returns-in-Ok-insert-clause-ok c).In-Err)
