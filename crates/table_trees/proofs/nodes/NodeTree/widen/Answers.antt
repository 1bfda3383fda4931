-- The tree keeps another number of bytes for one node.
use Rattle.std.proofs.Common.{◌≤◌, length, find, refl, ap, ◌∙◌, arith}
use Rattle.common_lemmas.proofs.Results.{OnOk-then}
use Rattle.page_image.specs.Page.{Node}
use Rattle.btree_inplace.specs.Changes.{with_extent_at}
use Rattle.btree_inplace.specs.Order.{has_key}
use Rattle.cursor_nav.specs.Places.{are_sorted}
use Rattle.table_trees.specs.NodeTrees.{nodes_in}
use Rattle.table_trees.specs.StoredNodes.{IsShortNode}
use Rattle.table_trees.proofs.NodeChanges.{become, changed-entries, changed_short, found_and, key_is_short, some_of}
use Rattle.table_trees.proofs.Outcomes.{on_err}
use Rattle.table_trees.proofs.nodes.NodeTree.widen.Goals as goal

pub widen-requires-clause-small : goal.widen-requires-clause-small
widen-requires-clause-small c =
    let nodes = nodes_in c.args.space.now c.args.self.now in
    let found = find (has_key c.args.bookmark.now) nodes in
    omega (arith, key_is_short nodes c.args.bookmark.now (some_of (λ (n : Node). n.data) (λ row. length row ≤ c.args.extent) found c.requires.fits) c.requires.tree.short, c.requires.small)

pub returns-clause-ok : goal.returns-clause-ok
returns-clause-ok c =
    let nodes = nodes_in c.args.space.now c.args.self.now in
    let key = c.args.bookmark.now in
    let change : Node → Node = λ (n : Node). record n { extent = c.args.extent } in
    OnOk-then c.widen.result
    (λ has. become c.tree_pages_are_own.ensures c.args.space.now c.args.self.now c.widen.new.space (record { tree = c.widen.new.self }) (with_extent_at nodes key c.args.extent) c.requires.tree.tree c.widen.ensures.tree has c.widen.ensures.pages
    (ap are_sorted (changed-entries change key nodes (λ n. refl)) ∙ c.requires.tree.in_order)
    (changed_short IsShortNode change key nodes
    (λ n e is. record { some = is.some; bookmark = is.bookmark; row = found_and (λ (m : Node). m.data) (λ row. length row ≤ c.args.extent) (find (has_key key) nodes) n c.requires.fits e; extent = c.requires.small })
    c.requires.tree.in_order c.requires.tree.short) c.widen.ensures.root)
    c.widen.ensures.ok

pub returns-clause-err : goal.returns-clause-err
returns-clause-err c =
    let nodes = nodes_in c.args.space.now c.args.self.now in
    on_err c.widen.result
    (λ has. become c.tree_pages_are_own.ensures c.args.space.now c.args.self.now c.widen.new.space (record { tree = c.widen.new.self }) nodes c.requires.tree.tree c.widen.ensures.tree has c.widen.ensures.pages
    c.requires.tree.in_order c.requires.tree.short c.widen.ensures.root)
    c.widen.ensures.err
