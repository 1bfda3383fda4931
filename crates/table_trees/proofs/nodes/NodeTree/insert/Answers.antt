-- The tree takes one node more, in its place.
use Rattle.page_image.specs.Page.{Node}
use Rattle.btree_inplace.specs.Changes.{inserted}
use Rattle.table_trees.specs.NodeTrees.{nodes_in}
use Rattle.table_trees.specs.StoredNodes.{IsShortNode}
use Rattle.table_trees.proofs.Finding.{none_found}
use Rattle.table_trees.proofs.NodeChanges.{become, inserted_in_order, inserted_short}
use Rattle.table_trees.proofs.Outcomes.{on_err}
use Rattle.btree_inplace.specs.Order.{has_key}
use Rattle.std.proofs.Common.{find}
use Rattle.common_lemmas.proofs.Results.{OnOk-then}
use Rattle.table_trees.proofs.nodes.NodeTree.insert.Goals as goal

pub returns-clause-ok : goal.returns-clause-ok
returns-clause-ok c =
    let nodes = nodes_in c.args.space.now c.args.self.now in
    let node : Node = record { key = c.args.bookmark.now; extent = c.args.extent; «data» = c.args.row.now } in
    let absent = none_found (λ (n : Node). n.data) (find (has_key c.args.bookmark.now) nodes) c.requires.absent in
    OnOk-then c.insert.result
    (λ has. become c.tree_pages_are_own.ensures c.args.space.now c.args.self.now c.insert.new.space (record { tree = c.insert.new.self }) (inserted nodes node) c.requires.tree.tree c.insert.ensures.tree has c.insert.ensures.pages
    (inserted_in_order nodes node absent c.requires.tree.in_order)
    (inserted_short IsShortNode nodes node (record { some = c.requires.some; bookmark = c.requires.short; row = c.requires.fits; extent = c.requires.small }) c.requires.tree.short) c.insert.ensures.root)
    c.insert.ensures.ok

pub returns-clause-err : goal.returns-clause-err
returns-clause-err c =
    let nodes = nodes_in c.args.space.now c.args.self.now in
    on_err c.insert.result
    (λ has. become c.tree_pages_are_own.ensures c.args.space.now c.args.self.now c.insert.new.space (record { tree = c.insert.new.self }) nodes c.requires.tree.tree c.insert.ensures.tree has c.insert.ensures.pages
    c.requires.tree.in_order c.requires.tree.short c.insert.ensures.root)
    c.insert.ensures.err
