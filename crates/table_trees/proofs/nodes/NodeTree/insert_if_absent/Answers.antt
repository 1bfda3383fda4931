-- The tree takes one node more, where its key is not there.
use Rattle.common_lemmas.proofs.Results.{OnOk-then}
use Rattle.page_image.specs.Page.{Node}
use Rattle.btree_inplace.specs.Changes.{inserted_if_absent}
use Rattle.table_trees.specs.NodeTrees.{nodes_in}
use Rattle.table_trees.specs.StoredNodes.{IsShortNode}
use Rattle.table_trees.proofs.NodeChanges.{become, if_absent_in_order, if_absent_short}
use Rattle.table_trees.proofs.Outcomes.{on_err}
use Rattle.table_trees.proofs.nodes.NodeTree.insert_if_absent.Goals as goal

pub returns-clause-ok : goal.returns-clause-ok
returns-clause-ok c =
    let nodes = nodes_in c.args.space.now c.args.self.now in
    let node : Node = record { key = c.args.bookmark.now; extent = c.args.extent; «data» = c.args.row.now } in
    OnOk-then c.insert_if_absent.result
    (λ has. become c.tree_pages_are_own.ensures c.args.space.now c.args.self.now c.insert_if_absent.new.space (record { tree = c.insert_if_absent.new.self }) (inserted_if_absent nodes node) c.requires.tree.tree c.insert_if_absent.ensures.tree has c.insert_if_absent.ensures.pages
    (if_absent_in_order nodes node c.requires.tree.in_order)
    (if_absent_short IsShortNode nodes node (record { some = c.requires.some; bookmark = c.requires.short; row = c.requires.fits; extent = c.requires.small }) c.requires.tree.short) c.insert_if_absent.ensures.root)
    c.insert_if_absent.ensures.ok

pub returns-clause-err : goal.returns-clause-err
returns-clause-err c =
    let nodes = nodes_in c.args.space.now c.args.self.now in
    on_err c.insert_if_absent.result
    (λ has. become c.tree_pages_are_own.ensures c.args.space.now c.args.self.now c.insert_if_absent.new.space (record { tree = c.insert_if_absent.new.self }) nodes c.requires.tree.tree c.insert_if_absent.ensures.tree has c.insert_if_absent.ensures.pages
    c.requires.tree.in_order c.requires.tree.short c.insert_if_absent.ensures.root)
    c.insert_if_absent.ensures.err
