-- The tree loses one node.
use Rattle.std.proofs.Common.{not}
use Rattle.std.proofs.lemmas.List.Elements.{All-filter}
use Rattle.btree_inplace.specs.Changes.{without_key}
use Rattle.btree_inplace.specs.Order.{has_key}
use Rattle.table_trees.specs.NodeTrees.{nodes_in}
use Rattle.table_trees.specs.StoredNodes.{IsShortNode}
use Rattle.table_trees.proofs.NodeChanges.{become, without_in_order}
use Rattle.table_trees.proofs.nodes.NodeTree.remove.Goals as goal

pub returns : goal.returns
returns c =
    let nodes = nodes_in c.args.space.now c.args.self.now in
    let key = c.args.bookmark.now in
    become c.tree_pages_are_own.ensures c.args.space.now c.args.self.now c.remove.new.space (record { tree = c.remove.new.self }) (without_key nodes key) c.requires.tree.tree c.remove.ensures.tree c.remove.ensures.nodes c.remove.ensures.pages
    (without_in_order nodes key c.requires.tree.in_order)
    (All-filter (λ n. not (has_key key n)) IsShortNode nodes c.requires.tree.short) c.remove.ensures.root
