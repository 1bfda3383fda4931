-- The tree's pages are free, and no other page has changed.
use Rattle.std.proofs.Common.{[]}
use Rattle.table_trees.specs.NodeTrees.{node_pages}
use Rattle.table_trees.proofs.Pages.{nothing_own, rearranged}
use Rattle.table_trees.proofs.nodes.NodeTree.give_back.Goals as goal

pub returns : goal.returns
returns c =
    rearranged c.args.space.now c.give_back.new.space (node_pages c.args.space.now c.args.self) [] c.give_back.ensures.pages
    (c.tree_pages_are_own.ensures c.args.space.now c.args.self.tree c.requires.tree) (nothing_own c.give_back.new.space)
