-- The tree's pages are free, and no other page has changed.
use Rattle.std.proofs.Common.{[]}
use Rattle.table_trees.specs.LongTrees.{long_pages, long_values_in}
use Rattle.table_trees.proofs.Pages.{nothing_own, rearranged}
use Rattle.table_trees.proofs.long_values.LongTree.give_back.Goals as goal

pub give_back-requires : goal.give_back-requires
give_back-requires c = (long_values_in c.args.space.now c.args.self, c.requires)

pub returns : goal.returns
returns c =
    rearranged c.args.space.now c.give_back.new.space (long_pages c.args.space.now c.args.self) [] c.give_back.ensures
    (c.tree_pages_are_own.ensures c.args.space.now c.args.self.store.tree c.requires.tree) (nothing_own c.give_back.new.space)
