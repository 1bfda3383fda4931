use Rattle.table_trees.specs.LongTrees.{long_values_in}
use Rattle.table_trees.proofs.long_values.LongTree.has.Goals as goal

pub returns : goal.returns
returns c = c.has.ensures.value (long_values_in c.args.space.now c.args.self.now) c.requires
