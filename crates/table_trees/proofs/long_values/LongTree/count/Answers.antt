use Rattle.std.proofs.Common.{◌≡◌}
use Rattle.table_trees.proofs.LongChanges.{held, told}
use Rattle.table_trees.proofs.long_values.LongTree.count.Goals as goal

pub count-requires : goal.count-requires
count-requires c = held c.args.space.now c.args.self.now c.args.id c.requires.tree c.requires.there

pub returns : goal.returns
returns c = told c.args.space.now c.args.self.now c.args.id (λ value. c.count.result ≡ value.count) c.requires.tree c.requires.there c.count.ensures
