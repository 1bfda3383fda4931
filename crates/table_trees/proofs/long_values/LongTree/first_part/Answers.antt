use Rattle.std.proofs.Common.{◌≡◌, take}
use Rattle.table_trees.proofs.LongChanges.{held, told}
use Rattle.table_trees.proofs.long_values.LongTree.first_part.Goals as goal

pub first_part-requires : goal.first_part-requires
first_part-requires c = held c.args.space.now c.args.self.now c.args.id c.requires.tree c.requires.there

pub returns : goal.returns
returns c = told c.args.space.now c.args.self.now c.args.id (λ value. c.first_part.result.now ≡ take 1024 value.bytes) c.requires.tree c.requires.there c.first_part.ensures
