use Rattle.std.proofs.Common.{◌≡◌}
use Rattle.std.specs.Prelude.{bytes_eq}
use Rattle.table_trees.proofs.LongChanges.{held, told}
use Rattle.table_trees.proofs.long_values.LongTree.equals.Goals as goal

pub equals-requires : goal.equals-requires
equals-requires c = held c.args.space.now c.args.self.now c.args.id c.requires.tree c.requires.there

pub returns : goal.returns
returns c = told c.args.space.now c.args.self.now c.args.id (λ value. c.equals.result ≡ bytes_eq value.bytes c.args.bytes.now) c.requires.tree c.requires.there c.equals.ensures
