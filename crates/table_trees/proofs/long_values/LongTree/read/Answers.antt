use Rattle.std.proofs.Common.{◌≡◌, length, if◌then◌else◌}
use Rattle.std.specs.Prelude.{nat_lt}
use Rattle.long_value.specs.Stores.{read_upto}
use Rattle.table_trees.proofs.LongChanges.{held, told}
use Rattle.table_trees.proofs.long_values.LongTree.read.Goals as goal

pub read-requires : goal.read-requires
read-requires c = held c.args.space.now c.args.self.now c.args.id c.requires.tree c.requires.there

pub returns-clause-bytes : goal.returns-clause-bytes
returns-clause-bytes c =
    told c.args.space.now c.args.self.now c.args.id (λ value. c.read.new.into ≡ read_upto c.read.result value.bytes c.args.into.now) c.requires.tree c.requires.there c.read.ensures.bytes

pub returns-clause-count : goal.returns-clause-count
returns-clause-count c =
    told c.args.space.now c.args.self.now c.args.id (λ value. c.read.result ≡ (if nat_lt (length c.args.into.now) (length value.bytes) then length c.args.into.now else length value.bytes)) c.requires.tree c.requires.there c.read.ensures.count
