use Rattle.std.proofs.Common.{◌≡◌, ◌*◌, take}
use Rattle.long_value.specs.Values.{LongValue}
use Rattle.long_value.specs.Stores.{HoldsValue}
use Rattle.long_value.proofs.values.LongValues.equals.Given as goal

abbrev pub invariant-loop-k : goal.invariant-loop-k
invariant-loop-k l = record { same : (value : LongValue) → HoldsValue l.space l.self l.id value → take (1024 * l.k) value.bytes ≡ take (1024 * l.k) l.bytes }
