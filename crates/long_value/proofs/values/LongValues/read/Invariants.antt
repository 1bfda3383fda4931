use Rattle.std.proofs.Common.{◌≡◌}
use Rattle.long_value.specs.Values.{LongValue}
use Rattle.long_value.specs.Stores.{HoldsValue, read_upto}
use Rattle.long_value.proofs.Reading.{bytes_done}
use Rattle.long_value.proofs.values.LongValues.read.Given as goal

abbrev pub invariant-loop-k : goal.invariant-loop-k
invariant-loop-k l = record { read : (value : LongValue) → HoldsValue l.space l.self l.id value → l.into ≡ read_upto (bytes_done l.k l.wanted) value.bytes l.fn.into }
