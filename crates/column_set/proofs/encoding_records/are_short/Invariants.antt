use Rattle.std.proofs.Common.{◌≡◌, take, true}
use Rattle.column_set.specs.Rows.{are_short}
use Rattle.column_set.proofs.encoding_records.are_short.Given as goal

abbrev pub invariant-loop-value : goal.invariant-loop-value
invariant-loop-value l = are_short (take l.value-index l.values) ≡ true
