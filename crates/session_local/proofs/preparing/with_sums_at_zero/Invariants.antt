use Rattle.std.proofs.Common.{◌≡◌, [], take}
use Rattle.session_local.specs.RecordCalls.{with_sums_at_zero}
use Rattle.session_local.proofs.preparing.with_sums_at_zero.Given as goal

abbrev pub invariant-loop-column : goal.invariant-loop-column
invariant-loop-column l = l.values ≡ with_sums_at_zero (take l.column-index l.columns) []
