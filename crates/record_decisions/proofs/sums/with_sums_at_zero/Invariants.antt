use Rattle.std.proofs.Common.{◌≡◌, take}
use Rattle.session_local.specs.RecordCalls.{with_sums_at_zero}
use Rattle.record_decisions.proofs.sums.with_sums_at_zero.Given as goal

-- the escrow columns so far are at 0
abbrev pub invariant-loop-column : goal.invariant-loop-column
invariant-loop-column l = l.made ≡ with_sums_at_zero (take l.column-index l.columns) l.fn.values
