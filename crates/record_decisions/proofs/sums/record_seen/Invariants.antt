use Rattle.std.proofs.Common.{take}
use Rattle.record_decisions.specs.Preparing.{values_seen}
use Rattle.record_decisions.proofs.SeenRecords.{SumsPut}
use Rattle.record_decisions.proofs.sums.record_seen.Given as goal

-- the escrow columns so far are as the session sees them
abbrev pub invariant-loop-column : goal.invariant-loop-column
invariant-loop-column l = SumsPut (take l.column-index l.columns) l.row (values_seen l.engine l.session.0 l.found) l.made
