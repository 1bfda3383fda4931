use Rattle.std.proofs.Common.{◌≤◌, ◌+◌, length}
use Rattle.column_set.proofs.Walking.{Walk}
use Rattle.column_set.proofs.row_ref.count_of.Given as goal

abbrev pub invariant-loop-number : goal.invariant-loop-number
invariant-loop-number l = Walk l.column l.fn.bytes l.rest l.count × (l.count + length l.rest ≤ length l.fn.bytes)

abbrev pub decreases-loop-number : goal.decreases-loop-number
decreases-loop-number l = length l.rest
