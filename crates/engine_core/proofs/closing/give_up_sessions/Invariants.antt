use Rattle.std.proofs.Common.{◌-◌, ◌≤◌}
use Rattle.engine_core.specs.Closing.{IsGivenUpTo}
use Rattle.engine_core.proofs.closing.give_up_sessions.Given as goal

abbrev pub invariant-loop-label : goal.invariant-loop-label
invariant-loop-label l = record { given_up : IsGivenUpTo l.label l.fn.engine l.engine; within : l.label ≤ 100 }

abbrev pub decreases-loop-label : goal.decreases-loop-label
decreases-loop-label l = 100 - l.label
