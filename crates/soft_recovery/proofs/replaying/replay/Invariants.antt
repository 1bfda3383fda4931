use Rattle.std.proofs.Common.{◌≤◌, ◌-◌, length}
use Rattle.database_state.specs.State.{DatabaseState}
use Rattle.laws_engine.specs.HoldsState.{HoldsState}
use Rattle.soft_recovery.specs.Replaying.{GoesOn, HasMade}
use Rattle.soft_recovery.proofs.replaying.replay.Given as goal

abbrev pub invariant-loop-at : goal.invariant-loop-at
invariant-loop-at l = record {
  within : l.at ≤ length l.bytes;
  on : GoesOn l.fn.engine l.engine;
  made : (state : DatabaseState) → HoldsState l.fn.engine state → HasMade l.engine l.bytes l.at state;
}

abbrev pub decreases-loop-at : goal.decreases-loop-at
decreases-loop-at l = length l.bytes - l.at
