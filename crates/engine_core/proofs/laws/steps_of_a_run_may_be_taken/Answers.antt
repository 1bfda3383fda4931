use Rattle.engine_core.proofs.Runs.{room_for}
use Rattle.engine_core.proofs.laws.steps_of_a_run_may_be_taken.Goals as goal

pub returns-clause-room : goal.returns-clause-room
returns-clause-room c = λ limit engine run step held may. room_for c.ends_always_find_room.ensures.none_live engine may.state step may.holds may.lawful held.room
