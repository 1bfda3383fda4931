use Rattle.std.proofs.Common.{sym, subst}
use Rattle.laws_engine.specs.EngineState.{HasRoomForEnds}
use Rattle.engine_core.proofs.applying.apply_alone.Goals as goal

pub apply_entry-requires-clause-room : goal.apply_entry-requires-clause-room
apply_entry-requires-clause-room c =
    subst HasRoomForEnds (sym c.begin.ensures) (c.entries_of_a_step_alone_come_in_turn.ensures.room c.args.engine.now c.args.session.0 c.args.kind.now c.requires.lawful c.requires.room)
