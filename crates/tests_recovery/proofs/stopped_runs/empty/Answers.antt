use Rattle.std.proofs.Common.{inl, sym, subst}
use Rattle.database_state.specs.State.{empty_state}
use Rattle.laws_engine.specs.EngineState.{empty_engine}
use Rattle.soft_recovery.specs.Replaying.{MayReplay}
use Rattle.tests_recovery.proofs.stopped_runs.empty.Goals as goal

pub returns : goal.returns
returns c =
    let empty = c.an_empty_engine_holds_the_empty_state.ensures in
    let may : MayReplay (empty_engine 1000000) = record { state = empty_state; holds = empty.holds 1000000; sound = c.lawful_entries_keep_states_sound.ensures.empty; room = inl (empty.room 1000000) } in
    subst MayReplay (sym c.new.ensures) may
