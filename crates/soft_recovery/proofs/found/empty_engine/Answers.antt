use Rattle.std.proofs.Common.{None, sym, ap, subst}
use Rattle.laws_engine.specs.EngineState.{EngineState, HasRoomForEnds}
use Rattle.soft_recovery.specs.Recovering.{HoldsShown}
use Rattle.soft_recovery.specs.Replaying.{MayReplay}
use Rattle.soft_recovery.proofs.ShownEngines.{empty_shown, may_replay_nothing}
use Rattle.soft_recovery.proofs.found.empty_engine.Goals as goal

pub returns-clause-may : goal.returns-clause-may
returns-clause-may c =
    let empty = c.an_empty_engine_holds_the_empty_state.ensures in
    subst MayReplay (sym c.new.ensures) (may_replay_nothing c.args.limit (empty.holds c.args.limit) c.lawful_entries_keep_states_sound.ensures.empty (empty.room c.args.limit))

pub returns-clause-shown : goal.returns-clause-shown
returns-clause-shown c = subst (HoldsShown None) (sym c.new.ensures) (empty_shown c.args.limit (c.an_empty_engine_holds_the_empty_state.ensures.holds c.args.limit))

pub returns-clause-limit : goal.returns-clause-limit
returns-clause-limit c = ap (λ (e : EngineState). e.limit) c.new.ensures

pub returns-clause-room : goal.returns-clause-room
returns-clause-room c = subst HasRoomForEnds (sym c.new.ensures) (c.an_empty_engine_holds_the_empty_state.ensures.room c.args.limit)

pub returns-clause-numbers : goal.returns-clause-numbers
returns-clause-numbers c = (ap (λ (e : EngineState). e.number) c.new.ensures, ap (λ (e : EngineState). e.sessions) c.new.ensures)
