use Rattle.std.proofs.Common.{◌≡◌, sym, ap, subst, ◌∙◌}
use Rattle.database_state.specs.State.{DatabaseState}
use Rattle.laws_engine.specs.EngineState.{EngineState, engine_of}
use Rattle.laws_engine.specs.HoldsState.{HoldsState}
use Rattle.loggable_steps.specs.Replays.{closed, opened_state}
use Rattle.engine_core.specs.LoggedState.{LoggedState}
use Rattle.engine_core.proofs.Rooms.{room_closed}
use Rattle.engine_core.proofs.logging.logged.LoggedEngine.close.Goals as goal

pub invariant_of-self : goal.invariant_of-self
invariant_of-self c =
    let held = subst (λ (s : LoggedState). HoldsState s.engine c.requires.held.0) (sym c.self.view_is) c.requires.held.1 in
    room_closed c.close.new.engine c.new_log.result c.none-self-inside.result (ap (λ (e : EngineState). e.sessions) (c.close.ensures c.requires.held.0 held)) c.new_log.ensures c.none-self-inside.ensures

pub returns-clause-engine : goal.returns-clause-engine
returns-clause-engine c = λ state h.
    c.close.ensures state (subst (λ (s : LoggedState). HoldsState s.engine state) (sym c.self.view_is) h)
    ∙ ap (λ (s : LoggedState). engine_of s.engine.limit s.engine.newest_put (closed state)) c.self.view_is

pub returns-clause-state : goal.returns-clause-state
returns-clause-state c = λ state h.
    ap opened_state (c.close.ensures state (subst (λ (s : LoggedState). HoldsState s.engine state) (sym c.self.view_is) h))
    ∙ c.an_engine_without_sessions_tells_its_state.ensures.opened c.self.inside.engine.limit c.self.inside.engine.newest_put state
