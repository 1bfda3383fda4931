-- What the engine holds tells of a state that it holds: its sessions.
use Rattle.std.proofs.Common.{◌≡◌, ℕ, List, length, sym, ap, ◌∙◌}
use Rattle.database_state.specs.State.{DatabaseState, levels}
use Rattle.version_cleanup.specs.LiveSessions.{LiveState, levels_in}
use Rattle.laws_engine.specs.EngineState.{EngineState}
use Rattle.laws_engine.specs.HoldsState.{HoldsState}
use Rattle.laws_engine.proofs.EngineLemmas.Sessions.{count_alike, levels_alike}

pub levels-told : (engine : EngineState) (state : DatabaseState) (session : ℕ) → HoldsState engine state → levels state session ≡ levels_in session engine.sessions
levels-told engine state session h = sym (levels_alike session state) ∙ ap (levels_in session) h.sessions

pub sessions-told : (engine : EngineState) (state : DatabaseState) → HoldsState engine state → length state.sessions ≡ length engine.sessions
sessions-told engine state h = sym (count_alike state.sessions) ∙ ap (λ (sessions : List LiveState). length sessions) h.sessions
