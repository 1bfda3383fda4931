-- What is in use.
use Rattle.std.proofs.Common.{◌≡◌, ℕ, false, ◌||◌, List, Option, Some, None, sym, ap, ◌∙◌}
use Rattle.database_state.specs.Table.{Table}
use Rattle.database_state.specs.State.{DatabaseState}
use Rattle.database_state.specs.SchemaChanges.{is_in_use}
use Rattle.version_cleanup.specs.LiveSessions.{LiveState, has_open, has_other_transaction}
use Rattle.laws_engine.specs.EngineState.{EngineState, has_table_open}
use Rattle.laws_engine.specs.HoldsState.{HoldsState}
use Rattle.laws_engine.proofs.EngineLemmas.Sessions.{open_alike, other_alike}

pub use_told : (engine : EngineState) (state : DatabaseState) → HoldsState engine state → (session : ℕ) (table : Option Table) → is_in_use state session table ≡ (has_other_transaction session engine.sessions || has_table_open engine.sessions table)
use_told engine state h session None =
    sym (ap (λ (sessions : List LiveState). has_other_transaction session sessions || false) (sym h.sessions) ∙ ap (λ b. b || false) (other_alike session state.sessions))
use_told engine state h session (Some t) =
    sym (ap (λ (sessions : List LiveState). has_other_transaction session sessions || has_open t.id sessions) (sym h.sessions) ∙ (λ i. other_alike session state.sessions i || open_alike t.id state.sessions i))
