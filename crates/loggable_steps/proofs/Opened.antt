-- What an engine without sessions tells of its state.
use Rattle.std.proofs.Common.{◌≡◌, ℕ, Bool, true, false, cond, List, [], ◌∷◌, map, Option, Some, None, refl, sym, ap, ◌∙◌}
use Rattle.std.specs.Prelude.{is_none}
use Rattle.std.specs.List.{AllByRecursion}
use Rattle.common_lemmas.proofs.Booleans.{impossible}
use Rattle.database_state.specs.Table.{Table}
use Rattle.database_state.specs.State.{DatabaseState, LiveSession, PastChange, Status, Transaction, uncommitted, committed, undone, transaction_of}
use Rattle.laws_versions.specs.History.{IsOpenIn, IsPlaced, IsPlacedBy}
use Rattle.version_store.specs.HeldChanges.{is_kept_status}
use Rattle.version_cleanup.specs.LiveSessions.{LiveState, live_state, oldest_begin}
use Rattle.laws_engine.specs.HeldRecords.{HeldRecord, from_oldest_kept}
use Rattle.laws_engine.specs.Holding.{AllMatch}
use Rattle.laws_engine.specs.EngineState.{EngineState, cleaned, engine_of}
use Rattle.laws_engine.specs.HoldsState.{HoldsState}
use Rattle.laws_engine.proofs.EngineLemmas.RecordsAndConflicts.{tables_settled}
use Rattle.loggable_steps.specs.Replays.{closed, opened_state}

no_sessions : (sessions : List LiveSession) → map live_state sessions ≡ [] → sessions ≡ []
no_sessions [] e = refl
no_sessions (s ∷ sessions) e = impossible (ap is_there e)
  where
    is_there : List LiveState → Bool
    is_there [] = true
    is_there (s ∷ ss) = false

outside : (engine : EngineState) (state : DatabaseState) → HoldsState engine state → engine.sessions ≡ [] → (session : ℕ) → transaction_of state session ≡ None
outside engine state h none session = ap (λ (sessions : List LiveSession). transaction_of (record state { sessions = sessions }) session) (no_sessions state.sessions (h.sessions ∙ none))

none_kept : (number : ℕ) (tables : List Table) (transactions : ℕ → Option Transaction) → ((x : ℕ) → transactions x ≡ None) → (items : List PastChange) (held : List HeldRecord) → AllMatch items held
    → AllByRecursion (IsPlaced number tables transactions) items → from_oldest_kept None held ≡ []
none_kept number tables transactions none [] [] m placed = refl
none_kept number tables transactions none [] (h ∷ held) m placed = absurd m
none_kept number tables transactions none (item ∷ items) [] m placed = refl
none_kept number tables transactions none (item ∷ items) (h ∷ held) m placed =
    ap (λ (b : Bool). cond b (h ∷ held) (from_oldest_kept None held)) (ap (is_kept_status None) m.0.status ∙ unneeded item.status placed.0.2)
    ∙ none_kept number tables transactions none items held m.1 placed.1
  where
    gone : (t : Option Transaction) → t ≡ None → IsOpenIn item t → ⊥
    gone None e is = is
    gone (Some t) e is = impossible (ap is_none e)

    unneeded : (s : Status) → IsPlacedBy number transactions item s → is_kept_status None s ≡ false
    unneeded uncommitted is = absurd (gone (transactions item.session) (none item.session) is)
    unneeded (committed at) is = refl
    unneeded undone is = refl

pub opened_told : (engine : EngineState) (state : DatabaseState) → HoldsState engine state → engine.sessions ≡ [] → opened_state engine ≡ closed state
opened_told engine state h none =
    λ i. record { number = sym h.number i; greatest_table = sym h.greatest i; tables = tables_settled engine state h (outside engine state h none) i; sessions = []; past = [] }

pub cleaned_told : (engine : EngineState) (state : DatabaseState) → HoldsState engine state → engine.sessions ≡ [] → cleaned engine ≡ engine_of engine.limit engine.newest_put (closed state)
cleaned_told engine state h none = λ i. record {
  limit = engine.limit;
  number = sym h.number i;
  greatest_table = sym h.greatest i;
  newest_put = engine.newest_put;
  sessions = none i;
  store = record {
    tables = tables_settled engine state h (outside engine state h none) i;
    held = (ap (λ (sessions : List LiveState). from_oldest_kept (oldest_begin sessions) engine.store.held) none
        ∙ none_kept state.number state.tables (transaction_of state) (outside engine state h none) h.kept engine.store.held h.holds.held h.reached.history.keeps.placed) i;
  };
}
