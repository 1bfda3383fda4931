-- The state that the engine holds stays when the oldest held changes go that no reader needs.
use Rattle.std.proofs.Common.{◌≡◌, ℕ, zero, suc, cond, List, [], ◌∷◌, ◌++◌, Option, sym, ◌∙◌}
use Rattle.std.specs.Prelude.{false, drop}
use Rattle.database_state.specs.Table.{Table}
use Rattle.database_state.specs.State.{DatabaseState, PastChange}
use Rattle.database_state.specs.VersionStore.{is_needed}
use Rattle.laws_versions.specs.Records.{Records, after_item}
use Rattle.laws_versions.specs.Readers.{is_standing}
use Rattle.laws_versions.specs.EachRecord.{EachRecordHas}
use Rattle.laws_versions.specs.StoredRecords.{IsStored}
use Rattle.laws_versions.proofs.RecordLemmas.StoredSums.{stored_cleaned_with_sums}
use Rattle.version_store.specs.HeldChanges.{is_kept_status}
use Rattle.version_cleanup.specs.LiveSessions.{oldest_begin}
use Rattle.laws_engine.specs.HeldRecords.{HeldRecord}
use Rattle.laws_engine.specs.VersionedTables.{VersionedTables}
use Rattle.laws_engine.specs.Holding.{Holds, Matches}
use Rattle.laws_engine.proofs.TableLemmas.Changing.{cleaned as held_cleaned}
use Rattle.laws_engine.specs.LawfulSteps.{IsReached}
use Rattle.laws_engine.proofs.LawfulLemmas.ReachedStates.{cleaned as reached_cleaned}
use Rattle.laws_engine.specs.EngineState.{EngineState}
use Rattle.laws_engine.specs.HoldsState.{HoldsState}
use Rattle.laws_engine.proofs.EngineLemmas.Cleans.{KeepsNeeded}
use Rattle.engine_core.specs.Cleans.{AreUnneeded, CanGo, without_oldest_held}

-- what the engine's store says of a state, whichever history it has
record HasStore (store : VersionedTables) (state : DatabaseState) : Type 0 where
  base : Records
  dropped : List PastChange
  kept : List PastChange
  reached : IsReached base dropped kept state
  holds : Holds base dropped kept store state
  stored : EachRecordHas IsStored base kept state

store_without : (state : DatabaseState) (tables : List Table) (oldest : Option ℕ) → ((item : PastChange) (r : HeldRecord) → Matches item r → is_kept_status oldest r.status ≡ is_needed state.sessions item)
    → (n : ℕ) (held : List HeldRecord) → AreUnneeded oldest n held → (base : Records) (dropped kept : List PastChange) → IsReached base dropped kept state → Holds base dropped kept (record { tables = tables; held = held }) state → EachRecordHas IsStored base kept state
    → HasStore (record { tables = tables; held = drop n held }) state
store_without state tables oldest same zero held u base dropped kept reached holds stored = record { base = base; dropped = dropped; kept = kept; reached = reached; holds = holds; stored = stored }
store_without state tables oldest same (suc n) [] u base dropped kept reached holds stored = record { base = base; dropped = dropped; kept = kept; reached = reached; holds = holds; stored = stored }
store_without state tables oldest same (suc n) (r ∷ held) u base dropped [] reached holds stored = absurd holds.held
store_without state tables oldest same (suc n) (r ∷ held) u base dropped (item ∷ kept) reached holds stored =
    let unneeded : is_needed state.sessions item ≡ false = sym (same item r holds.held.0) ∙ u.0 in
    store_without state tables oldest same n held u.1 (cond (is_standing item) (after_item base item) base) (dropped ++ item ∷ []) kept
    (reached_cleaned base dropped item kept state reached unneeded)
    (held_cleaned base dropped item kept (record { tables = tables; held = r ∷ held }) state holds unneeded)
    (stored_cleaned_with_sums base dropped item kept state reached.history reached.numbers stored)

pub given_up : KeepsNeeded → (count : ℕ) (engine : EngineState) (state : DatabaseState) → CanGo count engine → HoldsState engine state → HoldsState (without_oldest_held count engine) state
given_up keeps count engine state u h =
    let left = store_without state engine.store.tables (oldest_begin engine.sessions)
    (λ item r m. (λ i. is_kept_status (oldest_begin (sym h.sessions i)) (m.status i)) ∙ keeps state.sessions item.status)
    count engine.store.held u h.base h.dropped h.kept h.reached h.holds h.stored in
    record {
      base = left.base;
      dropped = left.dropped;
      kept = left.kept;
      reached = left.reached;
      holds = left.holds;
      stored = left.stored;
      number = h.number;
      greatest = h.greatest;
      newest = h.newest;
      sessions = h.sessions;
      labels = h.labels;
      built = h.built;
    }
