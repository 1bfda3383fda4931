-- The engine after a clean, and after a whole step.
use Rattle.std.proofs.Common.{◌≡◌, ℕ, Bool, true, false, cond, List, [], ◌∷◌, ◌++◌, map, Option, Some, refl, sym, ◌∙◌}
use Rattle.index_derive.specs.declared.log.Step.{Step}
use Rattle.index_derive.specs.Steps.{entries_of_step}
use Rattle.database_state.specs.Table.{Table}
use Rattle.database_state.specs.State.{DatabaseState, LiveSession, PastChange, Status}
use Rattle.database_state.specs.Step.{state_after_all}
use Rattle.database_state.specs.VersionStore.{is_needed, is_needed_status}
use Rattle.laws_versions.specs.Records.{Records, after_item}
use Rattle.laws_versions.specs.Readers.{is_standing}
use Rattle.laws_versions.specs.EachRecord.{EachRecordHas}
use Rattle.laws_versions.specs.StoredRecords.{IsStored}
use Rattle.laws_versions.proofs.RecordLemmas.StoredSums.{stored_cleaned_with_sums}
use Rattle.version_store.specs.HeldChanges.{is_kept_status}
use Rattle.version_cleanup.specs.LiveSessions.{live_state, oldest_begin}
use Rattle.version_cleanup.specs.NeededLaws.{needed-kept}
use Rattle.laws_engine.specs.HeldRecords.{HeldRecord, from_oldest_kept}
use Rattle.laws_engine.specs.VersionedTables.{VersionedTables}
use Rattle.laws_engine.specs.Holding.{Holds, Matches}
use Rattle.laws_engine.proofs.TableLemmas.Changing.{cleaned as held_cleaned}
use Rattle.laws_engine.specs.EntryTypes.{AreOfTheirTypes}
use Rattle.laws_engine.specs.LawfulSteps.{AreLawful, IsReached}
use Rattle.laws_engine.proofs.LawfulLemmas.ReachedStates.{cleaned as reached_cleaned}
use Rattle.session_local.specs.BuiltTables.{AllMakeBuilt}
use Rattle.laws_engine.specs.EngineState.{EngineState, cleaned}
use Rattle.laws_engine.specs.EngineSteps.{cleaned_for, engine_after_step, step_cleans}
use Rattle.laws_engine.specs.HoldsState.{HoldsState}
use Rattle.laws_engine.proofs.EngineLemmas.AfterEntries.{entries_hold}

-- what a clean leaves of the history of a state
record HasStore (store : VersionedTables) (state : DatabaseState) : Type 0 where
  base : Records
  dropped : List PastChange
  kept : List PastChange
  reached : IsReached base dropped kept state
  holds : Holds base dropped kept store state
  stored : EachRecordHas IsStored base kept state

store_cleaned : (state : DatabaseState) (tables : List Table) (oldest : Option ℕ) → ((item : PastChange) (r : HeldRecord) → Matches item r → is_kept_status oldest r.status ≡ is_needed state.sessions item)
    → (held : List HeldRecord) (base : Records) (dropped kept : List PastChange) → IsReached base dropped kept state → Holds base dropped kept (record { tables = tables; held = held }) state → EachRecordHas IsStored base kept state
    → HasStore (record { tables = tables; held = from_oldest_kept oldest held }) state
store_cleaned state tables oldest same [] base dropped kept reached holds stored = record { base = base; dropped = dropped; kept = kept; reached = reached; holds = holds; stored = stored }
store_cleaned state tables oldest same (r ∷ held) base dropped [] reached holds stored = absurd holds.held
store_cleaned state tables oldest same (r ∷ held) base dropped (item ∷ kept) reached holds stored =
    elim (is_kept_status oldest r.status) as (λ b. is_kept_status oldest r.status ≡ b → HasStore (record { tables = tables; held = cond b (r ∷ held) (from_oldest_kept oldest held) }) state) [
      | true ↦ λ e. record { base = base; dropped = dropped; kept = item ∷ kept; reached = reached; holds = holds; stored = stored }
      | false ↦ λ e.
          let unneeded : is_needed state.sessions item ≡ false = sym (same item r holds.held.0) ∙ e in
          store_cleaned state tables oldest same held (cond (is_standing item) (after_item base item) base) (dropped ++ item ∷ []) kept
          (reached_cleaned base dropped item kept state reached unneeded)
          (held_cleaned base dropped item kept (record { tables = tables; held = r ∷ held }) state holds unneeded)
          (stored_cleaned_with_sums base dropped item kept state reached.history reached.numbers stored)
    ] refl

-- the law that a change is kept where the state needs it
abbrev pub KeepsNeeded : Type 0
KeepsNeeded = (sessions : List LiveSession) (status : Status) → is_kept_status (oldest_begin (map live_state sessions)) status ≡ is_needed_status sessions status

pub clean_holds : KeepsNeeded → (engine : EngineState) (state : DatabaseState) → HoldsState engine state → HoldsState (cleaned engine) state
clean_holds keeps engine state h =
    let left = store_cleaned state engine.store.tables (oldest_begin engine.sessions)
    (λ item r m. (λ i. is_kept_status (oldest_begin (sym h.sessions i)) (m.status i)) ∙ keeps state.sessions item.status)
    engine.store.held h.base h.dropped h.kept h.reached h.holds h.stored in
    record {
      base = left.base;
      dropped = left.dropped;
      kept = left.kept;
      reached = left.reached;
      holds = left.holds;
      stored = left.stored;
      number = h.number;
      greatest = h.greatest;
      newest = h.newest;
      sessions = h.sessions;
      labels = h.labels;
      built = h.built;
    }

-- ---- a whole step

abbrev pub CleanHolds : Type 0
CleanHolds = (engine : EngineState) (state : DatabaseState) → HoldsState engine state → HoldsState (cleaned engine) state

pub clean_for_holds : CleanHolds → (b : Bool) (engine : EngineState) (state : DatabaseState) → HoldsState engine state → HoldsState (cleaned_for b engine) state
clean_for_holds cleans true engine state h = cleans engine state h
clean_for_holds cleans false engine state h = h

pub step_holds : (engine : EngineState) (state : DatabaseState) (step : Step) → HoldsState engine state → AreLawful state (entries_of_step (Some step)) → AllMakeBuilt (entries_of_step (Some step)) → AreOfTheirTypes (entries_of_step (Some step))
    → HoldsState (engine_after_step engine step) (state_after_all state (entries_of_step (Some step)))
step_holds engine state step h lawful built types =
    entries_hold (cleaned_for (step_cleans step) engine) state (entries_of_step (Some step)) (clean_for_holds (clean_holds needed-kept) (step_cleans step) engine state h) lawful built types
