-- The engine after an entry, after a clean and after a step.
use Rattle.std.proofs.Common.{◌≡◌, ℕ, ◌+◌, ◌-◌, ◌≤◌, Bool, true, false, cond, List, [], ◌∷◌, None, refl, sym, ap, subst, ◌∙◌, inr, arith}
use Rattle.std.specs.Prelude.{nat_lt}
use Rattle.column_set.specs.declared.changes.Change.{Change}
use Rattle.column_set.specs.declared.changes.Change.TheVariants.{Put, Drop, Hold, Add}
use Rattle.index_derive.specs.declared.log.Entry.{Entry}
use Rattle.index_derive.specs.declared.log.EntryKind.{EntryKind}
use Rattle.index_derive.specs.declared.log.EntryKind.TheVariants as entry
use Rattle.index_derive.specs.declared.schema_calls.SchemaStep.TheVariants as step
use Rattle.database_state.specs.State.{DatabaseState, LiveSession, PastChange, levels, undone}
use Rattle.database_state.specs.Step.{applied, entry_by, innermost_undone, is_at_level, state_after, state_after_all, with_changes_at, with_levels, with_transaction}
use Rattle.database_state.specs.Lawful.{is_lawful}
use Rattle.laws_versions.specs.KeptSteps.{base_after, dropped_after, kept_after, with_next_number}
use Rattle.laws_versions.proofs.HistoryLemmas.Labels.{labels_rise}
use Rattle.laws_versions.proofs.KeyLemmas.OneEntry.{one_entry}
use Rattle.laws_versions.specs.RecordNumbers.{HasItsType}
use Rattle.laws_versions.specs.StoredRecords.{leaves_records_short}
use Rattle.laws_versions.proofs.RecordLemmas.StoredSums.{stored_kept_with_sums}
use Rattle.version_cleanup.specs.LiveSessions.{levels_in, sessions_after}
use Rattle.version_cleanup.specs.SessionLaws.{entries-alike}
use Rattle.laws_engine.specs.HeldRecords.{is_open_at}
use Rattle.laws_engine.specs.VersionedTables.{with_changes_undone, with_level_released, with_session_committed}
use Rattle.laws_engine.specs.Holding.{Holds}
use Rattle.laws_engine.proofs.TableLemmas.Changing.{changed_holds, committed_holds, released_holds}
use Rattle.laws_engine.proofs.TableLemmas.SchemaStepping.{stepped_holds}
use Rattle.laws_engine.proofs.TableLemmas.Unchanged.{unchanged_holds}
use Rattle.laws_engine.proofs.TableLemmas.Undoing.{all_undone_holds, left_holds, undone_holds}
use Rattle.laws_engine.specs.EntryTypes.{AreOfTheirTypes}
use Rattle.laws_engine.specs.LawfulSteps.{AreLawful, IsReached}
use Rattle.laws_engine.proofs.LawfulLemmas.ReachedStates.{reaches}
use Rattle.session_local.specs.BuiltTables.{AllMakeBuilt, makes_built}
use Rattle.laws_engine.proofs.EngineLemmas.BuiltColumns.{not_numbered}
use Rattle.laws_engine.specs.EngineState.{EngineState}
use Rattle.laws_engine.specs.EngineSteps.{engine_after, engine_after_all, greatest_after, maker, newest_after, newest_with, store_after}
use Rattle.laws_engine.specs.HoldsState.{HoldsState}
use Rattle.laws_engine.proofs.EngineLemmas.Sessions.{levels_alike}
use Rattle.laws_engine.proofs.EngineLemmas.Tables.{built_kept}

pub levels_told : (engine : EngineState) (state : DatabaseState) → HoldsState engine state → (session : ℕ) → levels_in session engine.sessions ≡ levels state session
levels_told engine state h session = ap (levels_in session) (sym h.sessions) ∙ levels_alike session state

-- ---- the tables and the held changes

store_holds : (engine : EngineState) (state : DatabaseState) (session : ℕ) (kind : EntryKind) → (h : HoldsState engine state) → is_lawful state (entry_by session kind) ≡ true
    → Holds (base_after state kind h.base) (dropped_after kind h.dropped h.kept) (kept_after state session kind h.kept) (store_after engine session kind) (state_after state (entry_by session kind))
store_holds engine state session entry.Enter h e = unchanged_holds h.base h.dropped h.kept engine.store state session entry.Enter refl h.holds e
store_holds engine state session (entry.Open table) h e = unchanged_holds h.base h.dropped h.kept engine.store state session (entry.Open table) refl h.holds e
store_holds engine state session (entry.Shut table) h e = unchanged_holds h.base h.dropped h.kept engine.store state session (entry.Shut table) refl h.holds e
store_holds engine state session entry.Begin h e = unchanged_holds h.base h.dropped h.kept engine.store state session entry.Begin refl h.holds e
store_holds engine state session entry.Save h e = unchanged_holds h.base h.dropped h.kept engine.store state session entry.Save refl h.holds e
store_holds engine state session entry.Leave h e = left_holds h.base h.dropped h.kept engine.store state session h.holds (inr h.reached.numbers) e
store_holds engine state session entry.UndoAll h e = all_undone_holds h.base h.dropped h.kept engine.store state session h.holds (inr h.reached.numbers) e
store_holds engine state session entry.Undo h e =
    subst (λ (n : ℕ). Holds h.base h.dropped (kept_after state session entry.Undo h.kept) (with_changes_undone (is_open_at session n) engine.store) (state_after state (entry_by session entry.Undo)))
    (sym (levels_told engine state h session)) (undone_holds h.base h.dropped h.kept engine.store state session h.holds (inr h.reached.numbers) e)
store_holds engine state session entry.Release h e =
    subst (λ (n : ℕ). Holds h.base h.dropped (kept_after state session entry.Release h.kept) (with_level_released session n engine.store) (state_after state (entry_by session entry.Release)))
    (sym (levels_told engine state h session)) (released_holds h.base h.dropped h.kept engine.store state session h.holds e)
store_holds engine state session entry.Commit h e =
    subst (λ (n : ℕ). Holds h.base h.dropped (kept_after state session entry.Commit h.kept) (with_session_committed session (n + 1) engine.store) (state_after state (entry_by session entry.Commit)))
    h.number (committed_holds h.base h.dropped h.kept engine.store state session h.holds e)
store_holds engine state session (entry.Change change) h e =
    changed_holds h.base h.dropped h.kept engine.store state (maker engine session) change h.holds (ap (λ (n : ℕ). n + 1) (sym h.number)) (levels_told engine state h session) e
store_holds engine state session (entry.Schema made) h e = stepped_holds h.base h.dropped h.kept engine.store state session made h.holds e

-- ---- an entry

-- what an undone level leaves, but for the past and the sessions
undone_rest : (state : DatabaseState) (session : ℕ) (kind : EntryKind) → kind ≡ entry.Undo → {X : Type 0} (field : DatabaseState → X) → ((one : List PastChange) (other : List LiveSession) → field (record state { number = state.number + 1; past = one; sessions = other }) ≡ field (record state { number = state.number + 1 }))
    → field (innermost_undone session (with_next_number state)) ≡ field (record state { number = state.number + 1 })
undone_rest state session kind is field same = either (nat_lt 1 (levels state session))
  where
    undoing : DatabaseState
    undoing = with_changes_at session (is_at_level (levels state session)) (λ item. record item { status = undone }) (with_next_number state)

    either : (b : Bool) → field (cond b (with_levels session (λ n. n - 1) undoing) (with_transaction session None undoing)) ≡ field (record state { number = state.number + 1 })
    either true = same undoing.past (with_levels session (λ n. n - 1) undoing).sessions
    either false = same undoing.past (with_transaction session None undoing).sessions

number_after : (state : DatabaseState) (session : ℕ) (kind : EntryKind) → (applied session kind (with_next_number state)).number ≡ state.number + 1
number_after state session entry.Enter = refl
number_after state session entry.Leave = refl
number_after state session (entry.Open table) = refl
number_after state session (entry.Shut table) = refl
number_after state session entry.Begin = refl
number_after state session entry.Save = refl
number_after state session (entry.Change change) = refl
number_after state session entry.Release = refl
number_after state session entry.Undo = undone_rest state session entry.Undo refl (λ (s : DatabaseState). s.number) (λ one other. refl)
number_after state session entry.UndoAll = refl
number_after state session entry.Commit = refl
number_after state session (entry.Schema made) = refl

greatest_stays : (state : DatabaseState) (session : ℕ) (kind : EntryKind) → (applied session kind (with_next_number state)).greatest_table ≡ greatest_after state.greatest_table kind
greatest_stays state session entry.Enter = refl
greatest_stays state session entry.Leave = refl
greatest_stays state session (entry.Open table) = refl
greatest_stays state session (entry.Shut table) = refl
greatest_stays state session entry.Begin = refl
greatest_stays state session entry.Save = refl
greatest_stays state session (entry.Change change) = refl
greatest_stays state session entry.Release = refl
greatest_stays state session entry.Undo = undone_rest state session entry.Undo refl (λ (s : DatabaseState). s.greatest_table) (λ one other. refl)
greatest_stays state session entry.UndoAll = refl
greatest_stays state session entry.Commit = refl
greatest_stays state session (entry.Schema made) = refl

-- no put comes after the last entry
newest_within : (number newest : ℕ) (kind : EntryKind) → newest ≤ number → newest_after (number + 1) kind newest ≤ number + 1
newest_within number newest kind h = by kind
  where
    later : newest ≤ number + 1
    later = omega (arith, h)

    of_change : (made : Change) → newest_with (number + 1) made newest ≤ number + 1
    of_change (Put table bookmark copied values) = omega arith
    of_change (Drop table bookmark) = later
    of_change (Hold table bookmark) = later
    of_change (Add table bookmark column amount) = later

    by : (kind : EntryKind) → newest_after (number + 1) kind newest ≤ number + 1
    by (entry.Change made) = of_change made
    by _ = later

-- an entry that makes only what is built leaves no record short
short_of : (kind : EntryKind) → makes_built kind ≡ true → leaves_records_short kind ≡ false
short_of (entry.Schema (step.AddColumn table column)) e = not_numbered column e
short_of (entry.Schema (step.CreateTable table name)) e = refl
short_of (entry.Schema (step.DeleteTable table)) e = refl
short_of (entry.Schema (step.DeleteColumn table column)) e = refl
short_of (entry.Schema (step.CreateIndex table rule)) e = refl
short_of (entry.Schema (step.DeleteIndex table index)) e = refl
short_of _ e = refl

pub entry_holds : (engine : EngineState) (state : DatabaseState) (made : Entry) → HoldsState engine state → is_lawful state made ≡ true → makes_built made.kind ≡ true → HasItsType made.kind
    → HoldsState (engine_after engine made) (state_after state made)
unfolding state_after
entry_holds engine state made h e built type =
    let session = made.session.0 in
    let reached : IsReached (base_after state made.kind h.base) (dropped_after made.kind h.dropped h.kept) (kept_after state session made.kind h.kept) (state_after state made) = reaches one_entry h.base h.dropped h.kept state made h.reached e type in
    record {
      base = base_after state made.kind h.base;
      dropped = dropped_after made.kind h.dropped h.kept;
      kept = kept_after state session made.kind h.kept;
      reached = reached;
      holds = store_holds engine state session made.kind h e;
      stored = stored_kept_with_sums h.base h.dropped h.kept state made h.reached.history e h.reached.numbers type (short_of made.kind built) h.stored;
      number = number_after state session made.kind ∙ ap (λ (n : ℕ). n + 1) h.number;
      greatest = greatest_stays state session made.kind ∙ ap (λ (n : ℕ). greatest_after n made.kind) h.greatest;
      newest = newest_within engine.number engine.newest_put made.kind h.newest;
      sessions = entries-alike state made ∙ (λ i. sessions_after (h.number i + 1) session made.kind (h.sessions i));
      labels = labels_rise state made h.labels e;
      built = built_kept state made reached.order.ids e built h.built;
    }

pub entries_hold : (engine : EngineState) (state : DatabaseState) (entries : List Entry) → HoldsState engine state → AreLawful state entries → AllMakeBuilt entries → AreOfTheirTypes entries → HoldsState (engine_after_all engine entries) (state_after_all state entries)
entries_hold engine state [] h lawful built types = h
entries_hold engine state (made ∷ entries) h lawful built types =
    entries_hold (engine_after engine made) (state_after state made) entries (entry_holds engine state made h lawful.0 built.0 types.0) lawful.1 built.1 types.1
