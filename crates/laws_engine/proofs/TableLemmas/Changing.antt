-- What entries make of versioned tables.
use Rattle.std.proofs.Common.{◌≡◌, ℕ, ◌+◌, Bool, true, false, not, ◌&&◌, cond, List, [], ◌∷◌, ◌++◌, map, Option, Some, None, refl, sym, ap, ◌∙◌}
use Rattle.std.specs.Prelude.{drop, filter, fold, is_some, nat_lt, if◌then◌else◌}
use Rattle.common_lemmas.proofs.Booleans.{and_right, impossible}
use Rattle.column_set.specs.declared.changes.Change.{Change}
use Rattle.column_set.specs.declared.changes.Change.TheVariants.{Put, Drop, Hold, Add}
use Rattle.index_derive.specs.declared.log.Entry.{Entry}
use Rattle.index_derive.specs.declared.log.EntryKind.TheVariants as entry
use Rattle.database_state.specs.Table.{Table, record_in, table_with_id}
use Rattle.database_state.specs.Changes.{without_copied}
use Rattle.column_set.specs.ChangedRecords.{changed_table, changed_bookmark}
use Rattle.database_state.specs.State.{DatabaseState, PastChange, levels, open_changes_of}
use Rattle.database_state.specs.VersionStore.{cost_of, is_needed}
use Rattle.database_state.specs.View.{newest}
use Rattle.database_state.specs.Conflicts.{has_write_conflict}
use Rattle.database_state.specs.Step.{state_after}
use Rattle.database_state.specs.Lawful.{has_number, is_lawful, is_lawful_at}
use Rattle.laws_versions.specs.Records.{Records, after_item, records_of, records_after, records_after_items}
use Rattle.laws_versions.proofs.ChangeLemmas.Projecting.{projected}
use Rattle.laws_versions.specs.History.{IsHistory, without_rows}
use Rattle.laws_versions.specs.KeptSteps.{new_change as new_kept, committed_own, lowered_own, with_next_number}
use Rattle.laws_versions.specs.Readers.{is_standing}
use Rattle.laws_versions.proofs.HistoryLemmas.EndEntries.{same_definitions, history_cleaned}
use Rattle.laws_versions.proofs.HistoryLemmas.LawfulEntries.{keeps_lawful}
use Rattle.laws_versions.proofs.HistoryLemmas.SeenRecords.{newest_records}
use Rattle.laws_versions.proofs.HistoryLemmas.Viewing.{same_there}
use Rattle.version_store.specs.declared.calls.By.{By}
use Rattle.laws_engine.specs.HeldRecords.{HeldRecord, new_change}
use Rattle.laws_engine.specs.VersionedTables.{VersionedTables, with_change, with_level_released, with_session_committed, without_oldest}
use Rattle.laws_engine.specs.Holding.{AllMatch, Holds, Matches}
use Rattle.laws_engine.proofs.TableLemmas.Ending.{all_appended_match, all_committed_match, all_released_match, committed_change_is, committed_stands, lowered_change_is, lowered_stands, standing_same}
use Rattle.laws_engine.proofs.TableLemmas.Rising.{tables_rise}
use Rattle.laws_engine.proofs.TableLemmas.RisingSteps.{step_keeps_order}

-- ---- a clean

pub cleaned : (base : Records) (dropped : List PastChange) (item : PastChange) (kept : List PastChange) (store : VersionedTables) (state : DatabaseState) → Holds base dropped (item ∷ kept) store state → is_needed state.sessions item ≡ false
    → Holds (if is_standing item then after_item base item else base) (dropped ++ item ∷ []) kept (without_oldest store) state
cleaned base dropped item kept store state h e = record {
  history = history_cleaned base dropped item kept state h.history e;
  rise = h.rise;
  defined = h.defined;
  newest = h.newest;
  in_order = h.in_order;
  held = tail store.held h.held;
}
  where
    tail : (held : List HeldRecord) → AllMatch (item ∷ kept) held → AllMatch kept (drop 1 held)
    tail [] m = absurd m
    tail (first ∷ held) m = m.1

-- ---- ends

commit_defined : (state : DatabaseState) (session : ℕ) → map without_rows (state_after state (record { session = record { 0 = session }; kind = entry.Commit })).tables ≡ map without_rows state.tables
unfolding state_after
commit_defined state session = same_definitions state.tables (open_changes_of session state.past)

pub committed_holds : (base : Records) (dropped kept : List PastChange) (store : VersionedTables) (state : DatabaseState) (session : ℕ) → Holds base dropped kept store state
    → is_lawful state (record { session = record { 0 = session }; kind = entry.Commit }) ≡ true
    → Holds base dropped (map (committed_own session (state.number + 1)) kept) (with_session_committed session (state.number + 1) store) (state_after state (record { session = record { 0 = session }; kind = entry.Commit }))
committed_holds base dropped kept store state session h lawful =
    let made : Entry = record { session = record { 0 = session }; kind = entry.Commit } in
    let after : IsHistory base dropped (map (committed_own session (state.number + 1)) kept) (state_after state made) = keeps_lawful base dropped kept state made h.history lawful in
    record {
      history = after;
      rise = step_keeps_order state made h.rise;
      defined = h.defined ∙ sym (commit_defined state session);
      newest =
          h.newest ∙ newest_records base dropped kept state h.history
          ∙ sym (standing_same (committed_own session (state.number + 1)) (committed_change_is session (state.number + 1)) (committed_stands session (state.number + 1)) kept base)
          ∙ sym (newest_records base dropped (map (committed_own session (state.number + 1)) kept) (state_after state made) after);
      in_order = h.in_order;
      held = all_committed_match session (state.number + 1) kept store.held h.held;
    }

release_defined : (state : DatabaseState) (session : ℕ) → map without_rows (state_after state (record { session = record { 0 = session }; kind = entry.Release })).tables ≡ map without_rows state.tables
unfolding state_after
release_defined state session = refl

pub released_holds : (base : Records) (dropped kept : List PastChange) (store : VersionedTables) (state : DatabaseState) (session : ℕ) → Holds base dropped kept store state
    → is_lawful state (record { session = record { 0 = session }; kind = entry.Release }) ≡ true
    → Holds base dropped (map (lowered_own session (levels state session)) kept) (with_level_released session (levels state session) store) (state_after state (record { session = record { 0 = session }; kind = entry.Release }))
released_holds base dropped kept store state session h lawful =
    let made : Entry = record { session = record { 0 = session }; kind = entry.Release } in
    let after : IsHistory base dropped (map (lowered_own session (levels state session)) kept) (state_after state made) = keeps_lawful base dropped kept state made h.history lawful in
    record {
      history = after;
      rise = step_keeps_order state made h.rise;
      defined = h.defined ∙ sym (release_defined state session);
      newest =
          h.newest ∙ newest_records base dropped kept state h.history
          ∙ sym (standing_same (lowered_own session (levels state session)) (lowered_change_is session (levels state session)) (lowered_stands session (levels state session)) kept base)
          ∙ sym (newest_records base dropped (map (lowered_own session (levels state session)) kept) (state_after state made) after);
      in_order = h.in_order;
      held = all_released_match session (levels state session) kept store.held h.held;
    }

-- ---- a change

standing_snoc : (items : List PastChange) (base : Records) (new : PastChange) → is_standing new ≡ true → records_after_items is_standing base (items ++ new ∷ []) ≡ after_item (records_after_items is_standing base items) new
standing_snoc [] base new e = ap (λ b. fold after_item base (cond b (new ∷ []) [])) e
standing_snoc (item ∷ items) base new e = by (is_standing item) (standing_snoc items (after_item base item) new e) (standing_snoc items base new e)
  where
    by : (b : Bool) → records_after_items is_standing (after_item base item) (items ++ new ∷ []) ≡ after_item (records_after_items is_standing (after_item base item) items) new → records_after_items is_standing base (items ++ new ∷ []) ≡ after_item (records_after_items is_standing base items) new
        → fold after_item base (cond b (item ∷ filter is_standing (items ++ new ∷ [])) (filter is_standing (items ++ new ∷ []))) ≡ after_item (fold after_item base (cond b (item ∷ filter is_standing items) (filter is_standing items))) new
    by true with_it without = with_it
    by false with_it without = without

same_effect : (records : Records) (change : Change) → records_after records (without_copied change) ≡ records_after records change
same_effect records (Put table bookmark copied values) = refl
same_effect records (Drop table bookmark) = refl
same_effect records (Hold table bookmark) = refl
same_effect records (Add table bookmark column amount) = refl

-- a change that may be logged names a table
named_there : (state : DatabaseState) (session : ℕ) (change : Change) → is_lawful state (record { session = record { 0 = session }; kind = entry.Change change }) ≡ true → is_some (table_with_id state.tables (changed_table change)) ≡ true
unfolding is_lawful
named_there state session change e =
    by (table_with_id state.tables (changed_table change)) (and_right (nat_lt 0 (levels state session) && not (has_write_conflict state session change)) _ (and_right (has_number state.number (entry.Change change)) _ e))
  where
    by : (found : Option Table) → is_lawful_at state session found change ≡ true → is_some found ≡ true
    by None e = e
    by (Some found) e = refl

change_defined : (state : DatabaseState) (session : ℕ) (change : Change) → map without_rows (state_after state (record { session = record { 0 = session }; kind = entry.Change change })).tables ≡ map without_rows state.tables
unfolding state_after
change_defined state session change = refl

same_newest : (state : DatabaseState) → newest (with_next_number state) ≡ newest state
unfolding newest
same_newest state = refl

new_matches : (store : VersionedTables) (state : DatabaseState) → records_of store.tables ≡ records_of (newest state) → (by : By) → by.number ≡ state.number + 1 → by.level ≡ levels state by.session.0 → (change : Change)
    → Matches (new_kept by.session.0 change (with_next_number state)) (new_change by change (record_in store.tables (changed_table change) (changed_bookmark change)))
new_matches store state same by number level change = of change (λ i. (same ∙ ap records_of (sym (same_newest state))) i (changed_table change) (changed_bookmark change))
  where
    of : (c : Change) → record_in store.tables (changed_table c) (changed_bookmark c) ≡ record_in (newest (with_next_number state)) (changed_table c) (changed_bookmark c)
        → Matches (new_kept by.session.0 c (with_next_number state)) (new_change by c (record_in store.tables (changed_table c) (changed_bookmark c)))
    of (Put t b copied values) e = record { number = number; session = refl; level = level; kind = refl; table = refl; bookmark = refl; status = refl; before = λ live rewrite. e; cost = ap (cost_of (Put t b None values)) e }
    of (Drop t b) e = record { number = number; session = refl; level = level; kind = refl; table = refl; bookmark = refl; status = refl; before = λ live rewrite. e; cost = ap (cost_of (Drop t b)) e }
    of (Hold t b) e = record { number = number; session = refl; level = level; kind = refl; table = refl; bookmark = refl; status = refl; before = λ live rewrite. impossible rewrite; cost = ap (cost_of (Hold t b)) e }
    of (Add t b column amount) e = record { number = number; session = refl; level = level; kind = refl; table = refl; bookmark = refl; status = refl; before = λ live rewrite. impossible rewrite; cost = ap (cost_of (Add t b column amount)) e }

pub changed_holds : (base : Records) (dropped kept : List PastChange) (store : VersionedTables) (state : DatabaseState) (by : By) (change : Change) → Holds base dropped kept store state
    → by.number ≡ state.number + 1 → by.level ≡ levels state by.session.0 → is_lawful state (record { session = by.session; kind = entry.Change change }) ≡ true
    → Holds base dropped (kept ++ new_kept by.session.0 change (with_next_number state) ∷ []) (with_change by change store) (state_after state (record { session = by.session; kind = entry.Change change }))
changed_holds base dropped kept store state by change h number level lawful =
    let made : Entry = record { session = by.session; kind = entry.Change change } in
    let item : PastChange = new_kept by.session.0 change (with_next_number state) in
    let after : IsHistory base dropped (kept ++ item ∷ []) (state_after state made) = keeps_lawful base dropped kept state made h.history lawful in
    record {
      history = after;
      rise = step_keeps_order state made h.rise;
      defined = same_definitions store.tables (change ∷ []) ∙ h.defined ∙ sym (change_defined state by.session.0 change);
      newest =
          projected store.tables change (same_there store.tables state.tables h.defined (changed_table change) ∙ named_there state by.session.0 change lawful)
          ∙ ap (λ (r : Records). records_after r change) (h.newest ∙ newest_records base dropped kept state h.history)
          ∙ sym (same_effect (records_after_items is_standing base kept) change)
          ∙ sym (standing_snoc kept base item refl)
          ∙ sym (newest_records base dropped (kept ++ item ∷ []) (state_after state made) after);
      in_order = tables_rise store.tables change h.in_order;
      held = all_appended_match kept store.held item (new_change by change (record_in store.tables (changed_table change) (changed_bookmark change))) h.held (new_matches store state h.newest by number level change);
    }
