-- Every kept change touches a record.
use Rattle.std.proofs.Common.{◌≡◌, ℕ, ◌+◌, true, false, ◌||◌, List, [], ◌∷◌, Option, Some, None, refl, sym, ap, ◌∙◌}
use Rattle.std.specs.Prelude.{is_some, map, nat_lt}
use Rattle.std.specs.List.{AllByRecursion}
use Rattle.std.proofs.lemmas.Bool.{not-true, or_left, or_right}
use Rattle.common_lemmas.proofs.Booleans.{and_left, and_right, impossible}
use Rattle.common_lemmas.proofs.Lists.{all_append, all_map, all_weaker}
use Rattle.column_set.specs.declared.changes.Change.{Change}
use Rattle.column_set.specs.declared.changes.Change.TheVariants.{Put, Drop, Hold, Add}
use Rattle.column_set.specs.RecordValues.{RecordFields}
use Rattle.index_derive.specs.declared.log.EntryKind.{EntryKind}
use Rattle.index_derive.specs.declared.log.EntryKind.TheVariants as entry
use Rattle.database_state.specs.Table.{Table, table_with_id}
use Rattle.database_state.specs.Changes.{without_copied}
use Rattle.column_set.specs.ChangedRecords.{changed_bookmark, changed_table}
use Rattle.database_state.specs.State.{DatabaseState, PastChange, Transaction, levels, levels_of, transaction_of}
use Rattle.database_state.specs.View.{newest, view}
use Rattle.database_state.specs.Conflicts.{has_write_conflict}
use Rattle.database_state.specs.Step.{applied, every_change, is_at_level}
use Rattle.database_state.specs.Lawful.{is_lawful_at, is_lawful_change, is_lawful_kind}
use Rattle.laws_versions.specs.Records.{Records, record_after, records_of}
use Rattle.laws_versions.specs.History.{IsHistory, IsPlaced}
use Rattle.laws_versions.specs.KeptSteps.{base_after, committed_own, dropped_after, is_own_open, kept_after, lowered_own, new_change, undone_where, with_next_number}
use Rattle.laws_versions.proofs.HistoryLemmas.EndEntries.{back}
use Rattle.laws_versions.proofs.HistoryLemmas.Entries.{history_later}
use Rattle.laws_versions.proofs.HistoryLemmas.SeenRecords.{newest_records}
use Rattle.laws_versions.proofs.SumLemmas.StoredRecord.{found_there}
use Rattle.laws_versions.proofs.SumLemmas.UnhinderedSums.{unhindered_found}
use Rattle.laws_versions.proofs.KeyLemmas.UniqueKept.{id_of}
use Rattle.laws_versions.specs.Bookmarks.{TouchesRecord}
use Rattle.laws_versions.proofs.RecordLemmas.EachRecord.{KeepsRecords, commit_keeps, lower_keeps, undone_keeps}

touched_mapped : (f : PastChange → PastChange) → KeepsRecords f → (kept : List PastChange) → AllByRecursion TouchesRecord kept → AllByRecursion TouchesRecord (map f kept)
touched_mapped f keeps kept h = all_map TouchesRecord f kept (all_weaker TouchesRecord (λ item. TouchesRecord (f item))
    (λ item touches. ap (λ (o : Option RecordFields). is_some o || is_some (f item).after) (keeps item).1 ∙ ap (λ (o : Option RecordFields). is_some item.before || is_some o) (keeps item).2 ∙ touches) kept h)

-- where the session sees a record under a change that meets no write conflict there is a newest one
was_seen : (base : Records) (dropped kept : List PastChange) (state : DatabaseState) (label : ℕ) (t : Transaction) (change : Change) → IsHistory base dropped kept state → transaction_of state label ≡ Some t → has_write_conflict state label change ≡ false
    → is_some (records_of (view state label) (changed_table change) (changed_bookmark change)) ≡ true → is_some (records_of (newest (with_next_number state)) (changed_table change) (changed_bookmark change)) ≡ true
was_seen base dropped kept state label t change h e free seen =
    ap (λ (r : Records). is_some (r (changed_table change) (changed_bookmark change))) (newest_records base dropped kept (with_next_number state) (history_later base dropped kept state h) ∙ sym (newest_records base dropped kept state h))
    ∙ sym (ap is_some (unhindered_found base dropped kept state h label t change e free))
    ∙ sym (found_there base dropped kept state h label (changed_table change) (changed_bookmark change)) ∙ seen

touches_new : (base : Records) (dropped kept : List PastChange) (state : DatabaseState) (label : ℕ) (t : Transaction) (change : Change) → IsHistory base dropped kept state → transaction_of state label ≡ Some t → has_write_conflict state label change ≡ false
    → is_lawful_at state label (table_with_id state.tables (changed_table change)) change ≡ true
    → (new_change label change (with_next_number state)).after ≡ record_after (without_copied change) (new_change label change (with_next_number state)).before
    → TouchesRecord (new_change label change (with_next_number state))
touches_new base dropped kept state label t (Put id bookmark copied values) h e free lawful after = or_right (is_some (new_change label (Put id bookmark copied values) (with_next_number state)).before) _ (ap is_some after)
touches_new base dropped kept state label t (Drop id bookmark) h e free lawful after =
    or_left _ (is_some (new_change label (Drop id bookmark) (with_next_number state)).after) (was_seen base dropped kept state label t (Drop id bookmark) h e free (seen (table_with_id state.tables id.0) refl lawful))
  where
    seen : (o : Option Table) → table_with_id state.tables id.0 ≡ o → is_lawful_at state label o (Drop id bookmark) ≡ true → is_some (records_of (view state label) id.0 bookmark) ≡ true
    seen None f g = impossible g
    seen (Some table) f g = ap (λ k. is_some (records_of (view state label) k bookmark)) (sym (id_of state.tables id.0 table f)) ∙ g
touches_new base dropped kept state label t (Hold id bookmark) h e free lawful after =
    or_left _ (is_some (new_change label (Hold id bookmark) (with_next_number state)).after) (was_seen base dropped kept state label t (Hold id bookmark) h e free (seen (table_with_id state.tables id.0) refl lawful))
  where
    seen : (o : Option Table) → table_with_id state.tables id.0 ≡ o → is_lawful_at state label o (Hold id bookmark) ≡ true → is_some (records_of (view state label) id.0 bookmark) ≡ true
    seen None f g = impossible g
    seen (Some table) f g = ap (λ k. is_some (records_of (view state label) k bookmark)) (sym (id_of state.tables id.0 table f)) ∙ g
touches_new base dropped kept state label t (Add id bookmark column amount) h e free lawful after =
    or_left _ (is_some (new_change label (Add id bookmark column amount) (with_next_number state)).after) (was_seen base dropped kept state label t (Add id bookmark column amount) h e free (seen (table_with_id state.tables id.0) refl lawful))
  where
    seen : (o : Option Table) → table_with_id state.tables id.0 ≡ o → is_lawful_at state label o (Add id bookmark column amount) ≡ true → is_some (records_of (view state label) id.0 bookmark) ≡ true
    seen None f g = impossible g
    seen (Some table) f g = ap (λ k. is_some (records_of (view state label) k bookmark)) (sym (id_of state.tables id.0 table f)) ∙ and_left _ _ g

changed_touches : (base : Records) (dropped kept : List PastChange) (state : DatabaseState) (label : ℕ) (change : Change) → IsHistory base dropped kept state → is_lawful_change state label change ≡ true
    → (new_change label change (with_next_number state)).after ≡ record_after (without_copied change) (new_change label change (with_next_number state)).before → (t : Option Transaction) → transaction_of state label ≡ t
    → TouchesRecord (new_change label change (with_next_number state))
changed_touches base dropped kept state label change h lawful after None e = impossible (sym (ap (λ u. nat_lt 0 (levels_of u)) e) ∙ and_left _ _ (and_left _ _ lawful))
changed_touches base dropped kept state label change h lawful after (Some t) e =
    touches_new base dropped kept state label t change h e (not-true (has_write_conflict state label change) (and_right _ _ (and_left _ _ lawful))) (and_right _ _ lawful) after

pub touched_after : (base : Records) (dropped kept : List PastChange) (state : DatabaseState) (label : ℕ) (kind : EntryKind) → IsHistory base dropped kept state → is_lawful_kind state label kind ≡ true
    → IsHistory (base_after state kind base) (dropped_after kind dropped kept) (kept_after state label kind kept) (applied label kind (with_next_number state)) → AllByRecursion TouchesRecord kept → AllByRecursion TouchesRecord (kept_after state label kind kept)
touched_after base dropped kept state label entry.Enter h e after touched = touched
touched_after base dropped kept state label entry.Leave h e after touched = touched_mapped (undone_where (is_own_open label every_change)) (undone_keeps (is_own_open label every_change)) kept touched
touched_after base dropped kept state label (entry.Open table) h e after touched = touched
touched_after base dropped kept state label (entry.Shut table) h e after touched = touched
touched_after base dropped kept state label entry.Begin h e after touched = touched
touched_after base dropped kept state label entry.Save h e after touched = touched
touched_after base dropped kept state label (entry.Change change) h e after touched =
    all_append TouchesRecord kept (new_change label change (with_next_number state) ∷ []) touched
    (changed_touches base dropped kept state label change h e (back (IsPlaced (state.number + 1) state.tables (transaction_of state)) kept (new_change label change (with_next_number state) ∷ []) after.keeps.placed).0.3 (transaction_of state label) refl, tt)
touched_after base dropped kept state label entry.Release h e after touched = touched_mapped (lowered_own label (levels state label)) (lower_keeps label (levels state label)) kept touched
touched_after base dropped kept state label entry.Undo h e after touched = touched_mapped (undone_where (is_own_open label (is_at_level (levels state label)))) (undone_keeps (is_own_open label (is_at_level (levels state label)))) kept touched
touched_after base dropped kept state label entry.UndoAll h e after touched = touched_mapped (undone_where (is_own_open label every_change)) (undone_keeps (is_own_open label every_change)) kept touched
touched_after base dropped kept state label entry.Commit h e after touched = touched_mapped (committed_own label (state.number + 1)) (commit_keeps label (state.number + 1)) kept touched
touched_after base dropped kept state label (entry.Schema made) h e after touched = tt
