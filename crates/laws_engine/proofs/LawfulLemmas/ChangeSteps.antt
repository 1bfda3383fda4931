-- The steps of deletes, locks and prepared replaces.
use Rattle.std.proofs.Common.{◌≡◌, ℕ, ◌+◌, true, false, not, List, ◌++◌, Option, Some, None, refl, sym, ap, ◌∙◌, arith}
use Rattle.std.specs.Prelude.{◌==◌, if◌then◌else◌, is_none, is_some, nat_le, nat_lt}
use Rattle.std.proofs.lemmas.Bool.Decides.{nat_tests}
use Rattle.std.proofs.lemmas.Bool.{and_from}
use Rattle.jet_base.specs.declared.ids.CursorId.{CursorId}
use Rattle.jet_base.specs.declared.words.Prepare.TheVariants as prepare
use Rattle.column_set.specs.declared.changes.Change.{Change}
use Rattle.index_derive.specs.declared.log.Step.TheVariants.{One, Alone}
use Rattle.index_derive.specs.declared.log.EntryKind.TheVariants as entry
use Rattle.index_derive.specs.Steps.{entries_of_step}
use Rattle.database_state.specs.Table.{Rows, Table, row_at, rows_of, schema_of, table_with_id}
use Rattle.column_set.specs.ChangedRecords.{changed_table}
use Rattle.database_state.specs.State.{DatabaseState, PastChange, levels}
use Rattle.database_state.specs.View.{view}
use Rattle.database_state.specs.Conflicts.{has_write_conflict}
use Rattle.database_state.specs.Step.{state_after}
use Rattle.database_state.specs.Lawful.{is_lawful, is_lawful_at, is_lawful_in, is_live, log_limit}
use Rattle.laws_versions.proofs.IndexLemmas.Adding.{KeysRise}
use Rattle.laws_versions.specs.Records.{Records}
use Rattle.laws_versions.proofs.KeyLemmas.BookmarkKeys.{HasOneEntry}
use Rattle.laws_versions.proofs.KeyLemmas.UniqueKept.{id_of}
use Rattle.session_local.specs.declared.request.Request.TheVariants as call
use Rattle.session_local.specs.Agreement.{Agrees, HasSchemaOf}
use Rattle.session_local.specs.Calls.{answer}
use Rattle.session_local.specs.Local.{OpenCursor, cursor_labelled}
use Rattle.session_local.specs.Outcome.{CallInputs, is_outside, number_refusals, rows_seen, span_refusals, step_of_change}
use Rattle.session_local.specs.RecordCalls.{bookmark_at, conflict_refusals, current, delete, drop_at, get_lock, hold_at, own_refusals, prepare_replace, prepared_refusals, transaction_refusals}
use Rattle.laws_engine.specs.LawfulSteps.{AreLawful, IsReached, HasLawfulStep, begin_of}
use Rattle.laws_engine.proofs.LawfulLemmas.Alone.{alone_lawful, conflict_after, one_level, view_after}
use Rattle.common_lemmas.proofs.Found.{of_found}
use Rattle.common_lemmas.proofs.Options.{some_there}
use Rattle.laws_engine.proofs.LawfulLemmas.Refusals.{at_found, past, when_begun}
use Rattle.laws_engine.proofs.LawfulLemmas.SessionSteps.{below}

-- the table of a cursor
pub record IsAtTable (asked : CallInputs) (c : OpenCursor) : Type 0 where
  pub table : Table
  pub found : table_with_id asked.state.tables c.cursor.table ≡ Some table
  pub schema : c.schema ≡ schema_of table

pub at_its_table : (asked : CallInputs) (label : ℕ) (c : OpenCursor) → Agrees asked.state asked.session asked.local → cursor_labelled asked.local label ≡ Some c → IsAtTable asked c
at_its_table asked label c agrees e = by (table_with_id asked.state.tables c.cursor.table) refl (of_found (λ c. HasSchemaOf c (table_with_id asked.state.tables c.cursor.table)) (λ c. c.label == label) asked.local.cursors c e agrees.schemas)
  where
    by : (o : Option Table) → table_with_id asked.state.tables c.cursor.table ≡ o → HasSchemaOf c o → IsAtTable asked c
    by None f h = absurd h
    by (Some t) f h = record { table = t; found = f; schema = h.0 }

-- ---- a change, in a transaction or alone

-- A change is lawful where it is so at its table, both in the state as it is and after a begin.
abbrev pub IsLawfulAtTable : DatabaseState → DatabaseState → ℕ → Change → Type 0
IsLawfulAtTable state as_seen session change = is_lawful_at as_seen session (table_with_id state.tables (changed_table change)) change ≡ true

changed_in : (state : DatabaseState) (session : ℕ) (change : Change) → nat_le state.number log_limit ≡ true → nat_lt 0 (levels state session) ≡ true → has_write_conflict state session change ≡ false → IsLawfulAtTable state state session change
    → is_lawful state (record { session = record { 0 = session }; kind = entry.Change change }) ≡ true
unfolding is_lawful
changed_in state session change few inside free lawful = and_from _ _ few (and_from _ _ (and_from _ _ inside (ap not free)) lawful)

pub after_tables : (state : DatabaseState) (session : ℕ) → ((state_after state (begin_of session)).tables ≡ state.tables) × ((state_after state (begin_of session)).number ≡ state.number + 1)
unfolding state_after
after_tables state session = (refl, refl)

few_inside : (limit n : ℕ) → nat_le limit n ≡ false → nat_le n limit ≡ true
few_inside limit n e = grind (arith, nat_tests)

few_after : (limit n : ℕ) → nat_le limit n ≡ false → nat_le (n + 1) limit ≡ true
few_after limit n e = grind (arith, nat_tests)

some_inside : (n : ℕ) → (n == 0) ≡ false → nat_lt 0 n ≡ true
some_inside n e = grind (arith, nat_tests)

pub changes_lawful : HasOneEntry → KeysRise → (base : Records) (dropped kept : List PastChange) (asked : CallInputs) (change : Change) → IsReached base dropped kept asked.state → is_live asked.state asked.session ≡ true → nat_le log_limit asked.state.number ≡ false
    → has_write_conflict asked.state asked.session change ≡ false
    → (is_outside asked ≡ false → IsLawfulAtTable asked.state asked.state asked.session change)
    → (is_outside asked ≡ true → IsLawfulAtTable asked.state (state_after asked.state (begin_of asked.session)) asked.session change)
    → AreLawful asked.state (entries_of_step (step_of_change asked change))
changes_lawful one rise base dropped kept asked change reached live few free inside alone =
    elim (is_outside asked) as (λ b. is_outside asked ≡ b → AreLawful asked.state (entries_of_step (if b then Some (Alone (record { session = record { 0 = asked.session }; kind = entry.Change change })) else Some (One (record { session = record { 0 = asked.session }; kind = entry.Change change }))))) [
      | true ↦ λ out. alone_lawful one rise base dropped kept asked.state asked.session change reached (below log_limit asked.state.number few) live out
          (changed_in begun asked.session change (ap (λ n. nat_le n log_limit) (after_tables asked.state asked.session).1 ∙ few_after log_limit asked.state.number few) (ap (nat_lt 0) (one_level asked.state asked.session live))
          (conflict_after base dropped kept asked.state asked.session reached.history live out change ∙ free)
          (ap (λ tables. is_lawful_at begun asked.session (table_with_id tables (changed_table change)) change) (after_tables asked.state asked.session).0 ∙ alone out))
      | false ↦ λ in_one. (changed_in asked.state asked.session change (few_inside log_limit asked.state.number few) (some_inside (levels asked.state asked.session) in_one) free (inside in_one), tt)
    ] refl
  where
    begun : DatabaseState
    begun = state_after asked.state (begin_of asked.session)

-- ---- a record that is seen

seen_lawful : (asked : CallInputs) (c : OpenCursor) (at : IsAtTable asked c) (change : Change) (as_seen : DatabaseState) → view as_seen asked.session ≡ view asked.state asked.session → changed_table change ≡ c.cursor.table
    → ((state : DatabaseState) (table : Table) (rows : Rows) → is_lawful_in state asked.session table rows change ≡ is_some (row_at rows (bookmark_at c)))
    → is_some (row_at (rows_seen asked c) (bookmark_at c)) ≡ true → IsLawfulAtTable asked.state as_seen asked.session change
seen_lawful asked c at change as_seen same of_table reads seen =
    ap (λ o. is_lawful_at as_seen asked.session o change) (ap (table_with_id asked.state.tables) of_table ∙ at.found)
    ∙ reads as_seen at.table (rows_of (table_with_id (view as_seen asked.session) at.table.id))
    ∙ ap (λ tables. is_some (row_at (rows_of (table_with_id tables at.table.id)) (bookmark_at c))) same
    ∙ ap (λ k. is_some (row_at (rows_of (table_with_id (view asked.state asked.session) k)) (bookmark_at c))) (id_of asked.state.tables c.cursor.table at.table at.found)
    ∙ seen

seen_change : HasOneEntry → KeysRise → (base : Records) (dropped kept : List PastChange) (asked : CallInputs) (label : ℕ) (c : OpenCursor) (change : Change) → IsReached base dropped kept asked.state → Agrees asked.state asked.session asked.local → asked.local.begun ≡ true
    → cursor_labelled asked.local label ≡ Some c → changed_table change ≡ c.cursor.table
    → ((state : DatabaseState) (table : Table) (rows : Rows) → is_lawful_in state asked.session table rows change ≡ is_some (row_at rows (bookmark_at c)))
    → is_none (row_at (rows_seen asked c) (bookmark_at c)) ≡ false → has_write_conflict asked.state asked.session change ≡ false → nat_le log_limit asked.state.number ≡ false
    → AreLawful asked.state (entries_of_step (step_of_change asked change))
seen_change one rise base dropped kept asked label c change reached agrees begun e of_table reads seen free few =
    let live : is_live asked.state asked.session ≡ true = sym agrees.begun ∙ begun in
    let at = at_its_table asked label c agrees e in
    changes_lawful one rise base dropped kept asked change reached live few free
    (λ inside. seen_lawful asked c at change asked.state refl of_table reads (some_there (row_at (rows_seen asked c) (bookmark_at c)) seen))
    (λ out. seen_lawful asked c at change (state_after asked.state (begin_of asked.session)) (view_after base dropped kept asked.state asked.session reached.history live out) of_table reads (some_there (row_at (rows_seen asked c) (bookmark_at c)) seen))

pub deletes : HasOneEntry → KeysRise → (base : Records) (dropped kept : List PastChange) (asked : CallInputs) (cursor : CursorId) → IsReached base dropped kept asked.state → Agrees asked.state asked.session asked.local
    → HasLawfulStep asked.state (answer asked (call.Delete cursor))
deletes one rise base dropped kept asked cursor reached agrees = when_begun asked (call.Delete cursor)
    (λ begun. at_found asked cursor.0 (delete asked) (λ c e.
    past asked (current asked c ++ own_refusals asked c ++ conflict_refusals asked (drop_at c) ++ number_refusals asked ++ span_refusals asked (drop_at c)) _ (λ r.
    seen_change one rise base dropped kept asked cursor.0 c (drop_at c) reached agrees begun e refl (λ state table rows. refl) r.1.0 r.1.1.1.0 r.1.1.1.1.0)))
    (λ e. tt)

pub locks : HasOneEntry → KeysRise → (base : Records) (dropped kept : List PastChange) (asked : CallInputs) (cursor : CursorId) → IsReached base dropped kept asked.state → Agrees asked.state asked.session asked.local
    → HasLawfulStep asked.state (answer asked (call.GetLock cursor))
locks one rise base dropped kept asked cursor reached agrees = when_begun asked (call.GetLock cursor)
    (λ begun. at_found asked cursor.0 (get_lock asked) (λ c e.
    past asked (transaction_refusals asked ++ current asked c ++ conflict_refusals asked (hold_at c) ++ number_refusals asked ++ span_refusals asked (hold_at c)) _ (λ r.
    seen_change one rise base dropped kept asked cursor.0 c (hold_at c) reached agrees begun e refl (λ state table rows. refl) r.1.1.0 r.1.1.1.0 r.1.1.1.1.0)))
    (λ e. tt)

pub replaces : HasOneEntry → KeysRise → (base : Records) (dropped kept : List PastChange) (asked : CallInputs) (cursor : CursorId) → IsReached base dropped kept asked.state → Agrees asked.state asked.session asked.local
    → HasLawfulStep asked.state (answer asked (call.PrepareUpdate cursor prepare.Replace))
replaces one rise base dropped kept asked cursor reached agrees = when_begun asked (call.PrepareUpdate cursor prepare.Replace)
    (λ begun. at_found asked cursor.0 (prepare_replace asked) (λ c e.
    past asked (prepared_refusals c ++ transaction_refusals asked ++ current asked c ++ own_refusals asked c ++ conflict_refusals asked (hold_at c) ++ number_refusals asked ++ span_refusals asked (hold_at c)) _ (λ r.
    seen_change one rise base dropped kept asked cursor.0 c (hold_at c) reached agrees begun e refl (λ state table rows. refl) r.1.1.1.0 r.1.1.1.1.1.0 r.1.1.1.1.1.1.0)))
    (λ e. tt)
