-- A replace that is prepared, which locks its record.
use Rattle.std.proofs.Common.{◌≡◌, ℕ, ◌≤◌, Bool, true, false, not, ◌&&◌, ◌||◌, List, [], ◌∷◌, ◌++◌, Option, Some, None, refl, sym, ap, subst, ◌∙◌, bytes_eq}
use Rattle.std.specs.Prelude.{◌==◌, is_none, is_some, unwrap_or, if◌then◌else◌, IfSome, IsTrue}
use Rattle.std.specs.List.{list_any}
use Rattle.std.proofs.lemmas.List.Folds.{list_any-append}
use Rattle.std.proofs.lemmas.Bool.{and_from}
use Rattle.common_lemmas.proofs.Numbers.{equal_bytes, self_equal}
use Rattle.common_lemmas.proofs.Booleans.{impossible}
use Rattle.jet_base.specs.declared.ids.CursorId.{CursorId}
use Rattle.jet_base.specs.declared.words.Prepare.TheVariants as prepare
use Rattle.column_set.specs.declared.changes.Change.{Change}
use Rattle.column_set.specs.declared.changes.Change.TheVariants.{Hold}
use Rattle.column_set.specs.declared.columns.Column.{Column}
use Rattle.column_set.specs.RecordValues.{RecordFields, record_fits, record_size}
use Rattle.index_derive.specs.declared.log.EntryKind.TheVariants as entry
use Rattle.index_derive.specs.declared.log.Step.TheVariants.{Alone, One}
use Rattle.index_derive.specs.declared.rules.Schema.{Schema}
use Rattle.index_derive.specs.Steps.{entries_of_step}
use Rattle.database_state.specs.Table.{Table, row_at, schema_of, table_with_id}
use Rattle.database_state.specs.Changes.{escrow_bytes}
use Rattle.database_state.specs.State.{DatabaseState, PastChange, Transaction, is_open_change_of, levels_of, transaction_of}
use Rattle.database_state.specs.View.{view}
use Rattle.database_state.specs.Step.{applied, state_after, state_after_all}
use Rattle.database_state.specs.Lawful.{keeps_escrow}
use Rattle.laws_versions.specs.Records.{Records, is_change_of, records_of}
use Rattle.laws_versions.specs.History.{IsHistory}
use Rattle.laws_versions.specs.KeptSteps.{new_change, with_next_number}
use Rattle.laws_versions.specs.EscrowNumbers.{ColumnsRise}
use Rattle.laws_versions.specs.RecordNumbers.{HoldsNumbers}
use Rattle.laws_versions.specs.StoredRecords.{IsStored}
use Rattle.laws_versions.proofs.RecordLemmas.EscrowRecords.{numbers_seen}
use Rattle.session_local.specs.declared.request.Request.TheVariants as call
use Rattle.session_local.specs.Agreement.{IsStorable, has_lock, is_lock_on}
use Rattle.session_local.specs.Calls.{answer}
use Rattle.session_local.specs.Local.{OpenCursor, cursor_labelled, replacing}
use Rattle.session_local.specs.Outcome.{CallInputs, entry_of, is_outside, number_refusals, rows_seen, span_refusals, step_of_change}
use Rattle.session_local.specs.RecordCalls.{bookmark_at, conflict_refusals, current, hold_at, own_refusals, prepare_replace, prepared_refusals, record_at, transaction_refusals, with_prepared}
use Rattle.laws_engine.specs.LawfulSteps.{IsReached}
use Rattle.laws_engine.specs.InStep.{IsInStep, SeesStored, StaysInStep}
use Rattle.laws_engine.proofs.LawfulLemmas.ChangeSteps.{IsAtTable, at_its_table}
use Rattle.laws_engine.proofs.AgreeingLemmas.Answering.{at_found, past, when_begun}
use Rattle.laws_engine.proofs.AgreeingLemmas.ChangeCalls.{after_entry}
use Rattle.laws_engine.proofs.AgreeingLemmas.OpenCursors.{prepared_in_step}
use Rattle.laws_engine.proofs.AgreeingLemmas.OwnChanges.{all_after, change_in_step, locks_allowed, row_after, there_by_row, view_changed}

-- the record under a cursor, where the session sees one, may be prepared as it is
abbrev MayBePrepared : CallInputs → OpenCursor → Type 0
MayBePrepared asked c = IfSome (row_at (rows_seen asked c) (bookmark_at c)) (λ values. (record_size values ≤ 1700) × IsTrue (record_fits c.schema.columns values))

may_be : (asked : CallInputs) (c : OpenCursor) → SeesStored asked.state asked.session → IsAtTable asked c → MayBePrepared asked c
may_be asked c stored at =
    subst (λ (schema : Schema). IfSome (row_at (rows_seen asked c) (bookmark_at c)) (λ values. (record_size values ≤ 1700) × IsTrue (record_fits schema.columns values))) (sym at.schema)
    (subst (λ (o : Option Table). IfSome o (λ table. (bookmark : List ℕ) → IfSome (records_of (view asked.state asked.session) c.cursor.table bookmark) (IsStored asked.state.number (schema_of table) bookmark))) at.found
    (stored c.cursor.table) (bookmark_at c))

-- and its columns rise
pub seen_rises : (base : Records) (dropped kept : List PastChange) (asked : CallInputs) (c : OpenCursor) → IsReached base dropped kept asked.state → IsAtTable asked c → ColumnsRise (record_at asked c)
seen_rises base dropped kept asked c reached at =
    by (row_at (rows_seen asked c) (bookmark_at c))
    (subst (λ (o : Option Table). IfSome o (λ table. (bookmark : List ℕ) → IfSome (records_of (view asked.state asked.session) c.cursor.table bookmark) (HoldsNumbers asked.state.number (schema_of table) bookmark))) at.found
    (numbers_seen base dropped kept asked.state reached.history reached.numbers asked.session c.cursor.table) (bookmark_at c))
  where
    by : (o : Option RecordFields) → IfSome o (HoldsNumbers asked.state.number (schema_of at.table) (bookmark_at c)) → ColumnsRise (unwrap_or o [])
    by None h = tt
    by (Some values) h = h.0

-- the session has the lock that it made
own_lock : (state : DatabaseState) (session table : ℕ) (bookmark : List ℕ) → has_lock (applied session (entry.Change (Hold (record { 0 = table }) bookmark)) (with_next_number state)) session table bookmark ≡ true
own_lock state session table bookmark =
    list_any-append (λ item. is_open_change_of session item && is_lock_on table bookmark item.change) state.past (new_change session (Hold (record { 0 = table }) bookmark) (with_next_number state) ∷ [])
    ∙ right (list_any (λ item. is_open_change_of session item && is_lock_on table bookmark item.change) state.past) _
    (ap (λ b. b || false) (and_from (session == session) ((table == table) && bytes_eq bookmark bookmark) (self_equal session) (and_from (table == table) (bytes_eq bookmark bookmark) (self_equal table) (equal_bytes bookmark bookmark refl))))
  where
    right : (a b : Bool) → b ≡ true → (a || b) ≡ true
    right true b e = refl
    right false b e = e

-- a record has the sums that it has
own_sums : (columns : List Column) (values : RecordFields) → keeps_escrow columns (Some values) values ≡ true
own_sums [] values = refl
own_sums (c ∷ columns) values = and_from _ _ (by c.escrow) (own_sums columns values)
  where
    by : (b : Bool) → (not b || bytes_eq (escrow_bytes values c.id.0) (escrow_bytes values c.id.0)) ≡ true
    by false = refl
    by true = equal_bytes (escrow_bytes values c.id.0) (escrow_bytes values c.id.0) refl

-- a lock leaves its record
same_row : (state : DatabaseState) (session table : ℕ) (bookmark : List ℕ) (t : Transaction) → transaction_of state session ≡ Some t → (values : RecordFields) → records_of (view state session) table bookmark ≡ Some values
    → records_of (view (applied session (entry.Change (Hold (record { 0 = table }) bookmark)) (with_next_number state)) session) table bookmark ≡ Some values
same_row state session table bookmark t f values e =
    ap (λ (tables : List Table). records_of tables table bookmark) (view_changed state session (Hold (record { 0 = table }) bookmark) t f)
    ∙ row_after (view state session) (Hold (record { 0 = table }) bookmark) table bookmark (there_by_row (table_with_id (view state session) table) bookmark (ap is_some e))
    ∙ same (is_change_of table bookmark (Hold (record { 0 = table }) bookmark)) ∙ e
  where
    same : (b : Bool) → (if b then records_of (view state session) table bookmark else records_of (view state session) table bookmark) ≡ records_of (view state session) table bookmark
    same true = refl
    same false = refl

storable_replace : (asked : CallInputs) (c : OpenCursor) (t : Transaction) → transaction_of asked.state asked.session ≡ Some t → (o : Option RecordFields) → row_at (rows_seen asked c) (bookmark_at c) ≡ o → is_none o ≡ false
    → IfSome o (λ values. (record_size values ≤ 1700) × IsTrue (record_fits c.schema.columns values))
    → IsStorable (applied asked.session (entry.Change (hold_at c)) (with_next_number asked.state)) asked.session c (Some (record { for = replacing (bookmark_at c); values = unwrap_or o [] }))
storable_replace asked c t f None e there may = impossible (sym there)
storable_replace asked c t f (Some values) e there may =
    let row = same_row asked.state asked.session c.cursor.table (bookmark_at c) t f values e in (
      may.0,
      may.1,
      ap (λ (o : Option RecordFields). keeps_escrow c.schema.columns o values) row ∙ own_sums c.schema.columns values,
      (ap is_some row, own_lock asked.state asked.session c.cursor.table (bookmark_at c)),
    )

-- in a transaction the lock is the one entry
single_state : (asked : CallInputs) (change : Change) → is_outside asked ≡ false → state_after asked.state (entry_of asked (entry.Change change)) ≡ state_after_all asked.state (entries_of_step (step_of_change asked change))
single_state asked change in_one =
    sym (ap (λ b. state_after_all asked.state (entries_of_step (if b then Some (Alone (entry_of asked (entry.Change change))) else Some (One (entry_of asked (entry.Change change)))))) in_one)

applied_is : (asked : CallInputs) (change : Change) → applied asked.session (entry.Change change) (with_next_number asked.state) ≡ state_after asked.state (entry_of asked (entry.Change change))
unfolding state_after
applied_is asked change = refl

replace_in_step : (base : Records) (dropped kept : List PastChange) (asked : CallInputs) (label : ℕ) (c : OpenCursor) → IsHistory base dropped kept asked.state → IsInStep asked.state asked.session asked.local → cursor_labelled asked.local label ≡ Some c → MayBePrepared asked c → ColumnsRise (record_at asked c)
    → is_outside asked ≡ false → is_none (row_at (rows_seen asked c) (bookmark_at c)) ≡ false → (t : Option Transaction) → transaction_of asked.state asked.session ≡ t
    → IsInStep (state_after_all asked.state (entries_of_step (step_of_change asked (hold_at c)))) asked.session
    (with_prepared asked c (Some (record { for = replacing (bookmark_at c); values = record_at asked c })))
replace_in_step base dropped kept asked label c h step e may rise in_one there None f = impossible (sym (sym (ap (λ u. levels_of u == 0) f) ∙ in_one))
replace_in_step base dropped kept asked label c h step e may rise in_one there (Some t) f =
    prepared_in_step (state_after_all asked.state (entries_of_step (step_of_change asked (hold_at c)))) asked.session asked.local label c (Some (record { for = replacing (bookmark_at c); values = record_at asked c }))
    (change_in_step base dropped kept asked (hold_at c) h step (λ u g in_it. after_entry asked (hold_at c)
    (all_after asked.state asked.session (hold_at c) u g asked.local.cursors (locks_allowed asked.state asked.session (record { 0 = c.cursor.table }) (bookmark_at c) asked.local.cursors) step.agrees.prepared))) e
    (subst (λ (state : DatabaseState). IsStorable state asked.session c (Some (record { for = replacing (bookmark_at c); values = record_at asked c }))) (applied_is asked (hold_at c) ∙ single_state asked (hold_at c) in_one)
    (storable_replace asked c t f (row_at (rows_seen asked c) (bookmark_at c)) refl there may)) rise

pub replaces : (base : Records) (dropped kept : List PastChange) (asked : CallInputs) (cursor : CursorId) → IsReached base dropped kept asked.state → SeesStored asked.state asked.session
    → IsInStep asked.state asked.session asked.local → StaysInStep asked (answer asked (call.PrepareUpdate cursor prepare.Replace))
replaces base dropped kept asked cursor reached stored step = when_begun asked (call.PrepareUpdate cursor prepare.Replace)
    (λ begun. at_found asked step cursor.0 (prepare_replace asked) (λ c e.
    past asked step (prepared_refusals c ++ transaction_refusals asked ++ current asked c ++ own_refusals asked c ++ conflict_refusals asked (hold_at c) ++ number_refusals asked ++ span_refusals asked (hold_at c)) _ (λ r.
    let at = at_its_table asked cursor.0 c step.agrees e in
    replace_in_step base dropped kept asked cursor.0 c reached.history step e (may_be asked c stored at) (seen_rises base dropped kept asked c reached at) r.1.0 r.1.1.1.0 (transaction_of asked.state asked.session) refl)))
    (λ e. step)
