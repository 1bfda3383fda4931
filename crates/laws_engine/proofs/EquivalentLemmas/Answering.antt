-- What the calls are answered in two states of one essence.
use Rattle.std.proofs.Common.{◌≡◌, ℕ, ◌+◌, ◌-◌, Bool, true, false, not, ◌&&◌, ◌||◌, cond, List, [], ◌∷◌, ◌++◌, Option, Some, None, Result, Ok, Err, length, refl, sym, ap, subst, ◌∙◌}
use Rattle.std.specs.Prelude.{◌==◌, ℤ, pos, nat_lt, nat_le, filter, find, flat_map, is_none, is_some, slice_get, unwrap_or, if◌then◌else◌, IsSome, IsTrue, bytes_eq}
use Rattle.std.specs.List.{AllByRecursion, list_any}
use Rattle.jet_base.specs.declared.ids.CursorId.{CursorId}
use Rattle.jet_base.specs.declared.replies.Jet.{Jet}
use Rattle.jet_base.specs.declared.replies.Jet.TheVariants as jet
use Rattle.jet_base.specs.declared.words.ColType.TheVariants as kind
use Rattle.jet_base.specs.declared.words.Given.{Given}
use Rattle.jet_base.specs.declared.words.Prepare.{Prepare}
use Rattle.jet_base.specs.declared.words.Prepare.TheVariants as prepare
use Rattle.jet_base.specs.ColumnType.{number_of}
use Rattle.jet_base.specs.Given.{given_fits}
use Rattle.column_set.specs.declared.columns.Column.{Column}
use Rattle.column_set.specs.declared.changes.Change.{Change}
use Rattle.column_set.specs.declared.changes.Change.TheVariants as change
use Rattle.column_set.specs.RecordValues.{RecordFields, column_named, is_missing_a_value, values_of}
use Rattle.index_derive.specs.declared.rules.IndexRule.{IndexRule}
use Rattle.index_derive.specs.declared.rules.Schema.{Schema}
use Rattle.index_derive.specs.declared.rules.Segment.{Segment}
use Rattle.index_derive.specs.declared.schema_calls.SchemaStep.{SchemaStep}
use Rattle.index_derive.specs.declared.log.EntryKind.TheVariants as entry
use Rattle.index_derive.specs.Entries.{is_unique, key_list}
use Rattle.cursor_nav.specs.Places.{Pair, least_entry_of, place_bookmark, place_key}
use Rattle.cursor_nav.specs.Navigation.{MadeKey, new_cursor, moved, index_set, sought, ranged, count_from}
use Rattle.cursor_nav.specs.MakingKeys.{begun_key, segment_kind, with_segment}
use Rattle.common_lemmas.proofs.Found.{of_found}
use Rattle.common_lemmas.proofs.Lists.{all_weaker}
use Rattle.column_set.specs.Refusals.{Refusals, first_refusal}
use Rattle.database_state.specs.Table.{Rows, Table, index_entries, primary_order, record_in, row_at, rows_of, schema_of, table_named, table_with_id}
use Rattle.index_derive.specs.Schemas.{primary_rule, rule_with_id}
use Rattle.database_state.specs.SchemaSteps.{table_step, deleted_table_step, column_step, deleted_column_step, index_step, deleted_index_step}
use Rattle.database_state.specs.Changes.{escrow_bytes}
use Rattle.column_set.specs.ChangedRecords.{changed_table, changed_bookmark}
use Rattle.database_state.specs.Conflicts.{has_key_conflict}
use Rattle.database_state.specs.Puts.{is_taken, new_keys, null_refusals, put_refusals, replaced_record}
use Rattle.database_state.specs.SchemaChanges.{schema_refusal}
use Rattle.database_state.specs.State.{DatabaseState, PastChange, levels}
use Rattle.database_state.specs.VersionStore.{cost_of}
use Rattle.database_state.specs.View.{view}
use Rattle.database_state.specs.Lawful.{keeps_escrow}
use Rattle.session_local.specs.declared.request.Request.{Request}
use Rattle.session_local.specs.declared.request.Request.TheVariants as call
use Rattle.session_local.specs.Agreement.{Agrees, HasSchemaOf, IsStorable, MayReplace, is_lock_on, replaced_in}
use Rattle.session_local.specs.Answer.{Nothing, Number, Count}
use Rattle.session_local.specs.Calls.{answer, answer_begun, answer_not_begun, prepare_update}
use Rattle.session_local.specs.CursorCalls.{close_table, current_entries, get_bookmark, move_cursor, remove_index_range, seek_key, set_index_range, gone_to, goto_bookmark, index_record_count, retrieve_key, index_chosen, index_chosen_by, key_made_in, make_key, opened, segment_made, set_current_index, whole}
use Rattle.session_local.specs.IntersectCalls.{are_of_one_table, common_bookmarks, common_in, current_cursor, current_cursors, current_or, filled_by, filled_with, intersect_indexes, joined}
use Rattle.session_local.specs.Local.{LocalState, OpenCursor, PreparedFor, PreparedUpdate, cursor_labelled, temp_labelled, with_cursor, with_new_cursor, without_prepared, inserting, replacing, new_session}
use Rattle.session_local.specs.Outcome.{CallInputs, Outcome, at_cursor, current_refusals, done, is_outside, navigated, number_refusals, on_cursor, one, rows_seen, said, span_refusals, step_of_change, unless, unless_refused}
use Rattle.session_local.specs.RecordCalls.{bookmark_at, bookmark_for, column_shown, conflict_refusals, copied_in, delete, drop_at, escrow_update, get_lock, hold_at, inserted_bookmark, is_primary_changed, on_column, on_prepared, own_refusals, prepare_copy, prepare_replace, prepared_refusals, put_of, record_at, replaced_by, retrieve_column, retrieve_copy, set_column, set_column_in, sum_in, transaction_refusals, update, update_with, value_shown, with_prepared, with_sums_at_zero}
use Rattle.record_edit.specs.SetColumn.{set_refusals, size_refusals, fields_after}
use Rattle.session_local.specs.SessionCalls.{begin_session}
use Rattle.session_local.specs.SchemaCalls.{schema_changed}
use Rattle.laws_engine.specs.PlainIndexes.{reads_no_sum, read_no_sums}
use Rattle.laws_engine.proofs.EquivalentLemmas.Keys.{key_conflict_alike}
use Rattle.laws_engine.proofs.EquivalentLemmas.Lawful.{schema_alike, unique_reads}
use Rattle.laws_engine.proofs.EquivalentLemmas.Reading.{SamePast, any_own_alike, newest_alike, span_alike, view_alike, with_past, write_conflict_alike}

-- the call, asked of the state with another past
abbrev pub again : CallInputs → List PastChange → CallInputs
again asked past = record asked { state = record asked.state { past = past } }

-- what the session sees is the same
abbrev pub SameView : CallInputs → List PastChange → Type 0
SameView asked past = view asked.state asked.session ≡ view (with_past asked.state past) asked.session

-- ---- ways to answer

refused_alike : (asked : CallInputs) (past : List PastChange) (reply : Option Jet) (f g : Unit {0} → Outcome) → f tt ≡ g tt → unless_refused asked reply f ≡ unless_refused (again asked past) reply g
refused_alike asked past None f g e = e
refused_alike asked past (Some reply) f g e = refl

unless_alike : (asked : CallInputs) (past : List PastChange) (r s : Refusals) (f g : Unit {0} → Outcome) → r ≡ s → f tt ≡ g tt → unless asked r f ≡ unless (again asked past) s g
unless_alike asked past r s f g same e = refused_alike asked past (first_refusal r) f g e ∙ ap (λ rs. unless_refused (again asked past) (first_refusal rs) g) same

-- the same refusals, and the same that follows
plain_alike : (asked : CallInputs) (past : List PastChange) (refusals : Refusals) (f : Unit {0} → Outcome) → unless asked refusals f ≡ unless (again asked past) refusals f
plain_alike asked past refusals f = unless_alike asked past refusals refusals f f refl refl

at_alike : (asked : CallInputs) (past : List PastChange) (label : ℕ) (f g : OpenCursor → Outcome) → ((c : OpenCursor) → cursor_labelled asked.local label ≡ Some c → f c ≡ g c) → at_cursor asked label f ≡ at_cursor (again asked past) label g
at_alike asked past label f g e = by (cursor_labelled asked.local label) refl
  where
    by : (found : Option OpenCursor) → cursor_labelled asked.local label ≡ found → on_cursor asked found f ≡ on_cursor (again asked past) found g
    by None h = refl
    by (Some c) h = e c h

column_alike : (asked : CallInputs) (past : List PastChange) (found : Option Column) (f g : Column → Outcome) → ((column : Column) → f column ≡ g column) → on_column asked found f ≡ on_column (again asked past) found g
column_alike asked past None f g e = refl
column_alike asked past (Some column) f g e = e column

prepared_alike : (asked : CallInputs) (past : List PastChange) (found : Option PreparedUpdate) (f g : PreparedUpdate → Outcome) → ((prepared : PreparedUpdate) → f prepared ≡ g prepared) → on_prepared asked found f ≡ on_prepared (again asked past) found g
prepared_alike asked past None f g e = refl
prepared_alike asked past (Some prepared) f g e = e prepared

-- ---- what is read of the state

abbrev rows_in : OpenCursor → List Table → Rows
rows_in c tables = rows_of (table_with_id tables c.cursor.table)

abbrev entries_in : OpenCursor → ℕ → List Table → List Pair
entries_in c index tables = index_entries c.schema (rows_in c tables) index

abbrev record_under : OpenCursor → List Table → RecordFields
record_under c tables = unwrap_or (row_at (rows_in c tables) (bookmark_at c)) []

abbrev current_in : OpenCursor → List Table → Refusals
current_in c tables = current_refusals (rows_in c tables) c.cursor.place

conflict_alike : (asked : CallInputs) (past : List PastChange) → SamePast asked.state past → (made : Change) → conflict_refusals asked made ≡ conflict_refusals (again asked past) made
conflict_alike asked past e made = ap (λ b. (b, jet.WriteConflict) ∷ []) (write_conflict_alike asked.state past e asked.session made)

cost_alike : (asked : CallInputs) (past : List PastChange) → SamePast asked.state past → (made other : Change) → made ≡ other → span_refusals asked made ≡ span_refusals (again asked past) other
cost_alike asked past e made other same =
    let tables = newest_alike asked.state past e in
    let span = span_alike asked.state past e in
    λ i. (nat_lt asked.limit (span i + cost_of (same i) (record_in (tables i) (changed_table (same i)) (changed_bookmark (same i)))), jet.VersionStoreOutOfMemory) ∷ []

-- ---- sessions, schemas, tables

schema_call_alike : (asked : CallInputs) (past : List PastChange) (made : SchemaStep) → schema_changed asked made ≡ schema_changed (again asked past) made
schema_call_alike asked past made =
    refused_alike asked past (schema_refusal asked.state asked.session made)
    (λ _. unless asked (number_refusals asked) (λ _. done asked.local Nothing (one asked (entry.Schema made))))
    (λ _. unless (again asked past) (number_refusals (again asked past)) (λ _. done (again asked past).local Nothing (one (again asked past) (entry.Schema made))))
    (unless_alike asked past (number_refusals asked) (number_refusals (again asked past)) (λ _. done asked.local Nothing (one asked (entry.Schema made))) (λ _. done asked.local Nothing (one asked (entry.Schema made))) refl refl)
    ∙ ap (λ refusal. unless_refused (again asked past) refusal (λ _. unless (again asked past) (number_refusals (again asked past)) (λ _. done (again asked past).local Nothing (one (again asked past) (entry.Schema made)))))
    (schema_alike asked.state past asked.session made)

opened_alike : (asked : CallInputs) (past : List PastChange) (label : ℕ) (found : Option Table) → opened asked label found ≡ opened (again asked past) label found
opened_alike asked past label None = refl
opened_alike asked past label (Some table) =
    plain_alike asked past (number_refusals asked)
    (λ _. done
    (with_new_cursor asked.local (record { label = label; schema = schema_of table; cursor = new_cursor table.id (primary_order (schema_of table)); prepared = None }))
    Nothing (one asked (entry.Open (record { 0 = table.id }))))

begin_session_alike : (asked : CallInputs) (past : List PastChange) → begin_session asked ≡ begin_session (again asked past)
begin_session_alike asked past =
    plain_alike asked past ((asked.local.begun, jet.SessionInUse) ∷ (nat_le 64 (length asked.state.sessions), jet.OutOfSessions) ∷ number_refusals asked)
    (λ _. done new_session Nothing (one asked entry.Enter))

-- ---- navigation

chosen_alike : (asked : CallInputs) (past : List PastChange) → SameView asked past → (c : OpenCursor) (index : ℕ) → index_chosen asked c index ≡ index_chosen (again asked past) c index
chosen_alike asked past v c index = λ i. done (with_cursor asked.local (record c { cursor = index_set c.cursor (entries_in c index (v i)) index })) Nothing None

index_alike : (asked : CallInputs) (past : List PastChange) → SameView asked past → (c : OpenCursor) (name : Option (List ℕ)) → set_current_index asked c name ≡ set_current_index (again asked past) c name
index_alike asked past v c None = chosen_alike asked past v c (primary_order c.schema)
index_alike asked past v c (Some name) = by (find (λ r. bytes_eq r.name name) c.schema.indexes)
  where
    by : (rule : Option IndexRule) → index_chosen_by asked c rule ≡ index_chosen_by (again asked past) c rule
    by None = refl
    by (Some rule) = chosen_alike asked past v c rule.id.0

key_alike : (asked : CallInputs) (past : List PastChange) (c : OpenCursor) (fresh : Bool) (value : Given) (rule : Option IndexRule) → key_made_in asked c fresh value rule ≡ key_made_in (again asked past) c fresh value rule
key_alike asked past c fresh value None = refl
key_alike asked past c fresh value (Some rule) =
    unless_alike asked past ((not fresh && is_none c.cursor.key, jet.KeyNotMade) ∷ []) ((not fresh && is_none c.cursor.key, jet.KeyNotMade) ∷ [])
    (λ _. segment_made asked c rule key value (slice_get rule.segments key.segments)) (λ _. segment_made (again asked past) c rule key value (slice_get rule.segments key.segments)) refl
    (by (slice_get rule.segments key.segments))
  where
    key : MadeKey
    key = begun_key fresh c.cursor.key

    by : (segment : Option Segment) → segment_made asked c rule (begun_key fresh c.cursor.key) value segment ≡ segment_made (again asked past) c rule (begun_key fresh c.cursor.key) value segment
    by None = refl
    by (Some segment) =
        plain_alike asked past ((not (given_fits (segment_kind c.schema.columns segment) value), jet.InvalidBufferSize) ∷ [])
        (λ _. done
        (with_cursor asked.local (record c { cursor = record c.cursor { key = Some (with_segment rule (segment_kind c.schema.columns segment) segment value (begun_key fresh c.cursor.key)) } }))
        Nothing None)

count_alike : (asked : CallInputs) (past : List PastChange) → SameView asked past → (c : OpenCursor) (most : Option ℕ) → index_record_count asked c most ≡ index_record_count (again asked past) c most
count_alike asked past v c most =
    unless_alike asked past _ _ _ _ (λ i. current_in c (v i))
    (λ i. said asked jet.Success (Count (count_from c.cursor (entries_in c c.cursor.index (v i)) (place_key c.cursor.place, place_bookmark c.cursor.place) most)))

shown_key_alike : (asked : CallInputs) (past : List PastChange) → SameView asked past → (c : OpenCursor) → retrieve_key asked c ≡ retrieve_key (again asked past) c
shown_key_alike asked past v c = unless_alike asked past _ _ _ _ (λ i. current_in c (v i)) refl

bookmark_alike : (asked : CallInputs) (past : List PastChange) → SameView asked past → (c : OpenCursor) → get_bookmark asked c ≡ get_bookmark (again asked past) c
bookmark_alike asked past v c = unless_alike asked past _ _ _ _ (λ i. current_in c (v i)) refl

goto_alike : (asked : CallInputs) (past : List PastChange) → SameView asked past → (c : OpenCursor) (bookmark : List ℕ) → goto_bookmark asked c bookmark ≡ goto_bookmark (again asked past) c bookmark
goto_alike asked past v c bookmark =
    unless_alike asked past _ _ _ _
    (λ i. ((length bookmark == 0) || nat_lt 255 (length bookmark), jet.InvalidBookmark) ∷ (is_none (row_at (rows_in c (v i)) bookmark), jet.RecordDeleted) ∷ [])
    (ap (λ tables. gone_to asked c (least_entry_of bookmark (entries_in c c.cursor.index tables))) v ∙ by (least_entry_of bookmark (current_entries (again asked past) c)))
  where
    by : (found : Option Pair) → gone_to asked c found ≡ gone_to (again asked past) c found
    by None = refl
    by (Some entry) = refl

-- ---- intersections

current_alike : (asked : CallInputs) (past : List PastChange) → SameView asked past → (found : Option OpenCursor) → current_cursor asked found ≡ current_cursor (again asked past) found
current_alike asked past v None = refl
current_alike asked past v (Some c) = λ i. current_or (first_refusal (current_in c (v i))) c

cursors_alike : (asked : CallInputs) (past : List PastChange) → SameView asked past → (labels : List CursorId) → current_cursors asked labels ≡ current_cursors (again asked past) labels
cursors_alike asked past v [] = refl
cursors_alike asked past v (label ∷ labels) = λ i. joined (current_alike asked past v (cursor_labelled asked.local label.0) i) (cursors_alike asked past v labels i)

filled_alike : (asked : CallInputs) (past : List PastChange) → SameView asked past → (temp : CursorId) (found : Result (List OpenCursor) Jet) → filled_by asked temp found ≡ filled_by (again asked past) temp found
filled_alike asked past v temp (Err reply) = refl
filled_alike asked past v temp (Ok cursors) =
    let refusals : Refusals = (not (are_of_one_table cursors), jet.InvalidParameter) ∷ [] in
    unless_alike asked past refusals refusals
    (λ _. filled_with asked temp (common_bookmarks asked cursors)) (λ _. filled_with (again asked past) temp (common_bookmarks (again asked past) cursors))
    refl
    (λ i. filled_with asked temp (common_in (v i) cursors))

intersect_alike : (asked : CallInputs) (past : List PastChange) → SameView asked past → (temp : CursorId) (labels : List CursorId) → intersect_indexes asked temp labels ≡ intersect_indexes (again asked past) temp labels
intersect_alike asked past v temp labels =
    let refusals : Refusals = (is_some (temp_labelled asked.local.temps temp), jet.InvalidTableId) ∷ (nat_le 4 (length asked.local.temps), jet.OutOfCursors) ∷ [] in
    unless_alike asked past refusals refusals
    (λ _. filled_by asked temp (current_cursors asked labels)) (λ _. filled_by (again asked past) temp (current_cursors (again asked past) labels))
    refl
    (filled_alike asked past v temp (current_cursors asked labels) ∙ ap (filled_by (again asked past) temp) (cursors_alike asked past v labels))

-- ---- prepared updates

copy_alike : (asked : CallInputs) (past : List PastChange) → SameView asked past → (c : OpenCursor) → prepare_copy asked c ≡ prepare_copy (again asked past) c
copy_alike asked past v c =
    unless_alike asked past _ _ _ _ (λ i. prepared_refusals c ++ current_in c (v i))
    (λ i. done (with_prepared asked c (Some (record { for = inserting (Some (bookmark_at c)); values = with_sums_at_zero c.schema.columns (record_under c (v i)) }))) Nothing None)

replace_alike : (asked : CallInputs) (past : List PastChange) → SamePast asked.state past → SameView asked past → (c : OpenCursor) → prepare_replace asked c ≡ prepare_replace (again asked past) c
replace_alike asked past e v c =
    let conflict = conflict_alike asked past e (hold_at c) in
    let span = cost_alike asked past e (hold_at c) (hold_at c) refl in
    unless_alike asked past _ _ _ _
    (λ i. prepared_refusals c ++ transaction_refusals asked ++ current_in c (v i) ++ own_refusals asked c ++ conflict i ++ number_refusals asked ++ span i)
    (λ i. done (with_prepared asked c (Some (record { for = replacing (bookmark_at c); values = record_under c (v i) }))) Nothing (step_of_change asked (hold_at c)))

prepare_alike : (asked : CallInputs) (past : List PastChange) → SamePast asked.state past → SameView asked past → (c : OpenCursor) (how : Prepare) → prepare_update asked c how ≡ prepare_update (again asked past) c how
prepare_alike asked past e v c prepare.Insert =
    plain_alike asked past (prepared_refusals c) (λ _. done (with_prepared asked c (Some (record { for = inserting None; values = with_sums_at_zero c.schema.columns [] }))) Nothing None)
prepare_alike asked past e v c prepare.InsertCopy = copy_alike asked past v c
prepare_alike asked past e v c prepare.Replace = replace_alike asked past e v c
prepare_alike asked past e v c prepare.Cancel = plain_alike asked past ((is_none c.prepared, jet.UpdateNotPrepared) ∷ []) (λ _. done (with_prepared asked c None) Nothing None)

set_alike : (asked : CallInputs) (past : List PastChange) (c : OpenCursor) (name : List ℕ) (sequence : ℕ) (value : Given) → set_column asked c name sequence value ≡ set_column (again asked past) c name sequence value
set_alike asked past c name sequence value =
    prepared_alike asked past c.prepared (λ prepared. on_column asked (column_named c.schema.columns name) (set_column_in asked c prepared sequence value))
    (λ prepared. on_column (again asked past) (column_named c.schema.columns name) (set_column_in (again asked past) c prepared sequence value))
    (λ prepared. column_alike asked past (column_named c.schema.columns name) (set_column_in asked c prepared sequence value) (set_column_in (again asked past) c prepared sequence value) (by prepared))
  where
    set : PreparedUpdate → Column → Unit {0} → Outcome
    set prepared column _ = done (with_prepared asked c (Some (record prepared { values = fields_after column sequence value prepared.values }))) Nothing None

    by : (prepared : PreparedUpdate) (column : Column) → set_column_in asked c prepared sequence value column ≡ set_column_in (again asked past) c prepared sequence value column
    by prepared column =
        unless_alike asked past (set_refusals column sequence value prepared.values) (set_refusals column sequence value prepared.values)
        (λ _. unless asked (size_refusals column sequence value prepared.values) (set prepared column)) (λ _. unless (again asked past) (size_refusals column sequence value prepared.values) (set prepared column)) refl
        (plain_alike asked past (size_refusals column sequence value prepared.values) (set prepared column))

-- ---- columns

value_alike : (asked : CallInputs) (past : List PastChange) (column : Column) (most : ℕ) (value : Option (List ℕ)) → value_shown asked column most value ≡ value_shown (again asked past) column most value
value_alike asked past column most None = refl
value_alike asked past column most (Some value) = refl

shown_alike : (asked : CallInputs) (past : List PastChange) (sequence most : ℕ) (fields : RecordFields) (column : Column) → column_shown asked sequence most fields column ≡ column_shown (again asked past) sequence most fields column
shown_alike asked past sequence most fields column =
    ap (λ (o : Outcome). cond (sequence == 0) (said asked jet.Success (Number (pos (length (values_of fields column.id.0))))) o) (value_alike asked past column most (slice_get (values_of fields column.id.0) (sequence - 1)))

retrieve_alike : (asked : CallInputs) (past : List PastChange) → SameView asked past → (c : OpenCursor) (name : List ℕ) (sequence most : ℕ) → retrieve_column asked c name sequence most ≡ retrieve_column (again asked past) c name sequence most
retrieve_alike asked past v c name sequence most =
    unless_alike asked past _ _ _ _ (λ i. current_in c (v i))
    (column_alike asked past (column_named c.schema.columns name) (column_shown asked sequence most (record_at asked c)) (column_shown (again asked past) sequence most (record_at (again asked past) c))
    (λ column. shown_alike asked past sequence most (record_at asked c) column ∙ ap (λ tables. column_shown (again asked past) sequence most (record_under c tables) column) v))

own_copy_alike : (asked : CallInputs) (past : List PastChange) (c : OpenCursor) (name : List ℕ) (sequence most : ℕ) → retrieve_copy asked c name sequence most ≡ retrieve_copy (again asked past) c name sequence most
own_copy_alike asked past c name sequence most =
    prepared_alike asked past c.prepared (λ prepared. on_column asked (column_named c.schema.columns name) (column_shown asked sequence most prepared.values))
    (λ prepared. on_column (again asked past) (column_named c.schema.columns name) (column_shown (again asked past) sequence most prepared.values))
    (λ prepared. column_alike asked past (column_named c.schema.columns name) (column_shown asked sequence most prepared.values) (column_shown (again asked past) sequence most prepared.values) (shown_alike asked past sequence most prepared.values))

-- ---- changes

delete_alike : (asked : CallInputs) (past : List PastChange) → SamePast asked.state past → SameView asked past → (c : OpenCursor) → delete asked c ≡ delete (again asked past) c
delete_alike asked past e v c =
    let conflict = conflict_alike asked past e (drop_at c) in
    let span = cost_alike asked past e (drop_at c) (drop_at c) refl in
    unless_alike asked past _ _ _ _ (λ i. current_in c (v i) ++ own_refusals asked c ++ conflict i ++ number_refusals asked ++ span i) refl

lock_alike : (asked : CallInputs) (past : List PastChange) → SamePast asked.state past → SameView asked past → (c : OpenCursor) → get_lock asked c ≡ get_lock (again asked past) c
lock_alike asked past e v c =
    let conflict = conflict_alike asked past e (hold_at c) in
    let span = cost_alike asked past e (hold_at c) (hold_at c) refl in
    unless_alike asked past _ _ _ _ (λ i. transaction_refusals asked ++ current_in c (v i) ++ conflict i ++ number_refusals asked ++ span i) refl

sum_alike : (asked : CallInputs) (past : List PastChange) → SamePast asked.state past → SameView asked past → (c : OpenCursor) (amount : ℤ) (column : Column) → sum_in asked c amount column ≡ sum_in (again asked past) c amount column
sum_alike asked past e v c amount column =
    let sum = change.Add (record { 0 = c.cursor.table }) (bookmark_at c) column.id amount in
    let conflict = conflict_alike asked past e sum in
    let span = cost_alike asked past e sum sum refl in
    unless_alike asked past _ _ _ _ (λ i. (not column.escrow, jet.InvalidColumnType) ∷ own_refusals asked c ++ conflict i ++ number_refusals asked ++ span i)
    (λ i. done asked.local (Number (number_of kind.Long (escrow_bytes (record_under c (v i)) column.id.0))) (step_of_change asked sum))

escrow_alike : (asked : CallInputs) (past : List PastChange) → SamePast asked.state past → SameView asked past → (c : OpenCursor) (name : List ℕ) (amount : ℤ) → escrow_update asked c name amount ≡ escrow_update (again asked past) c name amount
escrow_alike asked past e v c name amount =
    unless_alike asked past _ _ _ _ (λ i. transaction_refusals asked ++ current_in c (v i))
    (column_alike asked past (column_named c.schema.columns name) (sum_in asked c amount) (sum_in (again asked past) c amount) (sum_alike asked past e v c amount))

-- ---- Update

flat_alike : {X Y : Type 0} (f g : X → List Y) (xs : List X) → AllByRecursion (λ x. f x ≡ g x) xs → flat_map f xs ≡ flat_map g xs
flat_alike f g [] h = refl
flat_alike f g (x ∷ xs) h = λ i. h.0 i ++ flat_alike f g xs h.1 i

put_alike : (state : DatabaseState) (past : List PastChange) → SamePast state past → read_no_sums state.tables ≡ true → (session id : ℕ) (table : Table) → table_with_id state.tables id ≡ Some table → (rows : Rows) (own : Option (List ℕ)) (values : RecordFields)
    → put_refusals state session id (schema_of table) rows own values ≡ put_refusals (with_past state past) session id (schema_of table) rows own values
unfolding put_refusals
put_alike state past e none session id table found rows own values =
    ap (λ refusals. null_refusals (schema_of table) values ++ refusals)
    (flat_alike (of_rule state) (of_rule (with_past state past)) (filter is_unique (schema_of table).indexes)
    (all_weaker (λ rule. reads_no_sum table rule ≡ true) (λ rule. of_rule state rule ≡ of_rule (with_past state past) rule)
    (λ rule plain. λ i. (list_any (λ key. key_conflict_alike state past e session id table found rule plain key i) (new_keys rule (schema_of table) (replaced_record rows own) values), jet.WriteConflict)
    ∷ (list_any (is_taken (schema_of table) rows rule own) (key_list rule (schema_of table) values), jet.KeyDuplicate) ∷ [])
    (filter is_unique (schema_of table).indexes) (unique_reads state.tables id table none found)))
  where
    of_rule : DatabaseState → IndexRule → Refusals
    of_rule s rule =
        (list_any (has_key_conflict s session id (schema_of table) rule) (new_keys rule (schema_of table) (replaced_record rows own) values), jet.WriteConflict)
        ∷ (list_any (is_taken (schema_of table) rows rule own) (key_list rule (schema_of table) values), jet.KeyDuplicate) ∷ []

-- the bookmark is told by the number of the state alone
inserted_alike : (asked : CallInputs) (past : List PastChange) (schema : Schema) (rule : Option IndexRule) (values : RecordFields) → inserted_bookmark asked schema rule values ≡ inserted_bookmark (again asked past) schema rule values
inserted_alike asked past schema None values = refl
inserted_alike asked past schema (Some rule) values = refl

marked_alike : (asked : CallInputs) (past : List PastChange) (schema : Schema) (for : PreparedFor) (values : RecordFields) → bookmark_for asked schema for values ≡ bookmark_for (again asked past) schema for values
marked_alike asked past schema (inserting copied) values = inserted_alike asked past schema (primary_rule schema) values
marked_alike asked past schema (replacing bookmark) values = refl

-- of a cursor that has the schema of its table
update_alike : (asked : CallInputs) (past : List PastChange) → SamePast asked.state past → SameView asked past → read_no_sums asked.state.tables ≡ true → (c : OpenCursor) → HasSchemaOf c (table_with_id asked.state.tables c.cursor.table)
    → update asked c ≡ update (again asked past) c
update_alike asked past e v none c has = prepared_alike asked past c.prepared (update_with asked c) (update_with (again asked past) c) (λ prepared. by prepared (table_with_id asked.state.tables c.cursor.table) refl has)
  where
    by : (prepared : PreparedUpdate) (found : Option Table) → table_with_id asked.state.tables c.cursor.table ≡ found → HasSchemaOf c found → update_with asked c prepared ≡ update_with (again asked past) c prepared
    by prepared None f h = absurd h
    by prepared (Some table) f h =
        let marked = marked_alike asked past c.schema prepared.for prepared.values in
        let put : put_of asked c prepared (bookmark_for asked c.schema prepared.for prepared.values) ≡ put_of (again asked past) c prepared (bookmark_for (again asked past) c.schema prepared.for prepared.values)
        = λ i. change.Put (record { 0 = c.cursor.table }) (marked i) (copied_in (rows_in c (v i)) prepared.for) prepared.values in
        let span = cost_alike asked past e _ _ put in
        let keys : put_refusals asked.state asked.session c.cursor.table c.schema (rows_seen asked c) (replaced_by prepared.for) prepared.values
        ≡ put_refusals (again asked past).state asked.session c.cursor.table c.schema (rows_seen (again asked past) c) (replaced_by prepared.for) prepared.values
        = ap (λ tables. put_refusals asked.state asked.session c.cursor.table c.schema (rows_in c tables) (replaced_by prepared.for) prepared.values) v
        ∙ ap (λ schema. put_refusals asked.state asked.session c.cursor.table schema (rows_seen (again asked past) c) (replaced_by prepared.for) prepared.values) h.0
        ∙ put_alike asked.state past e none asked.session c.cursor.table table f (rows_seen (again asked past) c) (replaced_by prepared.for) prepared.values
        ∙ ap (λ schema. put_refusals (again asked past).state asked.session c.cursor.table schema (rows_seen (again asked past) c) (replaced_by prepared.for) prepared.values) (sym h.0) in
        unless_alike asked past _ _ _ _
        (λ i. (is_missing_a_value c.schema.columns prepared.values, jet.NullInvalid) ∷ (is_primary_changed c.schema prepared.for prepared.values, jet.RecordPrimaryChanged) ∷ keys i ++ number_refusals asked ++ span i)
        (λ i. done (with_prepared asked c None) (whole (marked i)) (step_of_change asked (put i)))

-- ---- every call

begun_alike : (asked : CallInputs) (past : List PastChange) → SamePast asked.state past → SameView asked past → read_no_sums asked.state.tables ≡ true
    → AllByRecursion (λ c. HasSchemaOf c (table_with_id asked.state.tables c.cursor.table)) asked.local.cursors → (request : Request) → answer_begun asked request ≡ answer_begun (again asked past) request
begun_alike asked past e v none has call.BeginSession = begin_session_alike asked past
begun_alike asked past e v none has call.EndSession = refl
begun_alike asked past e v none has call.BeginTransaction =
    plain_alike asked past ((nat_le 7 (levels asked.state asked.session), jet.TransTooDeep) ∷ number_refusals asked) (λ _. done asked.local Nothing (one asked (if is_outside asked then entry.Begin else entry.Save)))
begun_alike asked past e v none has (call.CommitTransaction lazy) =
    plain_alike asked past ((is_outside asked, jet.NotInTransaction) ∷ [])
    (λ _. if nat_lt 1 (levels asked.state asked.session) then done asked.local Nothing (one asked entry.Release) else done (without_prepared asked.local) Nothing (one asked entry.Commit))
begun_alike asked past e v none has (call.Rollback all) =
    plain_alike asked past ((is_outside asked, jet.NotInTransaction) ∷ []) (λ _. done (without_prepared asked.local) Nothing (one asked (if all then entry.UndoAll else entry.Undo)))
begun_alike asked past e v none has (call.CreateTable table) = schema_call_alike asked past (table_step asked.state table)
begun_alike asked past e v none has (call.DeleteTable table) = schema_call_alike asked past (deleted_table_step asked.state table)
begun_alike asked past e v none has (call.AddColumn table column kind flags) = schema_call_alike asked past (column_step asked.state table column kind flags)
begun_alike asked past e v none has (call.DeleteColumn table column) = schema_call_alike asked past (deleted_column_step asked.state table column)
begun_alike asked past e v none has (call.CreateIndex table index flags key_most segments conditions) = schema_call_alike asked past (index_step asked.state table index flags key_most segments conditions)
begun_alike asked past e v none has (call.DeleteIndex table index) = schema_call_alike asked past (deleted_index_step asked.state table index)
begun_alike asked past e v none has (call.OpenTable cursor table) =
    unless_alike asked past ((is_some (cursor_labelled asked.local cursor.0), jet.InvalidTableId) ∷ (nat_le 16 (length asked.local.cursors), jet.OutOfCursors) ∷ [])
    ((is_some (cursor_labelled asked.local cursor.0), jet.InvalidTableId) ∷ (nat_le 16 (length asked.local.cursors), jet.OutOfCursors) ∷ [])
    (λ _. opened asked cursor.0 (table_named asked.state.tables table)) (λ _. opened (again asked past) cursor.0 (table_named asked.state.tables table)) refl
    (opened_alike asked past cursor.0 (table_named asked.state.tables table))
begun_alike asked past e v none has (call.CloseTable cursor) = at_alike asked past cursor.0 (close_table asked) (close_table (again asked past)) (λ c f. refl)
begun_alike asked past e v none has (call.SetCurrentIndex cursor index) = at_alike asked past cursor.0 (λ c. set_current_index asked c index) (λ c. set_current_index (again asked past) c index) (λ c f. index_alike asked past v c index)
begun_alike asked past e v none has (call.Move cursor to) = at_alike asked past cursor.0 (λ c. move_cursor asked c to) (λ c. move_cursor (again asked past) c to) (λ c f. λ i. navigated asked c (moved c.cursor (entries_in c c.cursor.index (v i)) to))
begun_alike asked past e v none has (call.MakeKey cursor fresh value) = at_alike asked past cursor.0 (λ c. make_key asked c fresh value) (λ c. make_key (again asked past) c fresh value) (λ c f. key_alike asked past c fresh value (rule_with_id c.schema c.cursor.index))
begun_alike asked past e v none has (call.Seek cursor by) = at_alike asked past cursor.0 (λ c. seek_key asked c by) (λ c. seek_key (again asked past) c by) (λ c f. λ i. navigated asked c (sought c.cursor (entries_in c c.cursor.index (v i)) by))
begun_alike asked past e v none has (call.SetIndexRange cursor upper inclusive) = at_alike asked past cursor.0 (λ c. set_index_range asked c upper inclusive) (λ c. set_index_range (again asked past) c upper inclusive) (λ c f. λ i. navigated asked c (ranged c.cursor (entries_in c c.cursor.index (v i)) upper inclusive))
begun_alike asked past e v none has (call.RemoveIndexRange cursor) = at_alike asked past cursor.0 (remove_index_range asked) (remove_index_range (again asked past)) (λ c f. refl)
begun_alike asked past e v none has (call.IndexRecordCount cursor most) = at_alike asked past cursor.0 (λ c. index_record_count asked c most) (λ c. index_record_count (again asked past) c most) (λ c f. count_alike asked past v c most)
begun_alike asked past e v none has (call.RetrieveKey cursor) = at_alike asked past cursor.0 (retrieve_key asked) (retrieve_key (again asked past)) (λ c f. shown_key_alike asked past v c)
begun_alike asked past e v none has (call.GetBookmark cursor) = at_alike asked past cursor.0 (get_bookmark asked) (get_bookmark (again asked past)) (λ c f. bookmark_alike asked past v c)
begun_alike asked past e v none has (call.GotoBookmark cursor bookmark) = at_alike asked past cursor.0 (λ c. goto_bookmark asked c bookmark) (λ c. goto_bookmark (again asked past) c bookmark) (λ c f. goto_alike asked past v c bookmark)
begun_alike asked past e v none has (call.PrepareUpdate cursor how) = at_alike asked past cursor.0 (λ c. prepare_update asked c how) (λ c. prepare_update (again asked past) c how) (λ c f. prepare_alike asked past e v c how)
begun_alike asked past e v none has (call.SetColumn cursor column sequence value) = at_alike asked past cursor.0 (λ c. set_column asked c column sequence value) (λ c. set_column (again asked past) c column sequence value) (λ c f. set_alike asked past c column sequence value)
begun_alike asked past e v none has (call.RetrieveColumn cursor column sequence true most) = at_alike asked past cursor.0 (λ c. retrieve_copy asked c column sequence most) (λ c. retrieve_copy (again asked past) c column sequence most) (λ c f. own_copy_alike asked past c column sequence most)
begun_alike asked past e v none has (call.RetrieveColumn cursor column sequence false most) = at_alike asked past cursor.0 (λ c. retrieve_column asked c column sequence most) (λ c. retrieve_column (again asked past) c column sequence most) (λ c f. retrieve_alike asked past v c column sequence most)
begun_alike asked past e v none has (call.Update cursor) =
    at_alike asked past cursor.0 (update asked) (update (again asked past)) (λ c f. update_alike asked past e v none c (of_found (λ c. HasSchemaOf c (table_with_id asked.state.tables c.cursor.table)) (λ c. c.label == cursor.0) asked.local.cursors c f has))
begun_alike asked past e v none has (call.Delete cursor) = at_alike asked past cursor.0 (delete asked) (delete (again asked past)) (λ c f. delete_alike asked past e v c)
begun_alike asked past e v none has (call.GetLock cursor) = at_alike asked past cursor.0 (get_lock asked) (get_lock (again asked past)) (λ c f. lock_alike asked past e v c)
begun_alike asked past e v none has (call.EscrowUpdate cursor column amount) = at_alike asked past cursor.0 (λ c. escrow_update asked c column amount) (λ c. escrow_update (again asked past) c column amount) (λ c f. escrow_alike asked past e v c column amount)
begun_alike asked past e v none has (call.TempOpen temp unique columns) = refl
begun_alike asked past e v none has (call.TempPut temp values) = refl
begun_alike asked past e v none has (call.TempMove temp way) = refl
begun_alike asked past e v none has (call.TempRead temp column) = refl
begun_alike asked past e v none has (call.TempCount temp) = refl
begun_alike asked past e v none has (call.TempClose temp) = refl
begun_alike asked past e v none has (call.IntersectIndexes temp cursors) = intersect_alike asked past v temp cursors

not_begun_alike : (asked : CallInputs) (past : List PastChange) (request : Request) → answer_not_begun asked request ≡ answer_not_begun (again asked past) request
not_begun_alike asked past call.BeginSession = begin_session_alike asked past
not_begun_alike asked past call.EndSession = refl
not_begun_alike asked past call.BeginTransaction = refl
not_begun_alike asked past (call.CommitTransaction lazy) = refl
not_begun_alike asked past (call.Rollback all) = refl
not_begun_alike asked past (call.CreateTable table) = refl
not_begun_alike asked past (call.DeleteTable table) = refl
not_begun_alike asked past (call.AddColumn table column kind flags) = refl
not_begun_alike asked past (call.DeleteColumn table column) = refl
not_begun_alike asked past (call.CreateIndex table index flags key_most segments conditions) = refl
not_begun_alike asked past (call.DeleteIndex table index) = refl
not_begun_alike asked past (call.OpenTable cursor table) = refl
not_begun_alike asked past (call.CloseTable cursor) = refl
not_begun_alike asked past (call.SetCurrentIndex cursor index) = refl
not_begun_alike asked past (call.Move cursor to) = refl
not_begun_alike asked past (call.MakeKey cursor fresh value) = refl
not_begun_alike asked past (call.Seek cursor by) = refl
not_begun_alike asked past (call.SetIndexRange cursor upper inclusive) = refl
not_begun_alike asked past (call.RemoveIndexRange cursor) = refl
not_begun_alike asked past (call.IndexRecordCount cursor most) = refl
not_begun_alike asked past (call.RetrieveKey cursor) = refl
not_begun_alike asked past (call.GetBookmark cursor) = refl
not_begun_alike asked past (call.GotoBookmark cursor bookmark) = refl
not_begun_alike asked past (call.PrepareUpdate cursor how) = refl
not_begun_alike asked past (call.SetColumn cursor column sequence value) = refl
not_begun_alike asked past (call.RetrieveColumn cursor column sequence copy most) = refl
not_begun_alike asked past (call.Update cursor) = refl
not_begun_alike asked past (call.Delete cursor) = refl
not_begun_alike asked past (call.GetLock cursor) = refl
not_begun_alike asked past (call.EscrowUpdate cursor column amount) = refl
not_begun_alike asked past (call.TempOpen temp unique columns) = refl
not_begun_alike asked past (call.TempPut temp values) = refl
not_begun_alike asked past (call.TempMove temp way) = refl
not_begun_alike asked past (call.TempRead temp column) = refl
not_begun_alike asked past (call.TempCount temp) = refl
not_begun_alike asked past (call.TempClose temp) = refl
not_begun_alike asked past (call.IntersectIndexes temp cursors) = refl

pub answers_alike : (state : DatabaseState) (past : List PastChange) → SamePast state past → read_no_sums state.tables ≡ true → (limit session : ℕ) (local : LocalState) → Agrees state session local → (request : Request)
    → answer (record { limit = limit; state = state; session = session; local = local }) request ≡ answer (record { limit = limit; state = with_past state past; session = session; local = local }) request
unfolding answer
answers_alike state past e none limit session local agrees request = by local.begun
  where
    asked : CallInputs
    asked = record { limit = limit; state = state; session = session; local = local }

    by : (b : Bool) → ◌≡◌ {A = Outcome} (elim b [ true ↦ answer_begun asked request | false ↦ answer_not_begun asked request ]) (elim b [ true ↦ answer_begun (again asked past) request | false ↦ answer_not_begun (again asked past) request ])
    by true = begun_alike asked past e (view_alike state past e session) none agrees.schemas request
    by false = not_begun_alike asked past request

-- ---- agreement

storable_alike : (state : DatabaseState) (past : List PastChange) → SamePast state past → (session : ℕ) (c : OpenCursor) (prepared : Option PreparedUpdate) → IsStorable state session c prepared → IsStorable (with_past state past) session c prepared
storable_alike state past e session c None h = h
storable_alike state past e session c (Some prepared) h = (h.0, h.1, by prepared.for h.2, may prepared.for h.3)
  where
    row : (bookmark : List ℕ) → row_at (rows_of (table_with_id (view state session) c.cursor.table)) bookmark ≡ row_at (rows_of (table_with_id (view (with_past state past) session) c.cursor.table)) bookmark
    row bookmark = ap (λ tables. row_at (rows_of (table_with_id tables c.cursor.table)) bookmark) (view_alike state past e session)

    by : (for : PreparedFor) → IsTrue (keeps_escrow c.schema.columns (replaced_in state session c for) prepared.values) → IsTrue (keeps_escrow c.schema.columns (replaced_in (with_past state past) session c for) prepared.values)
    by (inserting copied) g = g
    by (replacing bookmark) g = subst (λ (o : Option RecordFields). IsTrue (keeps_escrow c.schema.columns o prepared.values)) (row bookmark) g

    may : (for : PreparedFor) → MayReplace state session c for → MayReplace (with_past state past) session c for
    may (inserting copied) g = g
    may (replacing bookmark) g = (subst (λ (o : Option RecordFields). IsSome o) (row bookmark) g.0, subst (λ (b : Bool). IsTrue b) (any_own_alike state past e session (is_lock_on c.cursor.table bookmark)) g.1)

pub agrees_alike : (state : DatabaseState) (past : List PastChange) → SamePast state past → (session : ℕ) (local : LocalState) → Agrees state session local → Agrees (with_past state past) session local
agrees_alike state past e session local h = record {
  begun = h.begun;
  tables = h.tables;
  schemas = h.schemas;
  prepared = all_weaker (λ c. IsStorable state session c c.prepared) (λ c. IsStorable (with_past state past) session c c.prepared) (λ c. storable_alike state past e session c c.prepared) local.cursors h.prepared;
}
