-- The definitions answer no built call with want of memory, and the calls that take none make no step that takes some.
use Rattle.std.specs.Prelude.{ℤ}
use Rattle.std.proofs.Common.{◌≡◌, ◌≢◌, ℕ, ◌-◌, ◌==◌, ◌||◌, ◌&&◌, Bool, true, false, not, nat_le, nat_lt, List, [], ◌∷◌, ◌++◌, length, take, find, slice_get, pos, Option, Some, None, Result, Ok, Err, is_some, is_none, refl, sym, ap, ◌∙◌, if◌then◌else◌, bytes_eq}
use Rattle.jet_base.specs.declared.ids.CursorId.{CursorId}
use Rattle.jet_base.specs.declared.replies.Jet.{Jet}
use Rattle.jet_base.specs.declared.replies.Jet.TheVariants as jet
use Rattle.jet_base.specs.declared.words.ColType.TheVariants as kind
use Rattle.jet_base.specs.declared.words.Given.{Given}
use Rattle.jet_base.specs.declared.words.Prepare.TheVariants as prepare
use Rattle.jet_base.specs.ColumnType.{is_number_type, number_of}
use Rattle.jet_base.specs.Given.{given_fits}
use Rattle.column_set.specs.declared.changes.Change.{Change}
use Rattle.column_set.specs.declared.changes.Change.TheVariants as change
use Rattle.column_set.specs.declared.columns.Column.{Column}
use Rattle.column_set.specs.RecordValues.{RecordFields, values_of, column_named, is_missing_a_value}
use Rattle.record_edit.specs.SetColumn.{set_refusals, size_refusals, fields_after}
use Rattle.index_derive.specs.declared.log.EntryKind.TheVariants as entry
use Rattle.index_derive.specs.declared.log.Step.{Step}
use Rattle.index_derive.specs.declared.rules.IndexRule.{IndexRule}
use Rattle.index_derive.specs.declared.rules.Segment.{Segment}
use Rattle.index_derive.specs.declared.schema_calls.SchemaStep.{SchemaStep}
use Rattle.cursor_nav.specs.Navigation.{MadeKey, new_cursor, count_from}
use Rattle.cursor_nav.specs.MakingKeys.{begun_key, segment_kind, with_segment}
use Rattle.cursor_nav.specs.Places.{Pair, least_entry_of, place_key, place_bookmark}
use Rattle.database_state.specs.Changes.{escrow_bytes}
use Rattle.database_state.specs.Puts.{put_refusals}
use Rattle.database_state.specs.SchemaSteps.{table_step, deleted_table_step, column_step, deleted_column_step, index_step, deleted_index_step}
use Rattle.database_state.specs.State.{levels}
use Rattle.database_state.specs.Table.{Table, row_at, table_named, schema_of, primary_order}
use Rattle.index_derive.specs.Schemas.{rule_with_id}
use Rattle.session_local.specs.declared.request.Request.{Request}
use Rattle.session_local.specs.declared.request.Request.TheVariants as call
use Rattle.session_local.specs.Answer.{Nothing, Number, Count, Bytes}
use Rattle.session_local.specs.Local.{OpenCursor, PreparedUpdate, inserting, replacing, cursor_labelled, temp_labelled, with_cursor, with_new_cursor, without_prepared, new_session}
use Rattle.session_local.specs.Outcome.{CallInputs, Outcome, said, refused, done, unless, on_cursor, one, step_of_change, rows_seen, is_outside, number_refusals, current_refusals, span_refusals}
use Rattle.session_local.specs.Calls.{answer, answer_begun, answer_not_begun}
use Rattle.session_local.specs.SessionCalls.{begin_session}
use Rattle.session_local.specs.SchemaCalls.{schema_changed}
use Rattle.session_local.specs.CursorCalls.{whole, opened, close_table, index_chosen_by, set_current_index, current_entries, move_cursor, seek_key, set_index_range, remove_index_range, segment_made, key_made_in, make_key, index_record_count, retrieve_key, get_bookmark, gone_to, goto_bookmark}
use Rattle.session_local.specs.RecordCalls.{record_at, bookmark_at, current, own_refusals, conflict_refusals, transaction_refusals, drop_at, hold_at, delete, get_lock, with_prepared, prepared_refusals, with_sums_at_zero, prepare_insert, prepare_copy, prepare_replace, cancel_update, on_prepared, on_column, set_column_in, set_column, sum_in, escrow_update, value_shown, column_shown, retrieve_column, retrieve_copy, bookmark_for, replaced_by, is_primary_changed, put_of, update_with, update}
use Rattle.session_local.specs.Run.{takes_no_memory}
use Rattle.session_local.specs.BuiltCalls.{is_built_request}
use Rattle.engine_core.specs.Steps.{step_may_lack_memory}
use Rattle.session_local.specs.IntersectCalls.{are_of_one_table, common_bookmarks, current_cursors, filled_by, filled_with}
use Rattle.session_local.specs.IntersectLaws.{IsErrOr, cursors-each}
use Rattle.session_local.specs.TempCalls.{TempOutcome, of_temps, temp_open, temp_put, temp_move, temp_read, temp_count, temp_close}
use Rattle.session_local.specs.TempLaws.{wants_memory, IsOtherTold, temp_open-other, temp_put-other, temp_move-other, temp_read-other, temp_count-other, temp_close-other}
use Rattle.engine_core.proofs.Refusing.{is_memory, not_memory, other-append, other-puts, unless-other, schema-other}
use Rattle.engine_core.proofs.Moves.{other-moved, other-sought, other-ranged}

-- an outcome that is not want of memory
abbrev IsOther : Outcome → Type 0
IsOther outcome = is_memory outcome.answered.jet ≡ false

-- whether a step, where there is one, may lack memory
abbrev takes_memory : Option Step → Bool
takes_memory None = false
takes_memory (Some step) = step_may_lack_memory step

-- an outcome whose step takes no memory
abbrev TakesNone : Outcome → Type 0
TakesNone outcome = takes_memory outcome.step ≡ false

-- what holds of each outcome that is both
abbrev OfEach : (Outcome → Type 0) → Type 0
OfEach P = (outcome : Outcome) → IsOther outcome → TakesNone outcome → P outcome

-- ---- ways to answer

at_cursor-each : (P : Outcome → Type 0) (asked : CallInputs) (found : Option OpenCursor) (next : OpenCursor → Outcome) → P (refused asked jet.InvalidTableId) → ((c : OpenCursor) → P (next c)) → P (on_cursor asked found next)
at_cursor-each P asked None next refusal rest = refusal
at_cursor-each P asked (Some c) next refusal rest = rest c

on_prepared-each : (P : Outcome → Type 0) (asked : CallInputs) (prepared : Option PreparedUpdate) (next : PreparedUpdate → Outcome) → P (refused asked jet.UpdateNotPrepared) → ((update : PreparedUpdate) → P (next update)) → P (on_prepared asked prepared next)
on_prepared-each P asked None next refusal rest = refusal
on_prepared-each P asked (Some update) next refusal rest = rest update

on_column-each : (P : Outcome → Type 0) (asked : CallInputs) (column : Option Column) (next : Column → Outcome) → P (refused asked jet.ColumnNotFound) → ((column : Column) → P (next column)) → P (on_column asked column next)
on_column-each P asked None next refusal rest = refusal
on_column-each P asked (Some column) next refusal rest = rest column

-- ---- temporary tables

reply-other : (reply : Jet) → wants_memory reply ≡ false → is_memory reply ≡ false
reply-other jet.OutOfMemory other = other
reply-other _ other = refl

told-other : (asked : CallInputs) (told : TempOutcome) → IsOtherTold told → IsOther (of_temps asked told)
told-other asked told other = reply-other told.answered.jet other

told-each : (P : Outcome → Type 0) (asked : CallInputs) (told : TempOutcome) → OfEach P → IsOtherTold told → P (of_temps asked told)
told-each P asked told each other = each (of_temps asked told) (told-other asked told other) refl

-- ---- intersections

filled-other : (asked : CallInputs) (temp : CursorId) (found : Result (List OpenCursor) Jet) → IsErrOr (λ reply. is_memory reply ≡ false) found → IsOther (filled_by asked temp found)
filled-other asked temp (Err reply) other = other
filled-other asked temp (Ok cursors) other =
    unless-other IsOther asked ((not (are_of_one_table cursors), jet.InvalidParameter) ∷ []) (λ _. filled_with asked temp (common_bookmarks asked cursors))
    refl
    (λ reply other. other)
    refl

-- ---- calls that take no memory

chosen-each : (P : Outcome → Type 0) (asked : CallInputs) (c : OpenCursor) (rule : Option IndexRule) → OfEach P → P (index_chosen_by asked c rule)
chosen-each P asked c None each = each _ refl refl
chosen-each P asked c (Some rule) each = each _ refl refl

index-each : (P : Outcome → Type 0) (asked : CallInputs) (c : OpenCursor) (index : Option (List ℕ)) → OfEach P → P (set_current_index asked c index)
index-each P asked c None each = each _ refl refl
index-each P asked c (Some name) each = chosen-each P asked c (find (λ r. bytes_eq r.name name) c.schema.indexes) each

segment-each : (P : Outcome → Type 0) (asked : CallInputs) (c : OpenCursor) (rule : IndexRule) (key : MadeKey) (value : Given) (segment : Option Segment) → OfEach P → P (segment_made asked c rule key value segment)
segment-each P asked c rule key value None each = each _ refl refl
segment-each P asked c rule key value (Some segment) each =
    let type = segment_kind c.schema.columns segment in
    unless-other P asked ((not (given_fits type value), jet.InvalidBufferSize) ∷ [])
    (λ _. done
    (with_cursor asked.local (record c { cursor = record c.cursor { key = Some (with_segment rule type segment value key) } }))
    Nothing None)
    refl
    (λ reply other. each _ other refl)
    (each _ refl refl)

key-each : (P : Outcome → Type 0) (asked : CallInputs) (c : OpenCursor) (fresh : Bool) (value : Given) (rule : Option IndexRule) → OfEach P → P (key_made_in asked c fresh value rule)
key-each P asked c fresh value None each = each _ refl refl
key-each P asked c fresh value (Some rule) each =
    unless-other P asked ((not fresh && is_none c.cursor.key, jet.KeyNotMade) ∷ [])
    (λ _. let key = begun_key fresh c.cursor.key in segment_made asked c rule key value (slice_get rule.segments key.segments))
    refl
    (λ reply other. each _ other refl)
    (segment-each P asked c rule (begun_key fresh c.cursor.key) value (slice_get rule.segments (begun_key fresh c.cursor.key).segments) each)

other-shown : (b : Bool) → is_memory (if b then jet.BufferTruncated else jet.Success) ≡ false
other-shown true = refl
other-shown false = refl

value-each : (P : Outcome → Type 0) (asked : CallInputs) (column : Column) (most : ℕ) (value : Option (List ℕ)) → OfEach P → P (value_shown asked column most value)
value-each P asked column most None each = each _ refl refl
value-each P asked column most (Some value) each =
    elim (is_number_type column.kind) as (λ b. P (if b then said asked jet.Success (Number (number_of column.kind value)) else said asked (if nat_lt most (length value) then jet.BufferTruncated else jet.Success) (Bytes (take most value) (length value)))) [
      | true ↦ each _ refl refl
      | false ↦ each _ (other-shown (nat_lt most (length value))) refl
    ]

column-each : (P : Outcome → Type 0) (asked : CallInputs) (sequence most : ℕ) (fields : RecordFields) (column : Column) → OfEach P → P (column_shown asked sequence most fields column)
column-each P asked sequence most fields column each =
    let values = values_of fields column.id.0 in
    elim (sequence == 0) as (λ b. P (if b then said asked jet.Success (Number (pos (length values))) else value_shown asked column most (slice_get values (sequence - 1)))) [
      | true ↦ each _ refl refl
      | false ↦ value-each P asked column most (slice_get values (sequence - 1)) each
    ]

copy-each : (P : Outcome → Type 0) (asked : CallInputs) (c : OpenCursor) (name : List ℕ) (sequence most : ℕ) → OfEach P → P (retrieve_copy asked c name sequence most)
copy-each P asked c name sequence most each =
    on_prepared-each P asked c.prepared
    (λ update. on_column asked (column_named c.schema.columns name) (column_shown asked sequence most update.values))
    (each _ refl refl)
    (λ update. on_column-each P asked (column_named c.schema.columns name) (column_shown asked sequence most update.values)
    (each _ refl refl)
    (λ column. column-each P asked sequence most update.values column each))

record-each : (P : Outcome → Type 0) (asked : CallInputs) (c : OpenCursor) (name : List ℕ) (sequence most : ℕ) → OfEach P → P (retrieve_column asked c name sequence most)
record-each P asked c name sequence most each =
    unless-other P asked (current asked c)
    (λ _. on_column asked (column_named c.schema.columns name) (column_shown asked sequence most (record_at asked c)))
    refl
    (λ reply other. each _ other refl)
    (on_column-each P asked (column_named c.schema.columns name) (column_shown asked sequence most (record_at asked c))
    (each _ refl refl)
    (λ column. column-each P asked sequence most (record_at asked c) column each))

entry-each : (P : Outcome → Type 0) (asked : CallInputs) (c : OpenCursor) (entry : Option Pair) → OfEach P → P (gone_to asked c entry)
entry-each P asked c None each = each _ refl refl
entry-each P asked c (Some entry) each = each _ refl refl

bookmark-each : (P : Outcome → Type 0) (asked : CallInputs) (c : OpenCursor) (bookmark : List ℕ) → OfEach P → P (goto_bookmark asked c bookmark)
bookmark-each P asked c bookmark each =
    unless-other P asked
    (((length bookmark == 0) || nat_lt 255 (length bookmark), jet.InvalidBookmark)
    ∷ (is_none (row_at (rows_seen asked c) bookmark), jet.RecordDeleted) ∷ [])
    (λ _. gone_to asked c (least_entry_of bookmark (current_entries asked c)))
    refl
    (λ reply other. each _ other refl)
    (entry-each P asked c (least_entry_of bookmark (current_entries asked c)) each)

without : (P : Outcome → Type 0) (asked : CallInputs) (request : Request) → OfEach P → takes_no_memory request ≡ true → P (answer_begun asked request)
without P asked (call.CommitTransaction lazy) each none =
    unless-other P asked ((is_outside asked, jet.NotInTransaction) ∷ [])
    (λ _. if nat_lt 1 (levels asked.state asked.session) then done asked.local Nothing (one asked entry.Release)
    else done (without_prepared asked.local) Nothing (one asked entry.Commit))
    refl
    (λ reply other. each _ other refl)
    (elim (nat_lt 1 (levels asked.state asked.session)) as (λ b. P (if b then done asked.local Nothing (one asked entry.Release) else done (without_prepared asked.local) Nothing (one asked entry.Commit))) [
      | true ↦ each _ refl refl
      | false ↦ each _ refl refl
    ])
without P asked (call.Rollback all) each none =
    unless-other P asked ((is_outside asked, jet.NotInTransaction) ∷ [])
    (λ _. done (without_prepared asked.local) Nothing (one asked (if all then entry.UndoAll else entry.Undo)))
    refl
    (λ reply other. each _ other refl)
    (elim all as (λ b. P (done (without_prepared asked.local) Nothing (one asked (if b then entry.UndoAll else entry.Undo)))) [
      | true ↦ each _ refl refl
      | false ↦ each _ refl refl
    ])
without P asked call.EndSession each none = each _ refl refl
without P asked (call.CloseTable cursor) each none =
    at_cursor-each P asked (cursor_labelled asked.local cursor.0) (close_table asked) (each _ refl refl) (λ c. each _ refl refl)
without P asked (call.SetCurrentIndex cursor index) each none =
    at_cursor-each P asked (cursor_labelled asked.local cursor.0) (λ c. set_current_index asked c index) (each _ refl refl) (λ c. index-each P asked c index each)
without P asked (call.Move cursor to) each none =
    at_cursor-each P asked (cursor_labelled asked.local cursor.0) (λ c. move_cursor asked c to) (each _ refl refl)
    (λ c. each _ (other-moved c.cursor (current_entries asked c) to) refl)
without P asked (call.Seek cursor by) each none =
    at_cursor-each P asked (cursor_labelled asked.local cursor.0) (λ c. seek_key asked c by) (each _ refl refl)
    (λ c. each _ (other-sought c.cursor (current_entries asked c) by) refl)
without P asked (call.SetIndexRange cursor upper inclusive) each none =
    at_cursor-each P asked (cursor_labelled asked.local cursor.0) (λ c. set_index_range asked c upper inclusive) (each _ refl refl)
    (λ c. each _ (other-ranged c.cursor (current_entries asked c) upper inclusive) refl)
without P asked (call.RemoveIndexRange cursor) each none =
    at_cursor-each P asked (cursor_labelled asked.local cursor.0) (remove_index_range asked) (each _ refl refl) (λ c. each _ refl refl)
without P asked (call.MakeKey cursor fresh value) each none =
    at_cursor-each P asked (cursor_labelled asked.local cursor.0) (λ c. make_key asked c fresh value) (each _ refl refl)
    (λ c. key-each P asked c fresh value (rule_with_id c.schema c.cursor.index) each)
without P asked (call.IndexRecordCount cursor most) each none =
    at_cursor-each P asked (cursor_labelled asked.local cursor.0) (λ c. index_record_count asked c most) (each _ refl refl)
    (λ c. unless-other P asked (current_refusals (rows_seen asked c) c.cursor.place)
    (λ _. said asked jet.Success (Count (count_from c.cursor (current_entries asked c) (place_key c.cursor.place, place_bookmark c.cursor.place) most))) refl (λ reply other. each _ other refl) (each _ refl refl))
without P asked (call.RetrieveKey cursor) each none =
    at_cursor-each P asked (cursor_labelled asked.local cursor.0) (retrieve_key asked) (each _ refl refl)
    (λ c. unless-other P asked (current_refusals (rows_seen asked c) c.cursor.place) (λ _. said asked jet.Success (whole (place_key c.cursor.place))) refl (λ reply other. each _ other refl) (each _ refl refl))
without P asked (call.GetBookmark cursor) each none =
    at_cursor-each P asked (cursor_labelled asked.local cursor.0) (get_bookmark asked) (each _ refl refl)
    (λ c. unless-other P asked (current_refusals (rows_seen asked c) c.cursor.place) (λ _. said asked jet.Success (whole (place_bookmark c.cursor.place))) refl (λ reply other. each _ other refl) (each _ refl refl))
without P asked (call.GotoBookmark cursor bookmark) each none =
    at_cursor-each P asked (cursor_labelled asked.local cursor.0) (λ c. goto_bookmark asked c bookmark) (each _ refl refl) (λ c. bookmark-each P asked c bookmark each)
without P asked (call.RetrieveColumn cursor column sequence true most) each none =
    at_cursor-each P asked (cursor_labelled asked.local cursor.0) (λ c. retrieve_copy asked c column sequence most) (each _ refl refl) (λ c. copy-each P asked c column sequence most each)
without P asked (call.RetrieveColumn cursor column sequence false most) each none =
    at_cursor-each P asked (cursor_labelled asked.local cursor.0) (λ c. retrieve_column asked c column sequence most) (each _ refl refl) (λ c. record-each P asked c column sequence most each)
without P asked (call.TempMove temp way) each none = told-each P asked (temp_move asked.local.temps temp way) each (temp_move-other asked.local.temps temp way)
without P asked (call.TempRead temp column) each none = told-each P asked (temp_read asked.local.temps temp column) each (temp_read-other asked.local.temps temp column)
without P asked (call.TempCount temp) each none = told-each P asked (temp_count asked.local.temps temp) each (temp_count-other asked.local.temps temp)
without P asked (call.TempClose temp) each none = told-each P asked (temp_close asked.local.temps temp) each (temp_close-other asked.local.temps temp)
without P asked _ each none = cc

-- ---- calls that take memory

begins-other : (asked : CallInputs) → IsOther (begin_session asked)
begins-other asked =
    unless-other IsOther asked
    ((asked.local.begun, jet.SessionInUse) ∷ (nat_le 64 (length asked.state.sessions), jet.OutOfSessions) ∷ number_refusals asked)
    (λ _. done new_session Nothing (one asked entry.Enter))
    refl
    (λ reply other. other)
    refl

schema_changed-other : (asked : CallInputs) (made : SchemaStep) → IsOther (schema_changed asked made)
schema_changed-other asked made =
    schema-other IsOther asked made
    (λ _. unless asked (number_refusals asked) (λ _. done asked.local Nothing (one asked (entry.Schema made))))
    (λ reply other. other)
    (unless-other IsOther asked (number_refusals asked) (λ _. done asked.local Nothing (one asked (entry.Schema made))) refl (λ reply other. other) refl)

opened-other : (asked : CallInputs) (label : ℕ) (table : Option Table) → IsOther (opened asked label table)
opened-other asked label None = refl
opened-other asked label (Some table) =
    unless-other IsOther asked (number_refusals asked)
    (λ _. done
    (with_new_cursor asked.local (record {
      label = label;
      schema = schema_of table;
      cursor = new_cursor table.id (primary_order (schema_of table));
      prepared = None;
    }))
    Nothing
    (one asked (entry.Open (record { 0 = table.id }))))
    refl
    (λ reply other. other)
    refl

set-other : (asked : CallInputs) (c : OpenCursor) (prepared : PreparedUpdate) (sequence : ℕ) (value : Given) (column : Column) → IsOther (set_column_in asked c prepared sequence value column)
set-other asked c prepared sequence value column =
    let after : PreparedUpdate = record prepared { values = fields_after column sequence value prepared.values } in
    unless-other IsOther asked (set_refusals column sequence value prepared.values)
    (λ _. unless asked (size_refusals column sequence value prepared.values) (λ _. done (with_prepared asked c (Some after)) Nothing None))
    refl
    (λ reply other. other)
    (unless-other IsOther asked (size_refusals column sequence value prepared.values) (λ _. done (with_prepared asked c (Some after)) Nothing None) refl (λ reply other. other) refl)

update-other : (asked : CallInputs) (c : OpenCursor) (prepared : PreparedUpdate) → IsOther (update_with asked c prepared)
update-other asked c prepared =
    let bookmark = bookmark_for asked c.schema prepared.for prepared.values in
    let put = put_of asked c prepared bookmark in
    let puts = put_refusals asked.state asked.session c.cursor.table c.schema (rows_seen asked c) (replaced_by prepared.for) prepared.values in
    let puts_other = other-puts asked.state asked.session c.cursor.table c.schema (rows_seen asked c) (replaced_by prepared.for) prepared.values in
    unless-other IsOther asked
    ((is_missing_a_value c.schema.columns prepared.values, jet.NullInvalid)
    ∷ (is_primary_changed c.schema prepared.for prepared.values, jet.RecordPrimaryChanged)
    ∷ puts
    ++ number_refusals asked
    ++ span_refusals asked put)
    (λ _. done (with_prepared asked c None) (whole bookmark) (step_of_change asked put))
    (other-append (puts ++ number_refusals asked) (span_refusals asked put) (other-append puts (number_refusals asked) puts_other refl) refl)
    (λ reply other. other)
    refl

sum-other : (asked : CallInputs) (c : OpenCursor) (amount : ℤ) (column : Column) → IsOther (sum_in asked c amount column)
sum-other asked c amount column =
    let sum : Change = change.Add (record { 0 = c.cursor.table }) (bookmark_at c) column.id amount in
    unless-other IsOther asked
    ((not column.escrow, jet.InvalidColumnType)
    ∷ own_refusals asked c
    ++ conflict_refusals asked sum
    ++ number_refusals asked
    ++ span_refusals asked sum)
    (λ _. done asked.local (Number (number_of kind.Long (escrow_bytes (record_at asked c) column.id.0))) (step_of_change asked sum))
    refl
    (λ reply other. other)
    refl

taking : (asked : CallInputs) (request : Request) → is_built_request request ≡ true → takes_no_memory request ≡ false → IsOther (answer_begun asked request)
taking asked call.BeginSession built some = begins-other asked
taking asked call.BeginTransaction built some =
    unless-other IsOther asked
    ((nat_le 7 (levels asked.state asked.session), jet.TransTooDeep) ∷ number_refusals asked)
    (λ _. done asked.local Nothing (one asked (if is_outside asked then entry.Begin else entry.Save)))
    refl
    (λ reply other. other)
    refl
taking asked (call.CreateTable table) built some = schema_changed-other asked (table_step asked.state table)
taking asked (call.DeleteTable table) built some = schema_changed-other asked (deleted_table_step asked.state table)
taking asked (call.AddColumn table column kind flags) built some = schema_changed-other asked (column_step asked.state table column kind flags)
taking asked (call.DeleteColumn table column) built some = schema_changed-other asked (deleted_column_step asked.state table column)
taking asked (call.CreateIndex table index flags key_most segments conditions) built some = schema_changed-other asked (index_step asked.state table index flags key_most segments conditions)
taking asked (call.DeleteIndex table index) built some = schema_changed-other asked (deleted_index_step asked.state table index)
taking asked (call.OpenTable cursor table) built some =
    unless-other IsOther asked
    ((is_some (cursor_labelled asked.local cursor.0), jet.InvalidTableId) ∷ (nat_le 16 (length asked.local.cursors), jet.OutOfCursors) ∷ [])
    (λ _. opened asked cursor.0 (table_named asked.state.tables table))
    refl
    (λ reply other. other)
    (opened-other asked cursor.0 (table_named asked.state.tables table))
taking asked (call.PrepareUpdate cursor prepare.Insert) built some =
    at_cursor-each IsOther asked (cursor_labelled asked.local cursor.0) (prepare_insert asked) refl
    (λ c. unless-other IsOther asked (prepared_refusals c)
    (λ _. done (with_prepared asked c (Some (record { for = inserting None; values = with_sums_at_zero c.schema.columns [] }))) Nothing None)
    refl
    (λ reply other. other)
    refl)
taking asked (call.PrepareUpdate cursor prepare.Cancel) built some =
    at_cursor-each IsOther asked (cursor_labelled asked.local cursor.0) (cancel_update asked) refl
    (λ c. unless-other IsOther asked ((is_none c.prepared, jet.UpdateNotPrepared) ∷ [])
    (λ _. done (with_prepared asked c None) Nothing None)
    refl
    (λ reply other. other)
    refl)
taking asked (call.PrepareUpdate cursor prepare.InsertCopy) built some =
    at_cursor-each IsOther asked (cursor_labelled asked.local cursor.0) (prepare_copy asked) refl
    (λ c. unless-other IsOther asked (prepared_refusals c ++ current asked c)
    (λ _. done (with_prepared asked c (Some (record { for = inserting (Some (bookmark_at c)); values = with_sums_at_zero c.schema.columns (record_at asked c) }))) Nothing None)
    refl
    (λ reply other. other)
    refl)
taking asked (call.PrepareUpdate cursor prepare.Replace) built some =
    at_cursor-each IsOther asked (cursor_labelled asked.local cursor.0) (prepare_replace asked) refl
    (λ c. unless-other IsOther asked
    (prepared_refusals c
    ++ transaction_refusals asked
    ++ current asked c
    ++ own_refusals asked c
    ++ conflict_refusals asked (hold_at c)
    ++ number_refusals asked
    ++ span_refusals asked (hold_at c))
    (λ _. done (with_prepared asked c (Some (record { for = replacing (bookmark_at c); values = record_at asked c }))) Nothing (step_of_change asked (hold_at c)))
    refl
    (λ reply other. other)
    refl)
taking asked (call.SetColumn cursor column sequence value) built some =
    at_cursor-each IsOther asked (cursor_labelled asked.local cursor.0) (λ c. set_column asked c column sequence value) refl
    (λ c. on_prepared-each IsOther asked c.prepared
    (λ prepared. on_column asked (column_named c.schema.columns column) (set_column_in asked c prepared sequence value))
    refl
    (λ prepared. on_column-each IsOther asked (column_named c.schema.columns column) (set_column_in asked c prepared sequence value)
    refl
    (λ found. set-other asked c prepared sequence value found)))
taking asked (call.Update cursor) built some =
    at_cursor-each IsOther asked (cursor_labelled asked.local cursor.0) (update asked) refl
    (λ c. on_prepared-each IsOther asked c.prepared (update_with asked c) refl (λ prepared. update-other asked c prepared))
taking asked (call.Delete cursor) built some =
    at_cursor-each IsOther asked (cursor_labelled asked.local cursor.0) (delete asked) refl
    (λ c. unless-other IsOther asked
    (current asked c
    ++ own_refusals asked c
    ++ conflict_refusals asked (drop_at c)
    ++ number_refusals asked
    ++ span_refusals asked (drop_at c))
    (λ _. done asked.local Nothing (step_of_change asked (drop_at c)))
    refl
    (λ reply other. other)
    refl)
taking asked (call.GetLock cursor) built some =
    at_cursor-each IsOther asked (cursor_labelled asked.local cursor.0) (get_lock asked) refl
    (λ c. unless-other IsOther asked
    (transaction_refusals asked
    ++ current asked c
    ++ conflict_refusals asked (hold_at c)
    ++ number_refusals asked
    ++ span_refusals asked (hold_at c))
    (λ _. done asked.local Nothing (step_of_change asked (hold_at c)))
    refl
    (λ reply other. other)
    refl)
taking asked (call.EscrowUpdate cursor name amount) built some =
    at_cursor-each IsOther asked (cursor_labelled asked.local cursor.0) (λ c. escrow_update asked c name amount) refl
    (λ c. unless-other IsOther asked (transaction_refusals asked ++ current asked c)
    (λ _. on_column asked (column_named c.schema.columns name) (sum_in asked c amount))
    refl
    (λ reply other. other)
    (on_column-each IsOther asked (column_named c.schema.columns name) (sum_in asked c amount) refl (λ found. sum-other asked c amount found)))
taking asked (call.TempOpen temp unique columns) built some = told-other asked (temp_open asked.local.temps temp unique columns) (temp_open-other asked.local.temps temp unique columns)
taking asked (call.TempPut temp values) built some = told-other asked (temp_put asked.local.temps temp values) (temp_put-other asked.local.temps temp values)
taking asked (call.IntersectIndexes temp cursors) built some =
    unless-other IsOther asked
    ((is_some (temp_labelled asked.local.temps temp), jet.InvalidTableId) ∷ (nat_le 4 (length asked.local.temps), jet.OutOfCursors) ∷ [])
    (λ _. filled_by asked temp (current_cursors asked cursors))
    refl
    (λ reply other. other)
    (filled-other asked temp (current_cursors asked cursors) (cursors-each (λ reply. is_memory reply ≡ false) asked cursors refl refl refl))
taking asked _ built some = cc

-- ---- the laws

begun-other : (asked : CallInputs) (request : Request) → is_built_request request ≡ true → IsOther (answer_begun asked request)
begun-other asked request built =
    elim (takes_no_memory request) as (λ b. takes_no_memory request ≡ b → IsOther (answer_begun asked request)) [
      | true ↦ λ none. without IsOther asked request (λ outcome other step. other) none
      | false ↦ λ some. taking asked request built some
    ] refl

not_begun-other : (asked : CallInputs) (request : Request) → IsOther (answer_not_begun asked request)
not_begun-other asked call.BeginSession = begins-other asked
not_begun-other asked _ = refl

not_begun-none : (asked : CallInputs) (request : Request) → takes_no_memory request ≡ true → TakesNone (answer_not_begun asked request)
not_begun-none asked call.BeginSession none = cc
not_begun-none asked _ none = refl

answer-other : (asked : CallInputs) (request : Request) → is_built_request request ≡ true → IsOther (answer asked request)
unfolding answer
answer-other asked request built =
    elim asked.local.begun as (λ b. IsOther (elim b [ true ↦ answer_begun asked request | false ↦ answer_not_begun asked request ])) [
      | true ↦ begun-other asked request built
      | false ↦ not_begun-other asked request
    ]

pub answer-not_memory : (asked : CallInputs) (request : Request) → is_built_request request ≡ true → (answer asked request).answered.jet ≢ jet.OutOfMemory
answer-not_memory asked request built = not_memory (answer asked request).answered.jet (answer-other asked request built)

answer-takes_none : (asked : CallInputs) (request : Request) → takes_no_memory request ≡ true → TakesNone (answer asked request)
unfolding answer
answer-takes_none asked request none =
    elim asked.local.begun as (λ b. TakesNone (elim b [ true ↦ answer_begun asked request | false ↦ answer_not_begun asked request ])) [
      | true ↦ without TakesNone asked request (λ outcome other step. step) none
      | false ↦ not_begun-none asked request none
    ]

pub step-takes_none : (asked : CallInputs) (request : Request) (step : Step) → takes_no_memory request ≡ true → (answer asked request).step ≡ Some step → step_may_lack_memory step ≡ false
step-takes_none asked request step none is = sym (ap takes_memory is) ∙ answer-takes_none asked request none
