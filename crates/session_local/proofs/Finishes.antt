-- What a decision leaves of the session's own state is what the definitions say, call by call.
use Rattle.std.proofs.Common.{◌≡◌, ℕ, ◌==◌, Bool, true, false, cond, List, [], ◌∷◌, Option, Some, None, Result, Ok, Err, option_map, refl, sym, ap, ◌∙◌, if◌then◌else◌, is_some, nat_le, nat_lt, length, pos, take, ◌++◌, ◌-◌, not, slice_get}
use Rattle.std.proofs.lemmas.Bool.{eq-eqb}
use Rattle.jet_base.specs.declared.ids.CursorId.{CursorId}
use Rattle.jet_base.specs.declared.replies.Jet.{Jet}
use Rattle.jet_base.specs.declared.replies.Jet.TheVariants as jet
use Rattle.jet_base.specs.declared.words.Prepare.TheVariants as prepare
use Rattle.jet_base.specs.declared.words.ColType.TheVariants as kind
use Rattle.jet_base.specs.ColumnType.{is_number_type, number_of}
use Rattle.column_set.specs.declared.columns.Column.{Column}
use Rattle.column_set.specs.declared.changes.Change.{Change}
use Rattle.column_set.specs.declared.changes.Change.TheVariants as change
use Rattle.column_set.specs.RecordValues.{RecordFields, values_of, column_named, is_missing_a_value}
use Rattle.index_derive.specs.declared.log.EntryKind.TheVariants as entry
use Rattle.index_derive.specs.declared.log.Step.{Step}
use Rattle.index_derive.specs.declared.log.Step.TheVariants.{Alone}
use Rattle.index_derive.specs.declared.schema_calls.SchemaStep.{SchemaStep}
use Rattle.cursor_nav.specs.Navigation.{new_cursor, count_from}
use Rattle.database_state.specs.Table.{Table, schema_of, primary_order, table_named}
use Rattle.database_state.specs.SchemaChanges.{schema_refusal}
use Rattle.database_state.specs.Changes.{escrow_bytes}
use Rattle.database_state.specs.Puts.{put_refusals}
use Rattle.database_state.specs.SchemaSteps.{table_step, deleted_table_step, column_step, deleted_column_step, index_step, deleted_index_step}
use Rattle.database_state.specs.State.{levels}
use Rattle.session_local.specs.declared.request.Request.{Request}
use Rattle.session_local.specs.declared.request.Request.TheVariants as call
use Rattle.session_local.specs.Local.{LocalState, OpenCursor, PreparedUpdate, inserting, replacing, cursor_labelled, temp_labelled, with_cursor, with_new_cursor, with_new_temp, without_prepared, new_session}
use Rattle.cursor_nav.specs.Places.{place_key, place_bookmark}
use Rattle.temp_table.specs.TempRows.{TempRows}
use Rattle.session_local.specs.declared.open_temp.OpenTemp.{OpenTemp}
use Rattle.session_local.specs.Answer.{Nothing, Number, Count, Bytes}
use Rattle.session_local.specs.Outcome.{CallInputs, Outcome, said, refused, done, unless, entry_of, one, step_of_change, rows_seen, is_outside, number_refusals, current_refusals, span_refusals}
use Rattle.session_local.specs.Calls.{answer, answer_begun, answer_not_begun}
use Rattle.session_local.specs.SessionCalls.{begin_session}
use Rattle.session_local.specs.IntersectCalls.{are_of_one_table, common_bookmarks, current_cursors, filled_by, filled_with, table_of_bookmarks}
use Rattle.session_local.specs.IntersectLaws.{IsErrOr, cursors-each}
use Rattle.session_local.specs.SchemaCalls.{schema_changed}
use Rattle.session_local.specs.CursorCalls.{whole, opened, close_table, current_entries, index_record_count, retrieve_key, get_bookmark}
use Rattle.session_local.specs.RecordCalls.{bookmark_at, record_at, current, own_refusals, conflict_refusals, transaction_refusals, drop_at, hold_at, with_prepared, prepared_refusals, with_sums_at_zero, prepare_copy, prepare_replace, on_column, value_shown, column_shown, retrieve_column, retrieve_copy, bookmark_for, replaced_by, is_primary_changed, put_of, update_with, update, delete, get_lock, sum_in, escrow_update}
use Rattle.session_local.specs.Finishing.{after_step, filled_if_success, finished, decided_of, decided_by, is_finished, with_opened, with_copied, with_filled, with_update_at, prepared_on}
use Rattle.session_local.specs.FoundLaws.{labelled}
use Rattle.session_local.proofs.Outcomes.{unless_refused-all, unless-all, on_cursor-all, on_prepared-all, on_column-all, unless-each}
use Rattle.session_local.proofs.Labels.{cursor_labelled-with_cursor}

-- an outcome leaves what its decision is finished to
abbrev Finishes : CallInputs → Request → Outcome → Type 0
Finishes asked request outcome = finished asked.local request (decided_of asked request outcome) ≡ outcome.local

begins : (asked : CallInputs) → Finishes asked call.BeginSession (begin_session asked)
begins asked =
    unless-all (Finishes asked call.BeginSession) asked
    ((asked.local.begun, jet.SessionInUse) ∷ (nat_le 64 (length asked.state.sessions), jet.OutOfSessions) ∷ number_refusals asked)
    (λ _. done new_session Nothing (one asked entry.Enter))
    (λ reply. refl)
    refl

-- ---- an open table

opens : (asked : CallInputs) (label : ℕ) (table : Option Table) (taken full : Bool) → asked.local.begun ≡ true → is_some (cursor_labelled asked.local label) ≡ taken → nat_le 16 (length asked.local.cursors) ≡ full
    → (λ (o : Outcome). after_step o.step asked.local (with_opened asked.local label (option_map (λ t. (t.id, schema_of t)) table)) ≡ o.local) (unless asked ((taken, jet.InvalidTableId) ∷ (full, jet.OutOfCursors) ∷ []) (λ _. opened asked label table))
opens asked label table true full is_begun is_taken is_full = refl
opens asked label table false true is_begun is_taken is_full = refl
opens asked label None false false is_begun is_taken is_full = refl
opens asked label (Some table) false false is_begun is_taken is_full =
    unless-all (λ o. after_step o.step asked.local (with_opened asked.local label (Some (table.id, schema_of table))) ≡ o.local) asked
    (number_refusals asked)
    (λ _. done
    (with_new_cursor asked.local (record {
      label = label;
      schema = schema_of table;
      cursor = new_cursor table.id (primary_order (schema_of table));
      prepared = None;
    }))
    Nothing
    (one asked (entry.Open (record { 0 = table.id }))))
    (λ reply. refl)
    (rw (is_begun, is_taken, is_full) refl)

-- ---- a temporary table that is filled

-- a table behind the others is that of its label, where it was free
labelled-new : (temps : List OpenTemp) (new : OpenTemp) → is_some (temp_labelled temps new.label) ≡ false → temp_labelled (temps ++ new ∷ []) new.label ≡ Some new
labelled-new [] new free = ap (λ b. cond b (Some new) None) (eq-eqb new.label.0 new.label.0 refl)
labelled-new (temp ∷ temps) new free =
    elim (temp.label.0 == new.label.0) as (λ b. is_some (cond b (Some temp) (temp_labelled temps new.label)) ≡ false → cond b (Some temp) (temp_labelled (temps ++ new ∷ []) new.label) ≡ Some new) [
      | true ↦ λ h. cc
      | false ↦ λ h. labelled-new temps new h
    ] free

fills_new : (local : LocalState) (label : CursorId) (table : TempRows) → local.begun ≡ true → is_some (temp_labelled local.temps label) ≡ false → nat_le 4 (length local.temps) ≡ false
    → with_filled local label (option_map (λ temp. temp.table) (temp_labelled (local.temps ++ record { label = label; table = table } ∷ []) label)) ≡ with_new_temp local (record { label = label; table = table })
fills_new local label table is_begun is_free has_room =
    ap (λ (found : Option OpenTemp). with_filled local label (option_map (λ (temp : OpenTemp). temp.table) found)) (labelled-new local.temps (record { label = label; table = table }) is_free)
    ∙ rw (is_begun, is_free, has_room) refl

abbrev Fills : CallInputs → CursorId → Outcome → Type 0
Fills asked temp outcome = with_filled asked.local temp (filled_if_success outcome.answered.jet (temp_labelled outcome.local.temps temp)) ≡ outcome.local

fills_by : (asked : CallInputs) (temp : CursorId) (found : Result (List OpenCursor) Jet) → IsErrOr (λ reply. Fills asked temp (refused asked reply)) found
    → asked.local.begun ≡ true → is_some (temp_labelled asked.local.temps temp) ≡ false → nat_le 4 (length asked.local.temps) ≡ false → Fills asked temp (filled_by asked temp found)
fills_by asked temp (Err reply) each is_begun is_free has_room = each
fills_by asked temp (Ok cursors) each is_begun is_free has_room =
    unless-each (Fills asked temp) asked ((not (are_of_one_table cursors), jet.InvalidParameter) ∷ []) (λ _. filled_with asked temp (common_bookmarks asked cursors))
    (refl, tt)
    (fills_new asked.local temp (table_of_bookmarks (common_bookmarks asked cursors)) is_begun is_free has_room)

fills : (asked : CallInputs) (temp : CursorId) (labels : List CursorId) (taken full : Bool) → asked.local.begun ≡ true → is_some (temp_labelled asked.local.temps temp) ≡ taken → nat_le 4 (length asked.local.temps) ≡ full
    → Fills asked temp (unless asked ((taken, jet.InvalidTableId) ∷ (full, jet.OutOfCursors) ∷ []) (λ _. filled_by asked temp (current_cursors asked labels)))
fills asked temp labels true full is_begun is_taken is_full = refl
fills asked temp labels false true is_begun is_taken is_full = refl
fills asked temp labels false false is_begun is_taken is_full = fills_by asked temp (current_cursors asked labels) (cursors-each (λ reply. Fills asked temp (refused asked reply)) asked labels refl refl refl) is_begun is_taken is_full

-- ---- changes

after_change : (asked : CallInputs) (change : Change) (without after : LocalState) → after_step (step_of_change asked change) without after ≡ after
after_change asked change without after =
    elim (levels asked.state asked.session == 0) as (λ b. after_step (if b then Some (Alone (entry_of asked (entry.Change change))) else one asked (entry.Change change)) without after ≡ after) [ true ↦ refl | false ↦ refl ]

-- ---- prepared updates

copies : (local : LocalState) (label : ℕ) (c : OpenCursor) (update : PreparedUpdate) → cursor_labelled local label ≡ Some c
    → with_copied local label (prepared_on (cursor_labelled (with_cursor local (record c { prepared = Some update })) label)) ≡ with_cursor local (record c { prepared = Some update })
copies local label c update found =
    rw (cursor_labelled-with_cursor local label (record c { prepared = Some update }) c (labelled label local.cursors c found) found, found) refl

-- ---- what a column shows leaves all as it was

abbrev local_of : Outcome → LocalState
local_of outcome = outcome.local

shows_value : (asked : CallInputs) (column : Column) (most : ℕ) (value : Option (List ℕ)) → (value_shown asked column most value).local ≡ asked.local
shows_value asked column most None = refl
shows_value asked column most (Some value) =
    elim (is_number_type column.kind) as (λ b. local_of (if b then said asked jet.Success (Number (number_of column.kind value)) else said asked (if nat_lt most (length value) then jet.BufferTruncated else jet.Success) (Bytes (take most value) (length value))) ≡ asked.local) [
      | true ↦ refl
      | false ↦ refl
    ]

pub shows_column : (asked : CallInputs) (sequence most : ℕ) (fields : RecordFields) (column : Column) → (column_shown asked sequence most fields column).local ≡ asked.local
shows_column asked sequence most fields column =
    let values = values_of fields column.id.0 in
    elim (sequence == 0) as (λ b. local_of (if b then said asked jet.Success (Number (pos (length values))) else value_shown asked column most (slice_get values (sequence - 1))) ≡ asked.local) [
      | true ↦ refl
      | false ↦ shows_value asked column most (slice_get values (sequence - 1))
    ]

-- ---- call by call

schema_finishes : (P : Outcome → Type 0) (asked : CallInputs) (made : SchemaStep) → ((reply : Jet) → P (refused asked reply)) → ((step : Option Step) → P (record { answered = record { jet = jet.Success; shown = Nothing }; local = asked.local; step = step })) → P (schema_changed asked made)
schema_finishes P asked made refusal rest =
    unless_refused-all P asked
    (schema_refusal asked.state asked.session made)
    (λ _. unless asked (number_refusals asked) (λ _. done asked.local Nothing (one asked (entry.Schema made))))
    refusal
    (unless-all P asked
    (number_refusals asked)
    (λ _. done asked.local Nothing (one asked (entry.Schema made)))
    refusal
    (rest (one asked (entry.Schema made))))

begun : (asked : CallInputs) (request : Request) → asked.local.begun ≡ true → is_finished request ≡ true → Finishes asked request (answer_begun asked request)
begun asked call.BeginSession is_begun h = begins asked
begun asked call.EndSession is_begun h = refl
begun asked call.BeginTransaction is_begun h =
    unless-all (Finishes asked call.BeginTransaction) asked
    ((nat_le 7 (levels asked.state asked.session), jet.TransTooDeep) ∷ number_refusals asked)
    (λ _. done asked.local Nothing (one asked (if is_outside asked then entry.Begin else entry.Save)))
    (λ reply. refl)
    refl
begun asked (call.CommitTransaction lazy) is_begun h =
    unless-all (Finishes asked (call.CommitTransaction lazy)) asked
    ((is_outside asked, jet.NotInTransaction) ∷ [])
    (λ _. if nat_lt 1 (levels asked.state asked.session) then done asked.local Nothing (one asked entry.Release)
    else done (without_prepared asked.local) Nothing (one asked entry.Commit))
    (λ reply. refl)
    (elim (nat_lt 1 (levels asked.state asked.session)) as (λ b. Finishes asked (call.CommitTransaction lazy) (if b then done asked.local Nothing (one asked entry.Release) else done (without_prepared asked.local) Nothing (one asked entry.Commit))) [
      | true ↦ refl
      | false ↦ refl
    ])
begun asked (call.Rollback all) is_begun h =
    unless-all (Finishes asked (call.Rollback all)) asked
    ((is_outside asked, jet.NotInTransaction) ∷ [])
    (λ _. done (without_prepared asked.local) Nothing (one asked (if all then entry.UndoAll else entry.Undo)))
    (λ reply. refl)
    refl
begun asked (call.CreateTable table) is_begun h = schema_finishes (Finishes asked (call.CreateTable table)) asked (table_step asked.state table) (λ reply. refl) (λ step. refl)
begun asked (call.DeleteTable table) is_begun h = schema_finishes (Finishes asked (call.DeleteTable table)) asked (deleted_table_step asked.state table) (λ reply. refl) (λ step. refl)
begun asked (call.AddColumn table column kind flags) is_begun h = schema_finishes (Finishes asked (call.AddColumn table column kind flags)) asked (column_step asked.state table column kind flags) (λ reply. refl) (λ step. refl)
begun asked (call.DeleteColumn table column) is_begun h = schema_finishes (Finishes asked (call.DeleteColumn table column)) asked (deleted_column_step asked.state table column) (λ reply. refl) (λ step. refl)
begun asked (call.CreateIndex table index flags key_most segments conditions) is_begun h = schema_finishes (Finishes asked (call.CreateIndex table index flags key_most segments conditions)) asked (index_step asked.state table index flags key_most segments conditions) (λ reply. refl) (λ step. refl)
begun asked (call.DeleteIndex table index) is_begun h = schema_finishes (Finishes asked (call.DeleteIndex table index)) asked (deleted_index_step asked.state table index) (λ reply. refl) (λ step. refl)
begun asked (call.OpenTable cursor table) is_begun h = opens asked cursor.0 (table_named asked.state.tables table) (is_some (cursor_labelled asked.local cursor.0)) (nat_le 16 (length asked.local.cursors)) is_begun refl refl
begun asked (call.CloseTable cursor) is_begun h =
    on_cursor-all (Finishes asked (call.CloseTable cursor)) asked (cursor_labelled asked.local cursor.0) (close_table asked) refl
    (λ c found. rw (labelled cursor.0 asked.local.cursors c found) refl)
begun asked (call.SetCurrentIndex cursor index) is_begun h = cc
begun asked (call.Move cursor way) is_begun h = cc
begun asked (call.MakeKey cursor fresh value) is_begun h = cc
begun asked (call.Seek cursor by) is_begun h = cc
begun asked (call.SetIndexRange cursor upper inclusive) is_begun h = cc
begun asked (call.RemoveIndexRange cursor) is_begun h = cc
begun asked (call.IndexRecordCount cursor most) is_begun h =
    let P = λ (o : Outcome). Finishes asked (call.IndexRecordCount cursor most) o in
    on_cursor-all P asked (cursor_labelled asked.local cursor.0) (λ c. index_record_count asked c most) refl (λ c found. unless-all P asked (current_refusals (rows_seen asked c) c.cursor.place) (λ _. said asked jet.Success (Count (count_from c.cursor (current_entries asked c) (place_key c.cursor.place, place_bookmark c.cursor.place) most))) (λ reply. refl) refl)
begun asked (call.RetrieveKey cursor) is_begun h =
    let P = λ (o : Outcome). Finishes asked (call.RetrieveKey cursor) o in
    on_cursor-all P asked (cursor_labelled asked.local cursor.0) (retrieve_key asked) refl (λ c found. unless-all P asked (current_refusals (rows_seen asked c) c.cursor.place) (λ _. said asked jet.Success (whole (place_key c.cursor.place))) (λ reply. refl) refl)
begun asked (call.GetBookmark cursor) is_begun h =
    let P = λ (o : Outcome). Finishes asked (call.GetBookmark cursor) o in
    on_cursor-all P asked (cursor_labelled asked.local cursor.0) (get_bookmark asked) refl (λ c found. unless-all P asked (current_refusals (rows_seen asked c) c.cursor.place) (λ _. said asked jet.Success (whole (place_bookmark c.cursor.place))) (λ reply. refl) refl)
begun asked (call.GotoBookmark cursor bookmark) is_begun h = cc
begun asked (call.PrepareUpdate cursor prepare.Insert) is_begun h = cc
begun asked (call.PrepareUpdate cursor prepare.InsertCopy) is_begun h =
    let P = λ (o : Outcome). Finishes asked (call.PrepareUpdate cursor prepare.InsertCopy) o in
    on_cursor-all P asked (cursor_labelled asked.local cursor.0) (prepare_copy asked) refl
    (λ c found.
    let copied : PreparedUpdate = record { for = inserting (Some (bookmark_at c)); values = with_sums_at_zero c.schema.columns (record_at asked c) } in
    unless-each P asked
    (prepared_refusals c ++ current asked c)
    (λ _. done (with_prepared asked c (Some copied)) Nothing None)
    (refl, (refl, (refl, tt)))
    (copies asked.local cursor.0 c copied found))
begun asked (call.PrepareUpdate cursor prepare.Replace) is_begun h =
    let P = λ (o : Outcome). Finishes asked (call.PrepareUpdate cursor prepare.Replace) o in
    on_cursor-all P asked (cursor_labelled asked.local cursor.0) (prepare_replace asked) refl
    (λ c found.
    let copied : PreparedUpdate = record { for = replacing (bookmark_at c); values = record_at asked c } in
    unless-each P asked
    (prepared_refusals c ++ transaction_refusals asked ++ current asked c ++ own_refusals asked c ++ conflict_refusals asked (hold_at c) ++ number_refusals asked ++ span_refusals asked (hold_at c))
    (λ _. done (with_prepared asked c (Some copied)) Nothing (step_of_change asked (hold_at c)))
    (refl, (refl, (refl, (refl, (refl, (refl, (refl, (refl, tt))))))))
    (copies asked.local cursor.0 c copied found))
begun asked (call.PrepareUpdate cursor prepare.Cancel) is_begun h = cc
begun asked (call.SetColumn cursor column sequence value) is_begun h = cc
begun asked (call.RetrieveColumn cursor column sequence true most) is_begun h =
    let P = λ (o : Outcome). Finishes asked (call.RetrieveColumn cursor column sequence true most) o in
    on_cursor-all P asked (cursor_labelled asked.local cursor.0) (λ c. retrieve_copy asked c column sequence most) refl
    (λ c found. on_prepared-all P asked c.prepared
    (λ update. on_column asked (column_named c.schema.columns column) (column_shown asked sequence most update.values))
    (λ reply. refl)
    (λ update. on_column-all P asked (column_named c.schema.columns column) (column_shown asked sequence most update.values) (λ reply. refl) (λ found. sym (shows_column asked sequence most update.values found))))
begun asked (call.RetrieveColumn cursor column sequence false most) is_begun h =
    let P = λ (o : Outcome). Finishes asked (call.RetrieveColumn cursor column sequence false most) o in
    on_cursor-all P asked (cursor_labelled asked.local cursor.0) (λ c. retrieve_column asked c column sequence most) refl
    (λ c found. unless-all P asked (current asked c)
    (λ _. on_column asked (column_named c.schema.columns column) (column_shown asked sequence most (record_at asked c)))
    (λ reply. refl)
    (on_column-all P asked (column_named c.schema.columns column) (column_shown asked sequence most (record_at asked c)) (λ reply. refl) (λ found. sym (shows_column asked sequence most (record_at asked c) found))))
begun asked (call.Update cursor) is_begun h =
    let P = λ (o : Outcome). Finishes asked (call.Update cursor) o in
    on_cursor-all P asked (cursor_labelled asked.local cursor.0) (update asked) refl
    (λ c found. on_prepared-all P asked c.prepared (update_with asked c)
    (λ reply. refl)
    (λ update.
    let bookmark = bookmark_for asked c.schema update.for update.values in
    let put = put_of asked c update bookmark in
    unless-all P asked
    ((is_missing_a_value c.schema.columns update.values, jet.NullInvalid)
    ∷ (is_primary_changed c.schema update.for update.values, jet.RecordPrimaryChanged)
    ∷ put_refusals asked.state asked.session c.cursor.table c.schema (rows_seen asked c) (replaced_by update.for) update.values
    ++ number_refusals asked
    ++ span_refusals asked put)
    (λ _. done (with_prepared asked c None) (whole bookmark) (step_of_change asked put))
    (λ reply. refl)
    (after_change asked put asked.local (with_update_at asked.local cursor.0 None) ∙ rw found refl)))
begun asked (call.Delete cursor) is_begun h =
    let P = λ (o : Outcome). Finishes asked (call.Delete cursor) o in
    on_cursor-all P asked (cursor_labelled asked.local cursor.0) (delete asked) refl (λ c found. unless-all P asked
    (current asked c ++ own_refusals asked c ++ conflict_refusals asked (drop_at c) ++ number_refusals asked ++ span_refusals asked (drop_at c))
    (λ _. done asked.local Nothing (step_of_change asked (drop_at c)))
    (λ reply. refl)
    refl)
begun asked (call.GetLock cursor) is_begun h =
    let P = λ (o : Outcome). Finishes asked (call.GetLock cursor) o in
    on_cursor-all P asked (cursor_labelled asked.local cursor.0) (get_lock asked) refl (λ c found. unless-all P asked
    (transaction_refusals asked ++ current asked c ++ conflict_refusals asked (hold_at c) ++ number_refusals asked ++ span_refusals asked (hold_at c))
    (λ _. done asked.local Nothing (step_of_change asked (hold_at c)))
    (λ reply. refl)
    refl)
begun asked (call.EscrowUpdate cursor column amount) is_begun h =
    let P = λ (o : Outcome). Finishes asked (call.EscrowUpdate cursor column amount) o in
    on_cursor-all P asked (cursor_labelled asked.local cursor.0) (λ c. escrow_update asked c column amount) refl
    (λ c found. unless-all P asked (transaction_refusals asked ++ current asked c)
    (λ _. on_column asked (column_named c.schema.columns column) (sum_in asked c amount))
    (λ reply. refl)
    (on_column-all P asked (column_named c.schema.columns column) (sum_in asked c amount)
    (λ reply. refl)
    (λ found.
    let sum = change.Add (record { 0 = c.cursor.table }) (bookmark_at c) found.id amount in
    unless-all P asked
    ((not found.escrow, jet.InvalidColumnType) ∷ own_refusals asked c ++ conflict_refusals asked sum ++ number_refusals asked ++ span_refusals asked sum)
    (λ _. done asked.local (Number (number_of kind.Long (escrow_bytes (record_at asked c) found.id.0))) (step_of_change asked sum))
    (λ reply. refl)
    refl)))
begun asked (call.TempOpen temp unique columns) is_begun h = cc
begun asked (call.TempPut temp values) is_begun h = cc
begun asked (call.TempMove temp way) is_begun h = cc
begun asked (call.TempRead temp column) is_begun h = cc
begun asked (call.TempCount temp) is_begun h = cc
begun asked (call.TempClose temp) is_begun h = cc
begun asked (call.IntersectIndexes temp cursors) is_begun h = fills asked temp cursors (is_some (temp_labelled asked.local.temps temp)) (nat_le 4 (length asked.local.temps)) is_begun refl refl

not_begun : (asked : CallInputs) (request : Request) → Finishes asked request (answer_not_begun asked request)
not_begun asked call.BeginSession = begins asked
not_begun asked _ = refl

pub finishes : (asked : CallInputs) (request : Request) → is_finished request ≡ true → finished asked.local request (decided_by asked request) ≡ (answer asked request).local
unfolding answer
finishes asked request h =
    elim asked.local.begun as (λ b. asked.local.begun ≡ b → Finishes asked request (elim b [ true ↦ answer_begun asked request | false ↦ answer_not_begun asked request ])) [
      | true ↦ λ e. begun asked request e h
      | false ↦ λ e. not_begun asked request
    ] refl
