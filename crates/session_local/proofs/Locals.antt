-- The calls that a session answers by itself make no step, and their answers are those of local calls.
use Rattle.std.proofs.Common.{◌≡◌, ℕ, ◌==◌, Bool, true, false, not, List, [], ◌∷◌, Option, Some, None, refl, if◌then◌else◌, is_none, nat_lt, length, pos, take, slice_get, ◌-◌, ◌&&◌}
use Rattle.jet_base.specs.declared.replies.Jet.TheVariants as jet
use Rattle.jet_base.specs.declared.words.Given.{Given}
use Rattle.jet_base.specs.declared.words.Prepare.TheVariants as prepare
use Rattle.jet_base.specs.ColumnType.{is_number_type, number_of}
use Rattle.jet_base.specs.Given.{given_fits}
use Rattle.column_set.specs.declared.columns.Column.{Column}
use Rattle.column_set.specs.RecordValues.{RecordFields, values_of, column_named, record_size}
use Rattle.index_derive.specs.declared.rules.IndexRule.{IndexRule}
use Rattle.index_derive.specs.declared.rules.Segment.{Segment}
use Rattle.cursor_nav.specs.Navigation.{MadeKey}
use Rattle.cursor_nav.specs.MakingKeys.{begun_key, segment_kind, with_segment}
use Rattle.record_edit.specs.SetColumn.{set_refusals, fields_after}
use Rattle.index_derive.specs.Schemas.{rule_with_id}
use Rattle.session_local.specs.declared.request.Request.{Request}
use Rattle.session_local.specs.declared.request.Request.TheVariants as call
use Rattle.session_local.specs.Answer.{Nothing, Number, Bytes}
use Rattle.session_local.specs.Local.{OpenCursor, PreparedUpdate, inserting, cursor_labelled, with_cursor}
use Rattle.session_local.specs.Outcome.{CallInputs, Outcome, said, refused, done, unless, on_cursor}
use Rattle.session_local.specs.Calls.{answer, answer_begun, answer_not_begun, is_local}
use Rattle.session_local.specs.CursorCalls.{close_table, set_current_index, move_cursor, key_made_in, segment_made, make_key, seek_key, set_index_range, remove_index_range, index_record_count, retrieve_key, get_bookmark, goto_bookmark}
use Rattle.session_local.specs.RecordCalls.{with_prepared, prepared_refusals, with_sums_at_zero, prepare_insert, cancel_update, on_column, set_column_in, set_column, prepare_copy, prepare_replace, value_shown, column_shown, retrieve_column, retrieve_copy, update, delete, get_lock, escrow_update}
use Rattle.session_local.specs.LocalCalls.{is_begin, is_answered_begun, is_answered_locally}
use Rattle.session_local.proofs.Outcomes.{unless-all, on_cursor-all, on_prepared-all, on_column-all}

-- no step is made, and the answer is that of a local call
abbrev pub IsLocalOutcome : Request → Outcome → Type 0
IsLocalOutcome request outcome = (outcome.step ≡ None) × (is_local request outcome.answered.jet ≡ true)

-- a cursor that the session lacks
lacking : (request : Request) (asked : CallInputs) (found : Option OpenCursor) (next : OpenCursor → Outcome) → is_none found ≡ true → is_local request jet.InvalidTableId ≡ true → IsLocalOutcome request (on_cursor asked found next)
lacking request asked None next h local = (refl, local)
lacking request asked (Some c) next h local = cc

segment_step : (P : Outcome → Type 0) (asked : CallInputs) (c : OpenCursor) (rule : IndexRule) (key : MadeKey) (value : Given) (segment : Option Segment) → ((o : Outcome) → o.step ≡ None → P o) → P (segment_made asked c rule key value segment)
segment_step P asked c rule key value None local = local _ refl
segment_step P asked c rule key value (Some segment) local =
    let type = segment_kind c.schema.columns segment in
    unless-all P asked ((not (given_fits type value), jet.InvalidBufferSize) ∷ [])
    (λ _. done
    (with_cursor asked.local (record c { cursor = record c.cursor { key = Some (with_segment rule type segment value key) } }))
    Nothing None)
    (λ reply. local _ refl)
    (local _ refl)

key_step : (P : Outcome → Type 0) (asked : CallInputs) (c : OpenCursor) (fresh : Bool) (value : Given) (rule : Option IndexRule) → ((o : Outcome) → o.step ≡ None → P o) → P (key_made_in asked c fresh value rule)
key_step P asked c fresh value None local = local _ refl
key_step P asked c fresh value (Some rule) local =
    unless-all P asked ((not fresh && is_none c.cursor.key, jet.KeyNotMade) ∷ [])
    (λ _. let key = begun_key fresh c.cursor.key in segment_made asked c rule key value (slice_get rule.segments key.segments))
    (λ reply. local _ refl)
    (segment_step P asked c rule (begun_key fresh c.cursor.key) value (slice_get rule.segments (begun_key fresh c.cursor.key).segments) local)

value_step : (P : Outcome → Type 0) (asked : CallInputs) (column : Column) (most : ℕ) (value : Option (List ℕ)) → ((o : Outcome) → o.step ≡ None → P o) → P (value_shown asked column most value)
value_step P asked column most None local = local _ refl
value_step P asked column most (Some value) local =
    elim (is_number_type column.kind) as (λ b. P (if b then said asked jet.Success (Number (number_of column.kind value)) else said asked (if nat_lt most (length value) then jet.BufferTruncated else jet.Success) (Bytes (take most value) (length value)))) [
      | true ↦ local _ refl
      | false ↦ local _ refl
    ]

column_step : (P : Outcome → Type 0) (asked : CallInputs) (sequence most : ℕ) (fields : RecordFields) (column : Column) → ((o : Outcome) → o.step ≡ None → P o) → P (column_shown asked sequence most fields column)
column_step P asked sequence most fields column local =
    let values = values_of fields column.id.0 in
    elim (sequence == 0) as (λ b. P (if b then said asked jet.Success (Number (pos (length values))) else value_shown asked column most (slice_get values (sequence - 1)))) [
      | true ↦ local _ refl
      | false ↦ value_step P asked column most (slice_get values (sequence - 1)) local
    ]

set_step : (P : Outcome → Type 0) (asked : CallInputs) (c : OpenCursor) (update : PreparedUpdate) (sequence : ℕ) (value : Given) (column : Column) → ((o : Outcome) → o.step ≡ None → P o) → P (set_column_in asked c update sequence value column)
set_step P asked c update sequence value column local =
    let fields = fields_after column sequence value update.values in
    unless-all P asked (set_refusals column sequence value update.values)
    (λ _. unless asked ((nat_lt 1700 (record_size fields), jet.RecordTooBig) ∷ []) (λ _. done (with_prepared asked c (Some (record update { values = fields }))) Nothing None))
    (λ reply. local _ refl)
    (unless-all P asked ((nat_lt 1700 (record_size fields), jet.RecordTooBig) ∷ [])
    (λ _. done (with_prepared asked c (Some (record update { values = fields }))) Nothing None)
    (λ reply. local _ refl)
    (local _ refl))

at_cursor_local : (request : Request) (asked : CallInputs) (label : ℕ) (next : OpenCursor → Outcome) → ((o : Outcome) → o.step ≡ None → IsLocalOutcome request o) → ((c : OpenCursor) → IsLocalOutcome request (next c)) → IsLocalOutcome request (on_cursor asked (cursor_labelled asked.local label) next)
at_cursor_local request asked label next local rest =
    on_cursor-all (IsLocalOutcome request) asked (cursor_labelled asked.local label) next (local (refused asked jet.InvalidTableId) refl) (λ c found. rest c)

begun : (asked : CallInputs) (request : Request) → asked.local.begun ≡ true → is_answered_begun asked.local request ≡ true → IsLocalOutcome request (answer_begun asked request)
begun asked call.BeginSession is_begun h = rw is_begun (refl, refl)
begun asked call.EndSession is_begun h = cc
begun asked call.BeginTransaction is_begun h = cc
begun asked (call.CommitTransaction lazy) is_begun h = cc
begun asked (call.Rollback all) is_begun h = cc
begun asked (call.CreateTable table) is_begun h = cc
begun asked (call.DeleteTable table) is_begun h = cc
begun asked (call.AddColumn table column kind flags) is_begun h = cc
begun asked (call.DeleteColumn table column) is_begun h = cc
begun asked (call.CreateIndex table index flags key_most segments conditions) is_begun h = cc
begun asked (call.DeleteIndex table index) is_begun h = cc
begun asked (call.OpenTable cursor table) is_begun h = rw h (refl, refl)
begun asked (call.MakeKey cursor fresh value) is_begun h =
    let P = IsLocalOutcome (call.MakeKey cursor fresh value) in
    at_cursor_local (call.MakeKey cursor fresh value) asked cursor.0 (λ c. make_key asked c fresh value) (λ o e. (e, refl))
    (λ c. key_step P asked c fresh value (rule_with_id c.schema c.cursor.index) (λ o e. (e, refl)))
begun asked (call.RemoveIndexRange cursor) is_begun h =
    at_cursor_local (call.RemoveIndexRange cursor) asked cursor.0 (remove_index_range asked) (λ o e. (e, refl)) (λ c. (refl, refl))
begun asked (call.PrepareUpdate cursor prepare.Insert) is_begun h =
    let P = IsLocalOutcome (call.PrepareUpdate cursor prepare.Insert) in
    at_cursor_local (call.PrepareUpdate cursor prepare.Insert) asked cursor.0 (prepare_insert asked) (λ o e. (e, refl))
    (λ c. unless-all P asked (prepared_refusals c)
    (λ _. done (with_prepared asked c (Some (record { for = inserting None; values = with_sums_at_zero c.schema.columns [] }))) Nothing None)
    (λ reply. (refl, refl))
    (refl, refl))
begun asked (call.PrepareUpdate cursor prepare.Cancel) is_begun h =
    let P = IsLocalOutcome (call.PrepareUpdate cursor prepare.Cancel) in
    at_cursor_local (call.PrepareUpdate cursor prepare.Cancel) asked cursor.0 (cancel_update asked) (λ o e. (e, refl))
    (λ c. unless-all P asked ((is_none c.prepared, jet.UpdateNotPrepared) ∷ [])
    (λ _. done (with_prepared asked c None) Nothing None)
    (λ reply. (refl, refl))
    (refl, refl))
begun asked (call.SetColumn cursor column sequence value) is_begun h =
    let P = IsLocalOutcome (call.SetColumn cursor column sequence value) in
    at_cursor_local (call.SetColumn cursor column sequence value) asked cursor.0 (λ c. set_column asked c column sequence value) (λ o e. (e, refl))
    (λ c. on_prepared-all P asked c.prepared
    (λ update. on_column asked (column_named c.schema.columns column) (set_column_in asked c update sequence value))
    (λ reply. (refl, refl))
    (λ update. on_column-all P asked (column_named c.schema.columns column) (set_column_in asked c update sequence value)
    (λ reply. (refl, refl))
    (λ found. set_step P asked c update sequence value found (λ o e. (e, refl)))))
begun asked (call.RetrieveColumn cursor column sequence true most) is_begun h =
    let P = IsLocalOutcome (call.RetrieveColumn cursor column sequence true most) in
    at_cursor_local (call.RetrieveColumn cursor column sequence true most) asked cursor.0 (λ c. retrieve_copy asked c column sequence most) (λ o e. (e, refl))
    (λ c. on_prepared-all P asked c.prepared
    (λ update. on_column asked (column_named c.schema.columns column) (column_shown asked sequence most update.values))
    (λ reply. (refl, refl))
    (λ update. on_column-all P asked (column_named c.schema.columns column) (column_shown asked sequence most update.values)
    (λ reply. (refl, refl))
    (λ found. column_step P asked sequence most update.values found (λ o e. (e, refl)))))
begun asked (call.TempOpen temp unique columns) is_begun h = (refl, refl)
begun asked (call.TempPut temp values) is_begun h = (refl, refl)
begun asked (call.TempMove temp way) is_begun h = (refl, refl)
begun asked (call.TempRead temp column) is_begun h = (refl, refl)
begun asked (call.TempCount temp) is_begun h = (refl, refl)
begun asked (call.TempClose temp) is_begun h = (refl, refl)
begun asked (call.IntersectIndexes temp cursors) is_begun h = rw h (refl, refl)
begun asked (call.CloseTable cursor) is_begun h = lacking (call.CloseTable cursor) asked (cursor_labelled asked.local cursor.0) (close_table asked) h refl
begun asked (call.SetCurrentIndex cursor index) is_begun h = lacking (call.SetCurrentIndex cursor index) asked (cursor_labelled asked.local cursor.0) (λ c. set_current_index asked c index) h refl
begun asked (call.Move cursor to) is_begun h = lacking (call.Move cursor to) asked (cursor_labelled asked.local cursor.0) (λ c. move_cursor asked c to) h refl
begun asked (call.Seek cursor by) is_begun h = lacking (call.Seek cursor by) asked (cursor_labelled asked.local cursor.0) (λ c. seek_key asked c by) h refl
begun asked (call.SetIndexRange cursor upper inclusive) is_begun h = lacking (call.SetIndexRange cursor upper inclusive) asked (cursor_labelled asked.local cursor.0) (λ c. set_index_range asked c upper inclusive) h refl
begun asked (call.IndexRecordCount cursor most) is_begun h = lacking (call.IndexRecordCount cursor most) asked (cursor_labelled asked.local cursor.0) (λ c. index_record_count asked c most) h refl
begun asked (call.RetrieveKey cursor) is_begun h = lacking (call.RetrieveKey cursor) asked (cursor_labelled asked.local cursor.0) (retrieve_key asked) h refl
begun asked (call.GetBookmark cursor) is_begun h = lacking (call.GetBookmark cursor) asked (cursor_labelled asked.local cursor.0) (get_bookmark asked) h refl
begun asked (call.GotoBookmark cursor bookmark) is_begun h = lacking (call.GotoBookmark cursor bookmark) asked (cursor_labelled asked.local cursor.0) (λ c. goto_bookmark asked c bookmark) h refl
begun asked (call.PrepareUpdate cursor prepare.InsertCopy) is_begun h = lacking (call.PrepareUpdate cursor prepare.InsertCopy) asked (cursor_labelled asked.local cursor.0) (prepare_copy asked) h refl
begun asked (call.PrepareUpdate cursor prepare.Replace) is_begun h = lacking (call.PrepareUpdate cursor prepare.Replace) asked (cursor_labelled asked.local cursor.0) (prepare_replace asked) h refl
begun asked (call.RetrieveColumn cursor column sequence false most) is_begun h = lacking (call.RetrieveColumn cursor column sequence false most) asked (cursor_labelled asked.local cursor.0) (λ c. retrieve_column asked c column sequence most) h refl
begun asked (call.Update cursor) is_begun h = lacking (call.Update cursor) asked (cursor_labelled asked.local cursor.0) (update asked) h refl
begun asked (call.Delete cursor) is_begun h = lacking (call.Delete cursor) asked (cursor_labelled asked.local cursor.0) (delete asked) h refl
begun asked (call.GetLock cursor) is_begun h = lacking (call.GetLock cursor) asked (cursor_labelled asked.local cursor.0) (get_lock asked) h refl
begun asked (call.EscrowUpdate cursor column amount) is_begun h = lacking (call.EscrowUpdate cursor column amount) asked (cursor_labelled asked.local cursor.0) (λ c. escrow_update asked c column amount) h refl

not_begun : (asked : CallInputs) (request : Request) → not (is_begin request) ≡ true → IsLocalOutcome request (answer_not_begun asked request)
not_begun asked call.BeginSession h = cc
not_begun asked (call.RetrieveColumn cursor column sequence true most) h = (refl, refl)
not_begun asked (call.RetrieveColumn cursor column sequence false most) h = (refl, refl)
not_begun asked (call.PrepareUpdate cursor prepare.Insert) h = (refl, refl)
not_begun asked (call.PrepareUpdate cursor prepare.InsertCopy) h = (refl, refl)
not_begun asked (call.PrepareUpdate cursor prepare.Replace) h = (refl, refl)
not_begun asked (call.PrepareUpdate cursor prepare.Cancel) h = (refl, refl)
not_begun asked _ h = (refl, refl)

pub locally : (asked : CallInputs) (request : Request) → is_answered_locally asked.local request ≡ true → IsLocalOutcome request (answer asked request)
unfolding answer
locally asked request h =
    elim asked.local.begun as (λ b. asked.local.begun ≡ b → elim b [ true ↦ is_answered_begun asked.local request | false ↦ not (is_begin request) ] ≡ true → IsLocalOutcome request (elim b [ true ↦ answer_begun asked request | false ↦ answer_not_begun asked request ])) [
      | true ↦ λ e k. begun asked request e k
      | false ↦ λ e k. not_begun asked request k
    ] refl h
