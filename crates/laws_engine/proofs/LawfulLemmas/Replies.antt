-- What holds of every answer without a step.
use Rattle.std.proofs.Common.{◌≡◌, ℕ, Bool, true, false, not, ◌&&◌, ◌||◌, cond, List, [], ◌∷◌, ◌++◌, length, Option, Some, None, Result, Ok, Err, refl}
use Rattle.std.specs.Prelude.{◌==◌, ◌-◌, is_none, is_some, nat_le, nat_lt, find, slice_get, bytes_eq}
use Rattle.common_lemmas.proofs.Booleans.{impossible}
use Rattle.jet_base.specs.ColumnType.{is_number_type}
use Rattle.jet_base.specs.Given.{given_fits}
use Rattle.jet_base.specs.declared.ids.CursorId.{CursorId}
use Rattle.jet_base.specs.declared.replies.Jet.{Jet}
use Rattle.jet_base.specs.declared.replies.Jet.TheVariants as jet
use Rattle.jet_base.specs.declared.words.Prepare.{Prepare}
use Rattle.jet_base.specs.declared.words.Prepare.TheVariants as prepare
use Rattle.column_set.specs.declared.columns.Column.{Column}
use Rattle.column_set.specs.RecordValues.{RecordFields, column_named, values_of}
use Rattle.record_edit.specs.SetColumn.{set_refusals, size_refusals}
use Rattle.cursor_nav.specs.Places.{Pair, least_entry_of}
use Rattle.cursor_nav.specs.MakingKeys.{begun_key, segment_kind}
use Rattle.jet_base.specs.declared.words.Given.{Given}
use Rattle.index_derive.specs.declared.rules.IndexRule.{IndexRule}
use Rattle.index_derive.specs.declared.rules.Segment.{Segment}
use Rattle.column_set.specs.Refusals.{Refusals, first_refusal}
use Rattle.database_state.specs.Table.{row_at}
use Rattle.index_derive.specs.Schemas.{rule_with_id}
use Rattle.session_local.specs.declared.request.Request.{Request}
use Rattle.session_local.specs.declared.request.Request.TheVariants as call
use Rattle.session_local.specs.Answer.{Answered, Nothing}
use Rattle.session_local.specs.Calls.{answer, answer_begun, answer_not_begun, prepare_update}
use Rattle.session_local.specs.CursorCalls.{current_entries, gone_to, goto_bookmark, index_chosen_by, index_record_count, key_made_in, make_key, move_cursor, seek_key, remove_index_range, retrieve_key, get_bookmark, segment_made, set_current_index, set_index_range}
use Rattle.session_local.specs.IntersectCalls.{are_of_one_table, current_cursors, filled_by}
use Rattle.session_local.specs.Local.{LocalState, OpenCursor, PreparedUpdate, cursor_labelled, temp_labelled}
use Rattle.session_local.specs.Outcome.{CallInputs, Outcome, at_cursor, current_refusals, on_cursor, refused, rows_seen, unless, unless_refused}
use Rattle.session_local.specs.RecordCalls.{column_shown, current, on_column, on_prepared, prepared_refusals, record_at, retrieve_column, retrieve_copy, set_column, set_column_in, value_shown}

-- it holds of every answer without a step
abbrev pub Quiet : (Outcome → Type 0) → Type 0
Quiet Q = (answered : Answered) (local : LocalState) → Q (record { answered = answered; local = local; step = None })

pub refused_each : (Q : Outcome → Type 0) → Quiet Q → (asked : CallInputs) (reply : Jet) → Q (refused asked reply)
refused_each Q q asked reply = q (record { jet = reply; shown = Nothing }) asked.local

pub passed_each : (Q : Outcome → Type 0) → Quiet Q → (asked : CallInputs) (refusal : Option Jet) (next : Unit {0} → Outcome) → Q (next tt) → Q (unless_refused asked refusal next)
passed_each Q q asked None next h = h
passed_each Q q asked (Some reply) next h = refused_each Q q asked reply

pub unless_each : (Q : Outcome → Type 0) → Quiet Q → (asked : CallInputs) (refusals : Refusals) (next : Unit {0} → Outcome) → Q (next tt) → Q (unless asked refusals next)
unless_each Q q asked refusals next h = passed_each Q q asked (first_refusal refusals) next h

pub cursor_each : (Q : Outcome → Type 0) → Quiet Q → (asked : CallInputs) (label : ℕ) (next : OpenCursor → Outcome) → ((c : OpenCursor) → cursor_labelled asked.local label ≡ Some c → Q (next c)) → Q (at_cursor asked label next)
cursor_each Q q asked label next f = elim (cursor_labelled asked.local label) as (λ o. cursor_labelled asked.local label ≡ o → Q (on_cursor asked o next)) [
  | Some c ↦ λ e. f c e
  | None ↦ λ e. refused_each Q q asked _
] refl

pub begun_each : (Q : Outcome → Type 0) (asked : CallInputs) (request : Request) → (asked.local.begun ≡ true → Q (answer_begun asked request)) → (asked.local.begun ≡ false → Q (answer_not_begun asked request)) → Q (answer asked request)
unfolding answer
begun_each Q asked request f g =
    elim (asked.local.begun) as (λ b. asked.local.begun ≡ b → Q (elim b [ true ↦ answer_begun asked request | false ↦ answer_not_begun asked request ])) [ true ↦ f | false ↦ g ] refl

pub prepared_each : (Q : Outcome → Type 0) → Quiet Q → (asked : CallInputs) (o : Option PreparedUpdate) (next : PreparedUpdate → Outcome) → ((p : PreparedUpdate) → Q (next p)) → Q (on_prepared asked o next)
prepared_each Q q asked None next f = refused_each Q q asked _
prepared_each Q q asked (Some p) next f = f p

pub column_each : (Q : Outcome → Type 0) → Quiet Q → (asked : CallInputs) (o : Option Column) (next : Column → Outcome) → ((c : Column) → Q (next c)) → Q (on_column asked o next)
column_each Q q asked None next f = refused_each Q q asked _
column_each Q q asked (Some c) next f = f c

pub either : (Q : Outcome → Type 0) (b : Bool) (x y : Outcome) → Q x → Q y → Q (cond b x y)
either Q true x y h k = h
either Q false x y h k = k

-- ---- calls without a step

value_each : (Q : Outcome → Type 0) → Quiet Q → (asked : CallInputs) (column : Column) (most : ℕ) (o : Option (List ℕ)) → Q (value_shown asked column most o)
value_each Q q asked column most None = refused_each Q q asked _
value_each Q q asked column most (Some value) = either Q (is_number_type column.kind) _ _ (q _ _) (q _ _)

shown_each : (Q : Outcome → Type 0) → Quiet Q → (asked : CallInputs) (sequence most : ℕ) (fields : RecordFields) (column : Column) → Q (column_shown asked sequence most fields column)
shown_each Q q asked sequence most fields column = either Q (sequence == 0) _ _ (q _ _) (value_each Q q asked column most (slice_get (values_of fields column.id.0) (sequence - 1)))

chosen_each : (Q : Outcome → Type 0) → Quiet Q → (asked : CallInputs) (c : OpenCursor) (index : Option (List ℕ)) → Q (set_current_index asked c index)
chosen_each Q q asked c None = q _ _
chosen_each Q q asked c (Some name) = by (find (λ r. bytes_eq r.name name) c.schema.indexes)
  where
    by : (o : Option IndexRule) → Q (index_chosen_by asked c o)
    by None = refused_each Q q asked _
    by (Some rule) = q _ _

key_each : (Q : Outcome → Type 0) → Quiet Q → (asked : CallInputs) (c : OpenCursor) (fresh : Bool) (value : Given) (o : Option IndexRule) → Q (key_made_in asked c fresh value o)
key_each Q q asked c fresh value None = refused_each Q q asked _
key_each Q q asked c fresh value (Some rule) = unless_each Q q asked ((not fresh && is_none c.cursor.key, jet.KeyNotMade) ∷ []) _ (by (slice_get rule.segments (begun_key fresh c.cursor.key).segments))
  where
    by : (o : Option Segment) → Q (segment_made asked c rule (begun_key fresh c.cursor.key) value o)
    by None = refused_each Q q asked _
    by (Some segment) = unless_each Q q asked ((not (given_fits (segment_kind c.schema.columns segment) value), jet.InvalidBufferSize) ∷ []) _ (q _ _)

gone_each : (Q : Outcome → Type 0) → Quiet Q → (asked : CallInputs) (c : OpenCursor) (o : Option Pair) → Q (gone_to asked c o)
gone_each Q q asked c None = refused_each Q q asked _
gone_each Q q asked c (Some entry) = q _ _

abbrev pub prepares_alone : Prepare → Bool
prepares_alone prepare.Replace = false
prepares_alone _ = true

prepare_each : (Q : Outcome → Type 0) → Quiet Q → (asked : CallInputs) (c : OpenCursor) (how : Prepare) → prepares_alone how ≡ true → Q (prepare_update asked c how)
prepare_each Q q asked c prepare.Insert e = unless_each Q q asked (prepared_refusals c) _ (q _ _)
prepare_each Q q asked c prepare.InsertCopy e = unless_each Q q asked (prepared_refusals c ++ current asked c) _ (q _ _)
prepare_each Q q asked c prepare.Replace e = impossible e
prepare_each Q q asked c prepare.Cancel e = unless_each Q q asked ((is_none c.prepared, jet.UpdateNotPrepared) ∷ []) _ (q _ _)

filled_each : (Q : Outcome → Type 0) → Quiet Q → (asked : CallInputs) (temp : CursorId) (found : Result (List OpenCursor) Jet) → Q (filled_by asked temp found)
filled_each Q q asked temp (Err reply) = refused_each Q q asked reply
filled_each Q q asked temp (Ok cursors) = unless_each Q q asked ((not (are_of_one_table cursors), jet.InvalidParameter) ∷ []) _ (q _ _)

abbrev pub takes_no_step : Request → Bool
takes_no_step (call.SetCurrentIndex cursor index) = true
takes_no_step (call.Move cursor way) = true
takes_no_step (call.MakeKey cursor fresh value) = true
takes_no_step (call.Seek cursor by) = true
takes_no_step (call.SetIndexRange cursor upper inclusive) = true
takes_no_step (call.RemoveIndexRange cursor) = true
takes_no_step (call.IndexRecordCount cursor most) = true
takes_no_step (call.RetrieveKey cursor) = true
takes_no_step (call.GetBookmark cursor) = true
takes_no_step (call.GotoBookmark cursor bookmark) = true
takes_no_step (call.PrepareUpdate cursor how) = prepares_alone how
takes_no_step (call.SetColumn cursor column sequence value) = true
takes_no_step (call.RetrieveColumn cursor column sequence copy most) = true
takes_no_step (call.TempOpen temp unique columns) = true
takes_no_step (call.TempPut temp values) = true
takes_no_step (call.TempMove temp way) = true
takes_no_step (call.TempRead temp column) = true
takes_no_step (call.TempCount temp) = true
takes_no_step (call.TempClose temp) = true
takes_no_step (call.IntersectIndexes temp cursors) = true
takes_no_step _ = false

pub without_step : (Q : Outcome → Type 0) → Quiet Q → (asked : CallInputs) (request : Request) → takes_no_step request ≡ true → Q (answer asked request)
without_step Q q asked (call.SetCurrentIndex cursor index) e = begun_each Q asked _ (λ b. cursor_each Q q asked cursor.0 (λ c. set_current_index asked c index) (λ c f. chosen_each Q q asked c index)) (λ b. refused_each Q q asked _)
without_step Q q asked (call.Move cursor way) e = begun_each Q asked _ (λ b. cursor_each Q q asked cursor.0 (λ c. move_cursor asked c way) (λ c f. q _ _)) (λ b. refused_each Q q asked _)
without_step Q q asked (call.MakeKey cursor fresh value) e = begun_each Q asked _ (λ b. cursor_each Q q asked cursor.0 (λ c. make_key asked c fresh value) (λ c f. key_each Q q asked c fresh value (rule_with_id c.schema c.cursor.index))) (λ b. refused_each Q q asked _)
without_step Q q asked (call.Seek cursor by) e = begun_each Q asked _ (λ b. cursor_each Q q asked cursor.0 (λ c. seek_key asked c by) (λ c f. q _ _)) (λ b. refused_each Q q asked _)
without_step Q q asked (call.SetIndexRange cursor upper inclusive) e = begun_each Q asked _ (λ b. cursor_each Q q asked cursor.0 (λ c. set_index_range asked c upper inclusive) (λ c f. q _ _)) (λ b. refused_each Q q asked _)
without_step Q q asked (call.RemoveIndexRange cursor) e = begun_each Q asked _ (λ b. cursor_each Q q asked cursor.0 (remove_index_range asked) (λ c f. q _ _)) (λ b. refused_each Q q asked _)
without_step Q q asked (call.IndexRecordCount cursor most) e = begun_each Q asked _ (λ b. cursor_each Q q asked cursor.0 (λ c. index_record_count asked c most) (λ c f. unless_each Q q asked (current_refusals (rows_seen asked c) c.cursor.place) _ (q _ _))) (λ b. refused_each Q q asked _)
without_step Q q asked (call.RetrieveKey cursor) e = begun_each Q asked _ (λ b. cursor_each Q q asked cursor.0 (retrieve_key asked) (λ c f. unless_each Q q asked (current_refusals (rows_seen asked c) c.cursor.place) _ (q _ _))) (λ b. refused_each Q q asked _)
without_step Q q asked (call.GetBookmark cursor) e = begun_each Q asked _ (λ b. cursor_each Q q asked cursor.0 (get_bookmark asked) (λ c f. unless_each Q q asked (current_refusals (rows_seen asked c) c.cursor.place) _ (q _ _))) (λ b. refused_each Q q asked _)
without_step Q q asked (call.GotoBookmark cursor bookmark) e =
    begun_each Q asked _ (λ b. cursor_each Q q asked cursor.0 (λ c. goto_bookmark asked c bookmark) (λ c f. unless_each Q q asked (((length bookmark == 0) || nat_lt 255 (length bookmark), jet.InvalidBookmark) ∷ (is_none (row_at (rows_seen asked c) bookmark), jet.RecordDeleted) ∷ []) _ (gone_each Q q asked c (least_entry_of bookmark (current_entries asked c))))) (λ b. refused_each Q q asked _)
without_step Q q asked (call.PrepareUpdate cursor how) e = begun_each Q asked _ (λ b. cursor_each Q q asked cursor.0 (λ c. prepare_update asked c how) (λ c f. prepare_each Q q asked c how e)) (λ b. refused_each Q q asked _)
without_step Q q asked (call.SetColumn cursor column sequence value) e =
    begun_each Q asked _ (λ b. cursor_each Q q asked cursor.0 (λ c. set_column asked c column sequence value) (λ c f.
    prepared_each Q q asked c.prepared _ (λ p. column_each Q q asked (column_named c.schema.columns column) (set_column_in asked c p sequence value) (λ k. unless_each Q q asked (set_refusals k sequence value p.values) _ (unless_each Q q asked (size_refusals k sequence value p.values) _ (q _ _)))))) (λ b. refused_each Q q asked _)
without_step Q q asked (call.RetrieveColumn cursor column sequence copy most) e =
    begun_each Q asked _ (λ b. cursor_each Q q asked cursor.0 (λ c. elim copy [ true ↦ retrieve_copy asked c column sequence most | false ↦ retrieve_column asked c column sequence most ]) (λ c f.
    elim copy as (λ w. Q (elim w [ true ↦ retrieve_copy asked c column sequence most | false ↦ retrieve_column asked c column sequence most ])) [
      | true ↦ prepared_each Q q asked c.prepared _ (λ p. column_each Q q asked (column_named c.schema.columns column) _ (λ k. shown_each Q q asked sequence most p.values k))
      | false ↦ unless_each Q q asked (current asked c) _ (column_each Q q asked (column_named c.schema.columns column) _ (λ k. shown_each Q q asked sequence most (record_at asked c) k))
    ])) (λ b. refused_each Q q asked _)
without_step Q q asked (call.TempOpen temp unique columns) e = begun_each Q asked _ (λ b. q _ _) (λ b. refused_each Q q asked _)
without_step Q q asked (call.TempPut temp values) e = begun_each Q asked _ (λ b. q _ _) (λ b. refused_each Q q asked _)
without_step Q q asked (call.TempMove temp way) e = begun_each Q asked _ (λ b. q _ _) (λ b. refused_each Q q asked _)
without_step Q q asked (call.TempRead temp column) e = begun_each Q asked _ (λ b. q _ _) (λ b. refused_each Q q asked _)
without_step Q q asked (call.TempCount temp) e = begun_each Q asked _ (λ b. q _ _) (λ b. refused_each Q q asked _)
without_step Q q asked (call.TempClose temp) e = begun_each Q asked _ (λ b. q _ _) (λ b. refused_each Q q asked _)
without_step Q q asked (call.IntersectIndexes temp cursors) e =
    begun_each Q asked _ (λ b. unless_each Q q asked ((is_some (temp_labelled asked.local.temps temp), jet.InvalidTableId) ∷ (nat_le 4 (length asked.local.temps), jet.OutOfCursors) ∷ []) _ (filled_each Q q asked temp (current_cursors asked cursors))) (λ b. refused_each Q q asked _)
without_step Q q asked _ e = impossible e
