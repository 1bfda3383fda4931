-- What decides RetrieveColumn.
use Rattle.std.proofs.Common.{◌≡◌, ℕ, Bool, true, false, cond, List, [], ◌∷◌, map, Ok, Err, Option, Some, None, unwrap_or, slice_get, refl, sym, ap, ◌∙◌}
use Rattle.std.specs.Prelude.{ℤ, ◌==◌, ◌-◌, ◌||◌, bytes_eq, option_map, is_none, not}
use Rattle.std.specs.List.{list_all}
use Rattle.jet_base.specs.declared.ids.CursorId.{CursorId}
use Rattle.jet_base.specs.declared.replies.Jet.{Jet}
use Rattle.jet_base.specs.declared.replies.Jet.TheVariants as jet
use Rattle.jet_base.specs.declared.words.ColType.{ColType}
use Rattle.jet_base.specs.declared.words.ColType.TheVariants as kind
use Rattle.jet_base.specs.declared.words.ColType.TheVariants.{Long}
use Rattle.jet_base.specs.ColumnType.{is_number_type}
use Rattle.database_state.specs.SchemaChanges.{is_type_long}
use Rattle.column_set.specs.declared.columns.Column.{Column}
use Rattle.column_set.specs.RecordValues.{RecordFields, column_named, values_of}
use Rattle.cursor_nav.specs.Places.{is_on, place_bookmark}
use Rattle.column_set.specs.Refusals.{first_refusal}
use Rattle.database_state.specs.Table.{row_at}
use Rattle.database_state.specs.State.{DatabaseState}
use Rattle.session_local.specs.declared.decision.Decision.{Decision}
use Rattle.session_local.specs.declared.request.Request.TheVariants as call
use Rattle.session_local.specs.Answer.{answered_by}
use Rattle.session_local.specs.Local.{LocalState, OpenCursor, cursor_labelled}
use Rattle.session_local.specs.LocalCalls.{is_answered_locally}
use Rattle.session_local.specs.Outcome.{CallInputs, Outcome, refused, unless_refused, rows_seen}
use Rattle.session_local.specs.RecordCalls.{column_shown, on_column, retrieve_column, value_shown}
use Rattle.session_local.specs.SessionSide.{SessionSide, are_distinct}
use Rattle.session_local.specs.WellFormed.{IsWellFormed, is_well_formed_cursor, is_well_formed_schema, is_long_if_sum, is_well_formed_update, number_of_column}
use Rattle.session_local.specs.Calls.{answer}
use Rattle.laws_engine.specs.InStep.{IsInStep}
use Rattle.laws_engine.specs.EngineState.{EngineState}
use Rattle.laws_engine.specs.HoldsState.{HoldsState, inputs_of}
use Rattle.engine_parts.specs.Deciding.{Decides, HoldsSession}
use Rattle.version_cleanup.specs.Cleaning.{reader_in}
use Rattle.laws_engine.specs.HeldSums.{unseen_sums}
use Rattle.laws_engine.specs.ViewedRecords.{without_sums}
use Rattle.engine_parts.specs.HeldLaws.{SeesRecords, SeesRows}
use Rattle.engine_parts.specs.Reading.{IsRowAt, fields_at, record_for, shown_for}
use Rattle.engine_parts.specs.Retrieving.{AreReadable, IsColumnOf, IsRecordAt, place_refusals}
use Rattle.engine_parts.proofs.Views.{is_none-map}
use Rattle.common_lemmas.proofs.Found.{all_found}
use Rattle.common_lemmas.proofs.Booleans.{and_left, and_right, impossible}
use Rattle.session_local.specs.FoundLaws.{by_number}
use Rattle.laws_engine.proofs.EngineLemmas.Decisions.{refused_with, answer-is, answer-refused}
use Rattle.engine_parts.proofs.Retrieving.{readable}

-- ---- the cursor

pub begun_of : (begun x : Bool) → elim begun [ true ↦ x | false ↦ true ] ≡ false → (begun ≡ true) × (x ≡ false)
begun_of true x h = (refl, h)
begun_of false x h = cc

-- a call that is not answered by the session itself
pub retrieve-shared : (local : LocalState) (cursor : CursorId) (name : List ℕ) (sequence most : ℕ) → is_answered_locally local (call.RetrieveColumn cursor name sequence false most) ≡ false
    → (local.begun ≡ true) × (is_none (cursor_labelled local cursor.0) ≡ false)
retrieve-shared local cursor name sequence most h = begun_of local.begun (is_none (cursor_labelled local cursor.0)) h

pub distinct_at : (local : LocalState) (label : ℕ) (c : OpenCursor) → IsWellFormed local → cursor_labelled local label ≡ Some c → are_distinct (map number_of_column c.schema.columns) ≡ true
distinct_at local label c formed found =
    let well = all_found is_well_formed_cursor (λ c. c.label == label) local.cursors c formed found in
    let schema = and_left (is_well_formed_schema c.schema) (is_well_formed_update c.schema.columns c.prepared) well in
    and_left _ _ (and_left _ _ (and_left _ _ schema))

longs_at : (local : LocalState) (label : ℕ) (c : OpenCursor) → IsWellFormed local → cursor_labelled local label ≡ Some c → list_all is_long_if_sum c.schema.columns ≡ true
longs_at local label c formed found =
    let well = all_found is_well_formed_cursor (λ c. c.label == label) local.cursors c formed found in
    let schema = and_left (is_well_formed_schema c.schema) (is_well_formed_update c.schema.columns c.prepared) well in
    and_right _ _ (and_left _ _ (and_left _ _ schema))

-- ---- the answer

retrieve-is : (asked : CallInputs) (cursor : CursorId) (name : List ℕ) (sequence most : ℕ) (c : OpenCursor) → asked.local.begun ≡ true → cursor_labelled asked.local cursor.0 ≡ Some c
    → answer asked (call.RetrieveColumn cursor name sequence false most) ≡ retrieve_column asked c name sequence most
unfolding answer
retrieve-is asked cursor name sequence most c begun found = rw (begun, found) refl

retrieve-row_refused : SeesRecords → (engine : EngineState) (state : DatabaseState) (side : SessionSide) (label : ℕ) (c : OpenCursor) (name : List ℕ) (sequence most : ℕ) (refusal : Jet) → HoldsState engine state → IsInStep state side.session side.state
    → cursor_labelled side.state label ≡ Some c → first_refusal (place_refusals (shown_for engine side.session c.cursor.table) c.cursor.place) ≡ Some refusal
    → retrieve_column (inputs_of engine state side.session side.state) c name sequence most ≡ refused (inputs_of engine state side.session side.state) refusal
retrieve-row_refused reads engine state side label c name sequence most refusal h step found e =
    let asked = inputs_of engine state side.session side.state in
    let rows = rows_seen asked c in
    let bookmark = place_bookmark c.cursor.place in
    let same : is_none (shown_for engine side.session c.cursor.table bookmark) ≡ is_none (row_at rows bookmark) =
    sym (is_none-map _ (shown_for engine side.session c.cursor.table bookmark)) ∙ ap (λ (o : Option RecordFields). is_none o) (reads engine state side.session side.state label c h step found bookmark) in
    let first : first_refusal ((not (is_on c.cursor.place), jet.NoCurrentRecord) ∷ (is_none (row_at rows bookmark), jet.RecordDeleted) ∷ []) ≡ Some refusal =
    ap (λ (b : Bool). first_refusal ((not (is_on c.cursor.place), jet.NoCurrentRecord) ∷ (b, jet.RecordDeleted) ∷ [])) (sym same) ∙ e in
    ap (λ (o : Option Jet). unless_refused asked o (λ _. on_column asked (column_named c.schema.columns name) (column_shown asked sequence most (unwrap_or (row_at rows bookmark) [])))) first

retrieve-at_row : (asked : CallInputs) (c : OpenCursor) (name : List ℕ) (sequence most : ℕ) (fields : RecordFields) → is_on c.cursor.place ≡ true
    → row_at (rows_seen asked c) (place_bookmark c.cursor.place) ≡ Some fields
    → retrieve_column asked c name sequence most ≡ on_column asked (column_named c.schema.columns name) (column_shown asked sequence most fields)
retrieve-at_row asked c name sequence most fields on is = rw (on, is) refl

-- the record that is seen at a row
pub seen_at : (engine : EngineState) (session : ℕ) (c : OpenCursor) (row : RecordFields) → shown_for engine session c.cursor.table (place_bookmark c.cursor.place) ≡ Some row
    → record_for engine session c.cursor.table (place_bookmark c.cursor.place) ≡ Some (fields_at engine session c)
seen_at engine session c row e = by (shown_for engine session c.cursor.table (place_bookmark c.cursor.place)) e
  where
    sums : List (ℕ × ℤ)
    sums = unseen_sums c.cursor.table (place_bookmark c.cursor.place) (reader_in session engine.sessions) engine.store.held

    by : (o : Option RecordFields) → o ≡ Some row → option_map (λ values. without_sums values sums) o ≡ Some (unwrap_or (option_map (λ values. without_sums values sums) o) [])
    by None e = cc
    by (Some values) e = refl

-- what is found at a row
retrieve-found : SeesRecords → (engine : EngineState) (state : DatabaseState) (side : SessionSide) (cursor : CursorId) (name : List ℕ) (sequence most : ℕ) (c : OpenCursor) (row : RecordFields) (column : Option Column)
    → HoldsState engine state → IsInStep state side.session side.state → side.state.begun ≡ true → cursor_labelled side.state cursor.0 ≡ Some c → IsRecordAt (shown_for engine side.session c.cursor.table) c.cursor.place (Ok row)
    → column_named c.schema.columns name ≡ column
    → answer (inputs_of engine state side.session side.state) (call.RetrieveColumn cursor name sequence false most)
    ≡ on_column (inputs_of engine state side.session side.state) column (column_shown (inputs_of engine state side.session side.state) sequence most (fields_at engine side.session c))
retrieve-found reads engine state side cursor name sequence most c row column h step begun found at named =
    let asked = inputs_of engine state side.session side.state in
    retrieve-is asked cursor name sequence most c begun found
    ∙ retrieve-at_row asked c name sequence most (fields_at engine side.session c) at.0
    (sym (reads engine state side.session side.state cursor.0 c h step found (place_bookmark c.cursor.place)) ∙ seen_at engine side.session c row at.1)
    ∙ ap (λ (o : Option Column). on_column asked o (column_shown asked sequence most (fields_at engine side.session c))) named

-- ---- decisions

pub retrieve-refused : SeesRecords → (engine : EngineState) (side : SessionSide) (cursor : CursorId) (name : List ℕ) (sequence most : ℕ) (c : OpenCursor) (refusal : Jet)
    → side.state.begun ≡ true → cursor_labelled side.state cursor.0 ≡ Some c → IsRecordAt (shown_for engine side.session c.cursor.table) c.cursor.place (Err refusal)
    → Decides engine side (call.RetrieveColumn cursor name sequence false most) side (refused_with refusal)
retrieve-refused reads engine side cursor name sequence most c refusal begun found at = λ state h step.
    let asked = inputs_of engine state side.session side.state in
    answer-refused asked (call.RetrieveColumn cursor name sequence false most) side refusal refl
    (retrieve-is asked cursor name sequence most c begun found ∙ retrieve-row_refused reads engine state side cursor.0 c name sequence most refusal h step found at)

pub retrieve-no_column : SeesRecords → (engine : EngineState) (side : SessionSide) (cursor : CursorId) (name : List ℕ) (sequence most : ℕ) (c : OpenCursor) (row : RecordFields)
    → side.state.begun ≡ true → cursor_labelled side.state cursor.0 ≡ Some c → IsRecordAt (shown_for engine side.session c.cursor.table) c.cursor.place (Ok row)
    → column_named c.schema.columns name ≡ None
    → Decides engine side (call.RetrieveColumn cursor name sequence false most) side (refused_with jet.ColumnNotFound)
retrieve-no_column reads engine side cursor name sequence most c row begun found at named = λ state h step.
    answer-refused (inputs_of engine state side.session side.state) (call.RetrieveColumn cursor name sequence false most) side jet.ColumnNotFound refl
    (retrieve-found reads engine state side cursor name sequence most c row None h step begun found at named)

record IsStill (asked : CallInputs) (outcome : Outcome) : Type 0 where
  step : outcome.step ≡ None
  local : outcome.local ≡ asked.local

still_either : (asked : CallInputs) (b : Bool) (one other : Outcome) → IsStill asked one → IsStill asked other → IsStill asked (cond b one other)
still_either asked true one other h g = h
still_either asked false one other h g = g

value_shown-still : (asked : CallInputs) (column : Column) (most : ℕ) (value : Option (List ℕ)) → IsStill asked (value_shown asked column most value)
value_shown-still asked column most None = record { step = refl; local = refl }
value_shown-still asked column most (Some value) =
    still_either asked (is_number_type column.kind) _ _ (record { step = refl; local = refl }) (record { step = refl; local = refl })

column_shown-still : (asked : CallInputs) (sequence most : ℕ) (fields : RecordFields) (column : Column) → IsStill asked (column_shown asked sequence most fields column)
column_shown-still asked sequence most fields column =
    still_either asked (sequence == 0) _ _ (record { step = refl; local = refl }) (value_shown-still asked column most (slice_get (values_of fields column.id.0) (sequence - 1)))

pub column_shown-value : (asked : CallInputs) (sequence most : ℕ) (fields : RecordFields) (column : Column) → (sequence == 0) ≡ false
    → column_shown asked sequence most fields column ≡ value_shown asked column most (slice_get (values_of fields column.id.0) (sequence - 1))
column_shown-value asked sequence most fields column ne = rw ne refl

pub retrieve-shown : SeesRecords → (engine : EngineState) (side new : SessionSide) (cursor : CursorId) (name : List ℕ) (sequence most : ℕ) (c : OpenCursor) (row : RecordFields) (column : Column) (decision : Decision)
    → side.state.begun ≡ true → cursor_labelled side.state cursor.0 ≡ Some c → IsRecordAt (shown_for engine side.session c.cursor.table) c.cursor.place (Ok row)
    → column_named c.schema.columns name ≡ Some column
    → ((asked : CallInputs) → answered_by decision.reply new.reply ≡ (column_shown asked sequence most (fields_at engine side.session c) column).answered)
    → decision ≡ record { step = None; reply = decision.reply; table = None; copied = None; temp = None; buffers = None; flush = false }
    → new.state ≡ side.state
    → Decides engine side (call.RetrieveColumn cursor name sequence false most) new decision
retrieve-shown reads engine side new cursor name sequence most c row column decision begun found at named shown nothing same = λ state h step.
    let asked = inputs_of engine state side.session side.state in
    let still = column_shown-still asked sequence most (fields_at engine side.session c) column in
    answer-is asked (call.RetrieveColumn cursor name sequence false most) new decision (column_shown asked sequence most (fields_at engine side.session c) column)
    (retrieve-found reads engine state side cursor name sequence most c row (Some column) h step begun found at named)
    (shown asked)
    (ap (λ (d : Decision). d.step) nothing ∙ sym still.step)
    (same ∙ sym still.local)

-- ---- the values are readable

pub row_read_at : SeesRows → (engine : EngineState) (side : SessionSide) (label : ℕ) (c : OpenCursor) (row : RecordFields)
    → HoldsSession engine side → cursor_labelled side.state label ≡ Some c → IsRecordAt (shown_for engine side.session c.cursor.table) c.cursor.place (Ok row) → IsRowAt engine side.session c row
row_read_at rows engine side label c row beside found at =
    let held = beside.held in
    rows engine held.state side.session side.state label c held.holds held.in_step found (place_bookmark c.cursor.place) row (fields_at engine side.session c) at.1 (seen_at engine side.session c row at.1)

pub readable_at : SeesRows → (engine : EngineState) (side : SessionSide) (label : ℕ) (name : List ℕ) (c : OpenCursor) (row : RecordFields) (column : Column)
    → HoldsSession engine side → cursor_labelled side.state label ≡ Some c → IsRecordAt (shown_for engine side.session c.cursor.table) c.cursor.place (Ok row) → column_named c.schema.columns name ≡ Some column
    → AreReadable column.kind (values_of row column.id.0)
readable_at rows engine side label name c row column beside found at named =
    let is = row_read_at rows engine side label c row beside found at in
    readable c.schema.columns row name column (distinct_at side.state label c beside.formed found) is.fits is.small named

long_type : (kind : ColType) → is_type_long kind ≡ true → kind ≡ Long
long_type kind.Long h = refl
long_type _ h = impossible h

-- a column that the name finds
pub column_at : (side : SessionSide) (label : ℕ) (name : List ℕ) (c : OpenCursor) (column : Column) → IsWellFormed side.state → cursor_labelled side.state label ≡ Some c → column_named c.schema.columns name ≡ Some column → IsColumnOf c.schema column
column_at side label name c column formed found named = record {
  its = ap (λ (o : Option Column). elim o [ Some column ↦ column.escrow | None ↦ false ]) (by_number (λ o. bytes_eq o.name name) c.schema.columns column (distinct_at side.state label c formed found) named);
  long = λ sum. long_type column.kind (sum_long column.escrow (is_type_long column.kind) sum (all_found is_long_if_sum (λ o. bytes_eq o.name name) c.schema.columns column (longs_at side.state label c formed found) named));
}
  where
    sum_long : (a b : Bool) → a ≡ true → (not a || b) ≡ true → b ≡ true
    sum_long true b e f = f
    sum_long false b e f = impossible e
