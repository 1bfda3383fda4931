-- The calls on temporary tables: sorted rows of one session, outside all transactions. Such a call looks at the session's
-- temporary tables alone, and changes nothing else.
use Rattle.std.specs.Prelude.{ℕ, ◌-◌, ◌==◌, Bool, true, false, not, nat_le, nat_lt, length, List, [], ◌∷◌, ◌++◌, slice_get, Option, Some, None, option_map, is_some}
use Rattle.jet_base.specs.declared.ids.CursorId.{CursorId}
use Rattle.jet_base.specs.declared.replies.Jet.{Jet}
use Rattle.jet_base.specs.declared.replies.Jet.TheVariants as jet
use Rattle.jet_base.specs.declared.words.ColType.{ColType}
use Rattle.jet_base.specs.declared.words.Given.{Given}
use Rattle.jet_base.specs.declared.words.Way.{Way}
use Rattle.jet_base.specs.ColumnType.{is_number_type, largest_value, number_of}
use Rattle.jet_base.specs.Given.{given_bytes, given_fits, given_is_null, given_length}
use Rattle.column_set.specs.Refusals.{first_refusal}
use Rattle.temp_table.specs.declared.columns.TempColumn.{TempColumn}
use Rattle.temp_table.specs.declared.fault.TempFault.{TempFault}
use Rattle.temp_table.specs.declared.fault.TempFault.TheVariants as fault
use Rattle.temp_table.specs.TempColumns.{RowValues}
use Rattle.temp_table.specs.TempRows.{TempRows, current_value, is_on, moved, opened, put_refusal, put_row}
use Rattle.session_local.specs.declared.open_temp.OpenTemp.{OpenTemp}
use Rattle.session_local.specs.declared.request.Request.{Request}
use Rattle.session_local.specs.declared.request.Request.TheVariants as call
use Rattle.session_local.specs.Answer.{Answered, ShownValue, Nothing, Number, Count}
use Rattle.session_local.specs.Local.{temp_labelled, with_temp, without_temp}
use Rattle.session_local.specs.Outcome.{CallInputs, Outcome}
use Rattle.session_local.specs.Showing.{bytes_answered}

-- What such a call comes to: its answer, and the session's temporary tables afterwards.
pub record TempOutcome : Type 0 where
  pub answered : Answered
  pub temps : List OpenTemp

-- ---- ways to answer

-- an answer after which all is as it was
abbrev pub temps_say : List OpenTemp → Jet → ShownValue → TempOutcome
temps_say temps reply shown = record { answered = record { jet = reply; shown = shown }; temps = temps }

abbrev pub temps_refuse : List OpenTemp → Jet → TempOutcome
temps_refuse temps reply = temps_say temps reply Nothing

-- success, with these tables afterwards
abbrev pub temps_become : List OpenTemp → TempOutcome
temps_become temps = temps_say temps jet.Success Nothing

-- the first refusal, or else what follows
abbrev pub temps_unless : List OpenTemp → Option Jet → (Unit {0} → TempOutcome) → TempOutcome
temps_unless temps (Some reply) next = temps_refuse temps reply
temps_unless temps None next = next tt

-- the table of a label
abbrev pub on_temp : List OpenTemp → Option OpenTemp → (OpenTemp → TempOutcome) → TempOutcome
on_temp temps None next = temps_refuse temps jet.InvalidTableId
on_temp temps (Some temp) next = next temp

abbrev pub at_temp : List OpenTemp → CursorId → (OpenTemp → TempOutcome) → TempOutcome
at_temp temps label next = on_temp temps (temp_labelled temps label) next

-- ---- TempOpen

-- A session has four temporary tables at most. A new one has no row.
abbrev pub temp_open : List OpenTemp → CursorId → Bool → List TempColumn → TempOutcome
temp_open temps label unique columns =
    temps_unless temps (first_refusal ((is_some (temp_labelled temps label), jet.InvalidTableId) ∷ (nat_le 4 (length temps), jet.OutOfCursors) ∷ []))
    (λ _. temps_become (temps ++ record { label = label; table = opened columns unique } ∷ []))

-- ---- TempPut

-- why a value is not stored in a column of the type, as in SetColumn
abbrev pub value_refusal : ColType → Given → Option Jet
value_refusal kind value =
    first_refusal ((not (given_fits kind value), jet.InvalidBufferSize) ∷ (nat_lt (largest_value kind) (given_length value), jet.ColumnTooBig) ∷ [])

-- the first value that is not stored in its column
abbrev pub values_refusal : List TempColumn → List Given → Option Jet
values_refusal (column ∷ columns) (value ∷ values) = elim (value_refusal column.kind value) [ Some reply ↦ Some reply | None ↦ values_refusal columns values ]
values_refusal _ _ = None

-- what is stored of a value in a column of the type
abbrev pub stored_in : ColType → Given → Option (List ℕ)
stored_in kind value = elim (given_is_null value) [ true ↦ None | false ↦ Some (given_bytes kind value) ]

abbrev pub stored_row : List TempColumn → List Given → RowValues
stored_row (column ∷ columns) (value ∷ values) = stored_in column.kind value ∷ stored_row columns values
stored_row _ _ = []

-- the reply to a row that is not put; want of memory is no refusal of the definitions
abbrev pub put_reply : TempFault → Jet
put_reply fault.TooBig = jet.RecordTooBig
put_reply fault.Double = jet.KeyDuplicate
put_reply fault.OutOfMemory = jet.OutOfMemory

-- One value for each column, each as SetColumn would take it; then the size of the row, and its key.
abbrev pub row_refusal : TempRows → List Given → Option Jet
row_refusal table values = elim (length values == length table.columns) [
  | false ↦ Some jet.InvalidParameter
  | true ↦ elim (values_refusal table.columns values) [
    | Some reply ↦ Some reply
    | None ↦ option_map put_reply (put_refusal table (stored_row table.columns values))
  ]
]

abbrev pub with_given : TempRows → List Given → TempRows
with_given table values = put_row table (stored_row table.columns values)

abbrev pub temp_put : List OpenTemp → CursorId → List Given → TempOutcome
temp_put temps label values = at_temp temps label (λ temp.
    temps_unless temps (row_refusal temp.table values) (λ _. temps_become (with_temp temps (record temp { table = with_given temp.table values }))))

-- ---- TempMove

-- Where there is no row to go to, the place is before or after all rows.
abbrev pub temp_move : List OpenTemp → CursorId → Way → TempOutcome
temp_move temps label way = at_temp temps label (λ temp. record {
  answered = record { jet = elim (is_on (moved temp.table way).place) [ true ↦ jet.Success | false ↦ jet.NoCurrentRecord ]; shown = Nothing };
  temps = with_temp temps (record temp { table = moved temp.table way });
})

-- ---- TempRead

-- a value as RetrieveColumn shows it: a number as one, other bytes up to 255, which is as many as they may be
abbrev pub value_read : ColType → Option (List ℕ) → Answered
value_read kind None = record { jet = jet.ColumnNull; shown = Nothing }
value_read kind (Some value) = elim (is_number_type kind) [
  | true ↦ record { jet = jet.Success; shown = Number (number_of kind value) }
  | false ↦ bytes_answered 255 value
]

abbrev pub column_read : TempRows → ℕ → Option TempColumn → Answered
column_read table at None = record { jet = jet.ColumnNotFound; shown = Nothing }
column_read table at (Some column) = value_read column.kind (current_value table at)

-- the value of the current row in a column, which is counted from 1
abbrev pub row_read : TempRows → ℕ → Answered
row_read table column = elim (is_on table.place) [
  | false ↦ record { jet = jet.NoCurrentRecord; shown = Nothing }
  | true ↦ column_read table (column - 1) (elim (column == 0) [ true ↦ None | false ↦ slice_get table.columns (column - 1) ])
]

abbrev pub temp_read : List OpenTemp → CursorId → ℕ → TempOutcome
temp_read temps label column = at_temp temps label (λ temp. record { answered = row_read temp.table column; temps = temps })

-- ---- TempCount and TempClose

abbrev pub temp_count : List OpenTemp → CursorId → TempOutcome
temp_count temps label = at_temp temps label (λ temp. temps_say temps jet.Success (Count (length temp.table.rows)))

abbrev pub temp_close : List OpenTemp → CursorId → TempOutcome
temp_close temps label = at_temp temps label (λ temp. temps_become (without_temp temps label))

-- ---- the answer of a session

-- It makes no step, and leaves all else of the session's own state.
abbrev pub of_temps : CallInputs → TempOutcome → Outcome
of_temps asked told = record { answered = told.answered; local = record asked.local { temps = told.temps }; step = None }

-- what a call on temporary tables comes to; None of any other call
abbrev pub temp_outcome : List OpenTemp → Request → Option TempOutcome
temp_outcome temps (call.TempOpen temp unique columns) = Some (temp_open temps temp unique columns)
temp_outcome temps (call.TempPut temp values) = Some (temp_put temps temp values)
temp_outcome temps (call.TempMove temp way) = Some (temp_move temps temp way)
temp_outcome temps (call.TempRead temp column) = Some (temp_read temps temp column)
temp_outcome temps (call.TempCount temp) = Some (temp_count temps temp)
temp_outcome temps (call.TempClose temp) = Some (temp_close temps temp)
temp_outcome temps _ = None
