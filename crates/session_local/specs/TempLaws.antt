-- Laws of the calls on temporary tables: the definitions answer none of them with want of memory.
use Rattle.std.proofs.Common.{◌≡◌, ℕ, ◌-◌, ◌==◌, ◌++◌, Bool, true, false, cond, not, ◌&&◌, List, [], ◌∷◌, length, Option, Some, None, option_map, refl, is_some, nat_le, nat_lt, slice_get, if◌then◌else◌}
use Rattle.jet_base.specs.declared.ids.CursorId.{CursorId}
use Rattle.jet_base.specs.declared.replies.Jet.{Jet}
use Rattle.jet_base.specs.declared.replies.Jet.TheVariants as jet
use Rattle.jet_base.specs.declared.words.ColType.{ColType}
use Rattle.jet_base.specs.declared.words.Given.{Given}
use Rattle.jet_base.specs.declared.words.Way.{Way}
use Rattle.jet_base.specs.ColumnType.{is_number_type, largest_value, number_of}
use Rattle.jet_base.specs.Given.{given_fits, given_length}
use Rattle.column_set.specs.Refusals.{first_refusal}
use Rattle.column_set.specs.Rows.{largest_row}
use Rattle.temp_table.specs.declared.columns.TempColumn.{TempColumn}
use Rattle.temp_table.specs.declared.fault.TempFault.TheVariants as fault
use Rattle.temp_table.specs.TempColumns.{RowValues}
use Rattle.temp_table.specs.TempRows.{TempRows, current_value, has_key_of, is_on, moved, opened, put_refusal, row_size}
use Rattle.session_local.specs.declared.open_temp.OpenTemp.{OpenTemp}
use Rattle.session_local.specs.Answer.{Answered, Nothing, Number}
use Rattle.session_local.specs.Local.{temp_labelled, with_temp}
use Rattle.session_local.specs.Showing.{bytes_answered}
use Rattle.session_local.specs.TempCalls.{TempOutcome, column_read, on_temp, put_reply, row_read, row_refusal, stored_row, temp_close, temp_count, temp_move, temp_open, temp_put, temp_read, temps_become, temps_unless, value_read, value_refusal, values_refusal, with_given}

abbrev pub wants_memory : Jet → Bool
wants_memory jet.OutOfMemory = true
wants_memory _ = false

-- it is another answer than want of memory
abbrev pub IsOtherTold : TempOutcome → Type 0
IsOtherTold told = wants_memory told.answered.jet ≡ false

abbrev IsOtherRefusal : Option Jet → Type 0
IsOtherRefusal None = Unit {0}
IsOtherRefusal (Some reply) = wants_memory reply ≡ false

on_temp-other : (temps : List OpenTemp) (found : Option OpenTemp) (next : OpenTemp → TempOutcome) → ((temp : OpenTemp) → IsOtherTold (next temp)) → IsOtherTold (on_temp temps found next)
on_temp-other temps None next rest = refl
on_temp-other temps (Some temp) next rest = rest temp

temps_unless-other : (temps : List OpenTemp) (refusal : Option Jet) (next : Unit {0} → TempOutcome) → IsOtherRefusal refusal → IsOtherTold (next tt) → IsOtherTold (temps_unless temps refusal next)
temps_unless-other temps None next other rest = rest
temps_unless-other temps (Some reply) next other rest = other

two-other : (first second : Bool) (one two : Jet) → wants_memory one ≡ false → wants_memory two ≡ false → IsOtherRefusal (first_refusal ((first, one) ∷ (second, two) ∷ []))
two-other true second one two a b = a
two-other false true one two a b = b
two-other false false one two a b = tt

-- ---- TempOpen and TempPut

pub temp_open-other : (temps : List OpenTemp) (label : CursorId) (unique : Bool) (columns : List TempColumn) → IsOtherTold (temp_open temps label unique columns)
temp_open-other temps label unique columns =
    temps_unless-other temps (first_refusal ((is_some (temp_labelled temps label), jet.InvalidTableId) ∷ (nat_le 4 (length temps), jet.OutOfCursors) ∷ []))
    (λ _. temps_become (temps ++ record { label = label; table = opened columns unique } ∷ []))
    (two-other (is_some (temp_labelled temps label)) (nat_le 4 (length temps)) jet.InvalidTableId jet.OutOfCursors refl refl) refl

value_refusal-other : (kind : ColType) (value : Given) → IsOtherRefusal (value_refusal kind value)
value_refusal-other kind value = two-other (not (given_fits kind value)) (nat_lt (largest_value kind) (given_length value)) jet.InvalidBufferSize jet.ColumnTooBig refl refl

first-other : (first rest : Option Jet) → IsOtherRefusal first → IsOtherRefusal rest → IsOtherRefusal (elim first [ Some reply ↦ Some reply | None ↦ rest ])
first-other None rest a b = b
first-other (Some reply) rest a b = a

values_refusal-other : (columns : List TempColumn) (values : List Given) → IsOtherRefusal (values_refusal columns values)
values_refusal-other [] values = tt
values_refusal-other (column ∷ columns) [] = tt
values_refusal-other (column ∷ columns) (value ∷ values) =
    first-other (value_refusal column.kind value) (values_refusal columns values) (value_refusal-other column.kind value) (values_refusal-other columns values)

put_refusal-other : (table : TempRows) (row : RowValues) → IsOtherRefusal (option_map put_reply (put_refusal table row))
put_refusal-other table row = by (nat_lt largest_row (row_size row)) (table.unique && has_key_of table.columns row table.rows)
  where
    by : (big double : Bool) → IsOtherRefusal (option_map put_reply (cond big (Some fault.TooBig) (cond double (Some fault.Double) None)))
    by true double = refl
    by false true = refl
    by false false = tt

row_refusal-other : (table : TempRows) (values : List Given) → IsOtherRefusal (row_refusal table values)
row_refusal-other table values = by (length values == length table.columns)
  where
    by : (each : Bool) → IsOtherRefusal (elim each [
      | false ↦ Some jet.InvalidParameter
      | true ↦ elim (values_refusal table.columns values) [ Some reply ↦ Some reply | None ↦ option_map put_reply (put_refusal table (stored_row table.columns values)) ]
    ])
    by false = refl
    by true = first-other (values_refusal table.columns values) (option_map put_reply (put_refusal table (stored_row table.columns values))) (values_refusal-other table.columns values) (put_refusal-other table (stored_row table.columns values))

pub temp_put-other : (temps : List OpenTemp) (label : CursorId) (values : List Given) → IsOtherTold (temp_put temps label values)
temp_put-other temps label values = on_temp-other temps (temp_labelled temps label) _ (λ temp.
    temps_unless-other temps (row_refusal temp.table values) (λ _. temps_become (with_temp temps (record temp { table = with_given temp.table values }))) (row_refusal-other temp.table values) refl)

-- ---- the others

moved-other : (on : Bool) → wants_memory (elim on [ true ↦ jet.Success | false ↦ jet.NoCurrentRecord ]) ≡ false
moved-other true = refl
moved-other false = refl

pub temp_move-other : (temps : List OpenTemp) (label : CursorId) (way : Way) → IsOtherTold (temp_move temps label way)
temp_move-other temps label way = on_temp-other temps (temp_labelled temps label) _ (λ temp. moved-other (is_on (moved temp.table way).place))

abbrev IsOtherAnswer : Answered → Type 0
IsOtherAnswer answered = wants_memory answered.jet ≡ false

shown-other : (truncated : Bool) → wants_memory (if truncated then jet.BufferTruncated else jet.Success) ≡ false
shown-other true = refl
shown-other false = refl

value_read-other : (kind : ColType) (value : Option (List ℕ)) → IsOtherAnswer (value_read kind value)
value_read-other kind None = refl
value_read-other kind (Some value) = by (is_number_type kind)
  where
    by : (number : Bool) → IsOtherAnswer (elim number [ true ↦ record { jet = jet.Success; shown = Number (number_of kind value) } | false ↦ bytes_answered 255 value ])
    by true = refl
    by false = shown-other (nat_lt 255 (length value))

column_read-other : (table : TempRows) (at : ℕ) (column : Option TempColumn) → IsOtherAnswer (column_read table at column)
column_read-other table at None = refl
column_read-other table at (Some column) = value_read-other column.kind (current_value table at)

row_read-other : (table : TempRows) (column : ℕ) → IsOtherAnswer (row_read table column)
row_read-other table column = by (is_on table.place)
  where
    found : Option TempColumn
    found = elim (column == 0) [ true ↦ None | false ↦ slice_get table.columns (column - 1) ]

    by : (on : Bool) → IsOtherAnswer (elim on [ false ↦ record { jet = jet.NoCurrentRecord; shown = Nothing } | true ↦ column_read table (column - 1) found ])
    by false = refl
    by true = column_read-other table (column - 1) found

pub temp_read-other : (temps : List OpenTemp) (label : CursorId) (column : ℕ) → IsOtherTold (temp_read temps label column)
temp_read-other temps label column = on_temp-other temps (temp_labelled temps label) _ (λ temp. row_read-other temp.table column)

pub temp_count-other : (temps : List OpenTemp) (label : CursorId) → IsOtherTold (temp_count temps label)
temp_count-other temps label = on_temp-other temps (temp_labelled temps label) _ (λ temp. refl)

pub temp_close-other : (temps : List OpenTemp) (label : CursorId) → IsOtherTold (temp_close temps label)
temp_close-other temps label = on_temp-other temps (temp_labelled temps label) _ (λ temp. refl)
