-- What SetColumn does: the values of its column afterwards, and its refusals in the order in which they are tried.
use Rattle.std.specs.Prelude.{ℕ, ◌-◌, ◌==◌, Bool, true, false, not, ◌&&◌, nat_le, nat_lt, length, List, [], ◌∷◌, ◌++◌, remove, slice_set, Option, Some, None, if◌then◌else◌}
use Rattle.jet_base.specs.declared.replies.Jet.{Jet}
use Rattle.jet_base.specs.declared.replies.Jet.TheVariants as jet
use Rattle.jet_base.specs.declared.words.Given.{Given}
use Rattle.jet_base.specs.ColumnType.{largest_value}
use Rattle.jet_base.specs.Given.{given_fits, given_bytes, given_length, given_is_null}
use Rattle.column_set.specs.declared.columns.Column.{Column}
use Rattle.column_set.specs.RecordValues.{RecordFields, values_of, with_values, record_size, column_named, column_of_id}
use Rattle.column_set.specs.Refusals.{Refusals, first_refusal}
use Rattle.record_edit.specs.Buffer.{Buffer}

-- whether the sequence, counted from 1, is that of a value
abbrev pub is_place_of : ℕ → List (List ℕ) → Bool
is_place_of sequence values = nat_le 1 sequence && nat_le sequence (length values)

-- In a multi-valued column a value goes to its place, or to the end; NULL at a place takes that value out, and elsewhere
-- does nothing. Any other column has the one value, or none.
abbrev pub values_after : Bool → ℕ → Option (List ℕ) → List (List ℕ) → List (List ℕ)
values_after false sequence None values = []
values_after false sequence (Some value) values = value ∷ []
values_after true sequence None values = if is_place_of sequence values then remove values (sequence - 1) else values
values_after true sequence (Some value) values = if is_place_of sequence values then slice_set values (sequence - 1) value else values ++ value ∷ []

abbrev pub set_refusals : Column → ℕ → Given → RecordFields → Refusals
set_refusals column sequence value fields =
    (column.escrow, jet.ColumnNotUpdatable)
    ∷ (not column.multi && nat_lt 1 sequence, jet.BadItagSequence)
    ∷ (not (given_fits column.kind value), jet.InvalidBufferSize)
    ∷ (nat_lt (largest_value column.kind) (given_length value), jet.ColumnTooBig)
    ∷ (given_is_null value && column.not_null && (length (values_after column.multi sequence None (values_of fields column.id.0)) == 0), jet.NullInvalid)
    ∷ []

abbrev pub stored_value : Column → Given → Option (List ℕ)
stored_value column value = if given_is_null value then None else Some (given_bytes column.kind value)

abbrev pub fields_after : Column → ℕ → Given → RecordFields → RecordFields
fields_after column sequence value fields =
    with_values fields column.id.0 (values_after column.multi sequence (stored_value column value) (values_of fields column.id.0))

-- the last refusal: the record with the value would be too big for its row
abbrev pub size_refusals : Column → ℕ → Given → RecordFields → Refusals
size_refusals column sequence value fields = (nat_lt 1700 (record_size (fields_after column sequence value fields)), jet.RecordTooBig) ∷ []

-- ---- the call on a copy buffer, which names its column by number

abbrev pub refusal_in_column : Column → ℕ → Given → RecordFields → Option Jet
refusal_in_column column sequence value fields = first_refusal (set_refusals column sequence value fields ++ size_refusals column sequence value fields)

-- why the call is refused
abbrev pub set_refusal : Buffer → ℕ → ℕ → Given → Option Jet
set_refusal buffer column sequence value = elim (column_of_id buffer.columns column) [
  | None ↦ Some jet.ColumnNotFound
  | Some found ↦ refusal_in_column found sequence value buffer.fields
]

-- the buffer after a call that is not refused
abbrev pub buffer_after : Buffer → ℕ → ℕ → Given → Buffer
buffer_after buffer column sequence value = elim (column_of_id buffer.columns column) [
  | None ↦ buffer
  | Some found ↦ record buffer { fields = fields_after found sequence value buffer.fields }
]

-- ---- the same, which names its column by name

abbrev pub named_refusal : Buffer → List ℕ → ℕ → Given → Option Jet
named_refusal buffer name sequence value = elim (column_named buffer.columns name) [
  | None ↦ Some jet.ColumnNotFound
  | Some found ↦ refusal_in_column found sequence value buffer.fields
]

abbrev pub named_after : Buffer → List ℕ → ℕ → Given → Buffer
named_after buffer name sequence value = elim (column_named buffer.columns name) [
  | None ↦ buffer
  | Some found ↦ record buffer { fields = fields_after found sequence value buffer.fields }
]
