-- What RetrieveColumn finds in the record at a cursor, before its bytes are written to the reply buffer.
use Rattle.std.specs.Prelude.{◌≡◌, ◌≤◌, ℕ, true, not, List, [], ◌∷◌, length, slice_get, Option, Some, Result, Ok, Err, is_none, IfSome, IsTrue}
use Rattle.std.specs.List.{list_all}
use Rattle.jet_base.specs.declared.replies.Jet.{Jet}
use Rattle.jet_base.specs.declared.replies.Jet.TheVariants as jet
use Rattle.jet_base.specs.declared.words.ColType.{ColType}
use Rattle.jet_base.specs.declared.words.ColType.TheVariants.{Long}
use Rattle.column_set.specs.declared.columns.Column.{Column}
use Rattle.column_set.specs.RecordValues.{RecordFields, value_fits, values_of}
use Rattle.index_derive.specs.declared.entries.Place.{Place}
use Rattle.index_derive.specs.declared.rules.Schema.{Schema}
use Rattle.index_derive.specs.Entries.{is_escrow_column}
use Rattle.cursor_nav.specs.Places.{is_on, place_bookmark}
use Rattle.column_set.specs.Refusals.{Refusals, first_refusal}
use Rattle.session_local.specs.Answer.{Answered, Nothing, Number}
use Rattle.session_local.specs.Showing.{value_answered}
use Rattle.engine_parts.specs.declared.record_calls.Shown.{Shown}
use Rattle.engine_parts.specs.declared.record_calls.Shown.TheVariants as shown

-- ---- the record at a cursor

-- the place is an entry, whose record is found
abbrev pub place_refusals : (List ℕ → Option RecordFields) → Place → Refusals
place_refusals records place = (not (is_on place), jet.NoCurrentRecord) ∷ (is_none (records (place_bookmark place)), jet.RecordDeleted) ∷ []

-- the record at a place, or why there is none
abbrev pub IsRecordAt : (List ℕ → Option RecordFields) → Place → Result RecordFields Jet → Type 0
IsRecordAt records place (Ok row) = IsTrue (is_on place) × (records (place_bookmark place) ≡ Some row)
IsRecordAt records place (Err refusal) = first_refusal (place_refusals records place) ≡ Some refusal

-- ---- its values

-- The values of a column are of its type, and few.
pub record AreReadable (kind : ColType) (values : List (List ℕ)) : Type 0 where
  pub fit : IsTrue (list_all (value_fits kind) values)
  pub few : length values ≤ 1700

-- The column is one of the schema, where it is a sum if it says so; and a sum is a Long.
pub record IsColumnOf (schema : Schema) (column : Column) : Type 0 where
  pub its : is_escrow_column schema column.id.0 ≡ column.escrow
  pub long : column.escrow ≡ true → column.kind ≡ Long

-- the bytes of the column's value at a place, counted from 0
abbrev pub bytes_at : RecordFields → ℕ → ℕ → Option (List ℕ)
bytes_at fields column at = slice_get (values_of fields column) at

abbrev pub answered_with : ℕ → Shown → Answered
answered_with most (shown.Number number) = record { jet = jet.Success; shown = Number number }
answered_with most (shown.Stored value) = value_answered most (bytes_at value.row.now value.column.0 value.at)

abbrev pub answered_or : ℕ → Result Shown Jet → Answered
answered_or most (Ok value) = answered_with most value
answered_or most (Err reply) = record { jet = reply; shown = Nothing }

-- the bytes have room in the reply buffer
abbrev pub HasRoom : Shown → Type 0
HasRoom (shown.Number number) = Unit {0}
HasRoom (shown.Stored value) = IfSome (bytes_at value.row.now value.column.0 value.at) (λ bytes. length bytes ≤ 1048576)
