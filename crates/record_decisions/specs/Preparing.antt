-- Why the engine refuses to prepare a replace or a copy of a record, and what is prepared, by what it holds.
use Rattle.std.specs.Prelude.{◌≡◌, ◌==◌, ℕ, true, ◌++◌, List, Some, IfSome, IsTrue, is_some, map, if◌then◌else◌}
use Rattle.std.specs.List.{list_all}
use Rattle.column_set.specs.declared.columns.Column.{Column}
use Rattle.column_set.specs.Record.{is_record}
use Rattle.column_set.specs.RecordValues.{RecordFields, column_of_id, values_of}
use Rattle.column_set.specs.Refusals.{Refusals}
use Rattle.session_local.specs.declared.prepared.Prepared.{Prepared}
use Rattle.session_local.specs.Local.{LocalState, OpenCursor, PreparedUpdate, inserting, replacing}
use Rattle.session_local.specs.Preparing.{update_of}
use Rattle.session_local.specs.RecordCalls.{bookmark_at, hold_at, prepared_refusals, with_sums_at_zero}
use Rattle.session_local.specs.SessionSide.{are_distinct}
use Rattle.session_local.specs.WellFormed.{number_of_column}
use Rattle.laws_engine.specs.EngineState.{EngineState}
use Rattle.engine_parts.specs.Reading.{IsRowAt, fields_at, shown_for}
use Rattle.record_decisions.specs.Changing.{change_in, current_in, outside_in, own_in}

-- ---- what is prepared

-- the record that the session sees under the cursor, with no value where there is none
abbrev pub values_seen : EngineState → ℕ → OpenCursor → RecordFields
values_seen engine session c = fields_at engine session c

abbrev pub replace_of : EngineState → ℕ → OpenCursor → PreparedUpdate
replace_of engine session c = record { for = replacing (bookmark_at c); values = values_seen engine session c }

-- The sums of an insert that is copied from the record begin at 0.
abbrev pub copy_of : EngineState → ℕ → OpenCursor → PreparedUpdate
copy_of engine session c = record { for = inserting (Some (bookmark_at c)); values = with_sums_at_zero c.schema.columns (values_seen engine session c) }

-- the update, with the columns of its table
abbrev pub IsPreparedAs : OpenCursor → PreparedUpdate → Prepared → Type 0
IsPreparedAs c update prepared = (update_of prepared ≡ update) × (prepared.buffer.columns ≡ c.schema.columns)

-- ---- why it is not

-- A replace locks its record against the writes of others.
abbrev pub replace_in : EngineState → ℕ → LocalState → OpenCursor → Refusals
replace_in engine session local c =
    prepared_refusals c ++ outside_in engine session ++ current_in engine session c ++ own_in local c ++ change_in engine session (hold_at c)

abbrev pub copy_in : EngineState → ℕ → OpenCursor → Refusals
copy_in engine session c = prepared_refusals c ++ current_in engine session c

-- ---- records that are copied column by column

-- the columns of a record that a session is shown rise, and each has a value
abbrev pub HasFormedRecords : EngineState → Type 0
HasFormedRecords engine = (session table : ℕ) (bookmark : List ℕ) → IfSome (shown_for engine session table bookmark) (λ fields. IsTrue (is_record fields))

-- What is asked of the record: its columns rise and have values, and each is a column of the table. No two columns of the table
-- have one number.
pub record IsCopied (columns : List Column) (fields : RecordFields) : Type 0 where
  pub formed : IsTrue (is_record fields)
  pub named : IsTrue (list_all (λ field. is_some (column_of_id columns field.0)) fields)
  pub distinct : are_distinct (map number_of_column columns) ≡ true

-- The record that is shown is copied column by column, and tells of the record that the session sees, whose columns rise and have values too.
pub record IsCopiedAs (engine : EngineState) (session : ℕ) (c : OpenCursor) (row : RecordFields) : Type 0 where
  pub copied : IsCopied c.schema.columns row
  pub seen : IsRowAt engine session c row
  pub formed : is_record (values_seen engine session c) ≡ true

-- the values of a column once those of one more were put behind
abbrev pub values_with : RecordFields → RecordFields → ℕ → ℕ → List (List ℕ)
values_with made fields column number = if number == column then values_of made number ++ values_of fields number else values_of made number
