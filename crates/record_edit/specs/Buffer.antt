-- What a copy buffer holds.
use Rattle.std.specs.Prelude.{ℕ, ◌-◌, ◌==◌, List, Option, None, slice_get, if◌then◌else◌}
use Rattle.column_set.specs.declared.columns.Column.{Column}
use Rattle.column_set.specs.RecordValues.{RecordFields, values_of}

-- the columns of the table, and the values of the record
pub record Buffer : Type 0 where
  pub columns : List Column
  pub fields : RecordFields

-- the value of a column by its sequence, which is counted from 1
abbrev pub value_at : RecordFields → ℕ → ℕ → Option (List ℕ)
value_at fields column sequence = if sequence == 0 then None else slice_get (values_of fields column) (sequence - 1)
