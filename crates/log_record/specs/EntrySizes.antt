-- How many bytes entries and their fields have.
use Rattle.std.specs.Prelude.{ℕ, ◌+◌, ◌*◌, Bool, List, length, sum_by, Option, Some, None}
use Rattle.std.specs.List.{list_all}
use Rattle.column_set.specs.declared.changes.Change.{Change}
use Rattle.column_set.specs.declared.changes.Change.TheVariants as change
use Rattle.column_set.specs.declared.columns.Column.{Column}
use Rattle.column_set.specs.RecordValues.{RecordFields}
use Rattle.index_derive.specs.declared.log.EntryKind.{EntryKind}
use Rattle.index_derive.specs.declared.log.EntryKind.TheVariants as kind
use Rattle.index_derive.specs.declared.rules.IndexRule.{IndexRule}
use Rattle.index_derive.specs.declared.schema_calls.SchemaStep.{SchemaStep}
use Rattle.index_derive.specs.declared.schema_calls.SchemaStep.TheVariants as schema
use Rattle.log_grammar.specs.EntryBytes.{value_fits}

-- of one column: each value has its column and its length before it
abbrev pub size_of_values : List (List ℕ) → ℕ
size_of_values values = sum_by (λ value. 6 + length value) values

abbrev pub size_of_fields : RecordFields → ℕ
size_of_fields fields = sum_by (λ field. size_of_values field.1) fields

-- whether the values of one column can be written
abbrev pub field_fits : ℕ × List (List ℕ) → Bool
field_fits field = list_all (λ value. value_fits (field.0, value)) field.1

-- ---- changes of records

abbrev pub size_of_bookmark : List ℕ → ℕ
size_of_bookmark bookmark = 2 + length bookmark

abbrev pub size_of_copied : Option (List ℕ) → ℕ
size_of_copied None = 1
size_of_copied (Some bookmark) = 1 + size_of_bookmark bookmark

abbrev pub size_of_change : Change → ℕ
size_of_change (change.Put table bookmark copied values) = 4 + (size_of_bookmark bookmark + (size_of_copied copied + (2 + size_of_fields values)))
size_of_change (change.Drop table bookmark) = 4 + size_of_bookmark bookmark
size_of_change (change.Add table bookmark column amount) = 4 + (size_of_bookmark bookmark + 6)
size_of_change (change.Hold table bookmark) = 4 + size_of_bookmark bookmark

-- ---- schema changes

abbrev pub size_of_name : List ℕ → ℕ
size_of_name name = 1 + length name

abbrev pub size_of_column : Column → ℕ
size_of_column column = 2 + size_of_name column.name

abbrev pub size_of_index : IndexRule → ℕ
size_of_index index = 10 + ((1 + 3 * length index.segments) + ((1 + 3 * length index.conditions) + size_of_name index.name))

abbrev pub size_of_schema : SchemaStep → ℕ
size_of_schema (schema.CreateTable table name) = 4 + size_of_name name
size_of_schema (schema.DeleteTable table) = 4
size_of_schema (schema.AddColumn table column) = 6 + size_of_column column
size_of_schema (schema.DeleteColumn table column) = 6
size_of_schema (schema.CreateIndex table index) = 6 + size_of_index index
size_of_schema (schema.DeleteIndex table index) = 6

-- ---- entries

-- the fields of an entry
abbrev pub size_of_kind : EntryKind → ℕ
size_of_kind kind.Enter = 0
size_of_kind kind.Leave = 0
size_of_kind (kind.Open table) = 4
size_of_kind (kind.Shut table) = 4
size_of_kind kind.Begin = 0
size_of_kind kind.Save = 0
size_of_kind (kind.Change change) = size_of_change change
size_of_kind kind.Release = 0
size_of_kind kind.Undo = 0
size_of_kind kind.UndoAll = 0
size_of_kind kind.Commit = 0
size_of_kind (kind.Schema step) = 1 + size_of_schema step
