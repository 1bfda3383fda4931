-- The step that a schema call asks for: names become numbers, and what is made carries the next free ones.
use Rattle.std.specs.Prelude.{ℕ, ◌+◌, ◌||◌, List, [], map, option_map, unwrap_or, bytes_eq, find}
use Rattle.jet_base.specs.declared.words.ColumnFlags.{ColumnFlags}
use Rattle.jet_base.specs.declared.words.ColType.{ColType}
use Rattle.jet_base.specs.TypeKinds.{is_long_type}
use Rattle.column_set.specs.declared.columns.Column.{Column}
use Rattle.column_set.specs.RecordValues.{column_named}
use Rattle.index_derive.specs.declared.rules.IndexRule.{IndexRule}
use Rattle.index_derive.specs.declared.rules.IndexFlags.{IndexFlags}
use Rattle.index_derive.specs.declared.rules.Segment.{Segment}
use Rattle.index_derive.specs.declared.rules.Condition.{Condition}
use Rattle.index_derive.specs.declared.schema_calls.NamedSegment.{NamedSegment}
use Rattle.index_derive.specs.declared.schema_calls.NamedCondition.{NamedCondition}
use Rattle.index_derive.specs.declared.schema_calls.SchemaCall.{SchemaCall}
use Rattle.index_derive.specs.declared.schema_calls.SchemaCall.TheVariants as call
use Rattle.index_derive.specs.declared.schema_calls.SchemaStep.{SchemaStep}
use Rattle.index_derive.specs.declared.schema_calls.SchemaStep.TheVariants as step
use Rattle.database_state.specs.Table.{Table, table_named}
use Rattle.database_state.specs.State.{DatabaseState}
use Rattle.database_state.specs.SchemaChanges.{new_table, next_column_id, next_index_id, greatest_order}

-- the table of a name, or one of the number 0, which no table has
abbrev pub table_or_none : DatabaseState → List ℕ → Table
table_or_none state name = unwrap_or (table_named state.tables name) (new_table 0 [])

-- the number of a column's name, or 0, which no column has
abbrev pub column_id_named : List Column → List ℕ → ℕ
column_id_named columns name = unwrap_or (option_map (λ c. c.id.0) (column_named columns name)) 0

abbrev pub index_id_named : List IndexRule → List ℕ → ℕ
index_id_named rules name = unwrap_or (option_map (λ r. r.id.0) (find (λ r. bytes_eq r.name name) rules)) 0

-- ---- the steps that the calls ask for, with the next free numbers

abbrev pub table_step : DatabaseState → List ℕ → SchemaStep
table_step state name = step.CreateTable (record { 0 = state.greatest_table + 1 }) name

abbrev pub deleted_table_step : DatabaseState → List ℕ → SchemaStep
deleted_table_step state name = step.DeleteTable (record { 0 = (table_or_none state name).id })

-- the column that a call asks for, with the next number of its kind. A long one is tagged, whatever was asked
abbrev pub asked_column : Table → List ℕ → ColType → ColumnFlags → Column
asked_column table name type flags =
    let tagged = flags.tagged || is_long_type type in
    record {
      id = record { 0 = next_column_id table.greatest type tagged };
      name = name;
      kind = type;
      tagged = tagged;
      multi = flags.multi;
      not_null = flags.not_null;
      escrow = flags.escrow;
      version = flags.version;
      auto = flags.auto;
    }

abbrev pub column_step : DatabaseState → List ℕ → List ℕ → ColType → ColumnFlags → SchemaStep
column_step state table name type flags =
    let t = table_or_none state table in
    step.AddColumn (record { 0 = t.id }) (asked_column t name type flags)

abbrev pub deleted_column_step : DatabaseState → List ℕ → List ℕ → SchemaStep
deleted_column_step state table name =
    let t = table_or_none state table in
    step.DeleteColumn (record { 0 = t.id }) (record { 0 = column_id_named t.columns name })

abbrev pub segment_of : List Column → NamedSegment → Segment
segment_of columns segment = record { column = record { 0 = column_id_named columns segment.column }; descending = segment.descending }

abbrev pub condition_of : List Column → NamedCondition → Condition
condition_of columns condition = record { column = record { 0 = column_id_named columns condition.column }; must_be_null = condition.must_be_null }

-- the index that a call asks for, with the next number and order of making
abbrev pub asked_index : Table → List ℕ → IndexFlags → ℕ → List NamedSegment → List NamedCondition → IndexRule
asked_index table name flags key_most segments conditions = record {
  id = record { 0 = next_index_id table.indexes };
  name = name;
  order = greatest_order table.indexes + 1;
  segments = map (segment_of table.columns) segments;
  flags = flags;
  conditions = map (condition_of table.columns) conditions;
  key_most = key_most;
}

abbrev pub index_step : DatabaseState → List ℕ → List ℕ → IndexFlags → ℕ → List NamedSegment → List NamedCondition → SchemaStep
index_step state table name flags key_most segments conditions =
    let t = table_or_none state table in
    step.CreateIndex (record { 0 = t.id }) (asked_index t name flags key_most segments conditions)

abbrev pub deleted_index_step : DatabaseState → List ℕ → List ℕ → SchemaStep
deleted_index_step state table name =
    let t = table_or_none state table in
    step.DeleteIndex (record { 0 = t.id }) (record { 0 = index_id_named t.indexes name })

-- the step of any schema call
abbrev pub step_of_call : DatabaseState → SchemaCall → SchemaStep
step_of_call state (call.CreateTable table) = table_step state table
step_of_call state (call.DeleteTable table) = deleted_table_step state table
step_of_call state (call.AddColumn table column kind flags) = column_step state table column kind flags
step_of_call state (call.DeleteColumn table column) = deleted_column_step state table column
step_of_call state (call.CreateIndex table index flags key_most segments conditions) = index_step state table index flags key_most segments conditions
step_of_call state (call.DeleteIndex table index) = deleted_index_step state table index

-- the name of the table of which a call speaks
abbrev pub called_name : SchemaCall → List ℕ
called_name (call.CreateTable table) = table
called_name (call.DeleteTable table) = table
called_name (call.AddColumn table column kind flags) = table
called_name (call.DeleteColumn table column) = table
called_name (call.CreateIndex table index flags key_most segments conditions) = table
called_name (call.DeleteIndex table index) = table
