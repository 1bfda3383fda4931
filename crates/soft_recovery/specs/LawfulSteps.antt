-- When a schema step may come next, and the call that names what it names.
use Rattle.std.specs.Prelude.{◌≡◌, ℕ, ◌==◌, Bool, true, false, not, ◌&&◌, List, [], map, find, Option, Some, None, IfSome, Ok, is_none, bytes_eq, option_map, option_and_then, unwrap_or, if◌then◌else◌}
use Rattle.std.specs.List.{list_any}
use Rattle.jet_base.specs.declared.ids.ColumnId.{ColumnId}
use Rattle.jet_base.specs.declared.ids.IndexId.{IndexId}
use Rattle.jet_base.specs.declared.words.ColumnFlags.{ColumnFlags}
use Rattle.column_set.specs.declared.columns.Column.{Column}
use Rattle.column_set.specs.RecordValues.{column_of_id, tagged_if_long}
use Rattle.index_derive.specs.declared.rules.Condition.{Condition}
use Rattle.index_derive.specs.declared.rules.IndexRule.{IndexRule}
use Rattle.index_derive.specs.declared.rules.Segment.{Segment}
use Rattle.index_derive.specs.declared.schema_calls.NamedCondition.{NamedCondition}
use Rattle.index_derive.specs.declared.schema_calls.NamedSegment.{NamedSegment}
use Rattle.index_derive.specs.declared.schema_calls.SchemaCall.{SchemaCall}
use Rattle.index_derive.specs.declared.schema_calls.SchemaCall.TheVariants as call
use Rattle.index_derive.specs.declared.schema_calls.SchemaStep.{SchemaStep}
use Rattle.index_derive.specs.declared.schema_calls.SchemaStep.TheVariants as step
use Rattle.database_state.specs.Lawful.{has_next_numbers, is_name}
use Rattle.database_state.specs.SchemaChanges.{has_column, rule_columns, schema_refusal, step_table}
use Rattle.database_state.specs.State.{DatabaseState}
use Rattle.database_state.specs.Table.{Table, table_with_id}
use Rattle.laws_versions.specs.History.{EachTwo}
use Rattle.laws_images.specs.SoundStates.{ColumnNamesDiffer, TableNamesDiffer}
use Rattle.engine_parts.specs.SchemaRequests.{schema_decision}

-- ---- what is asked of it

-- Nothing refuses it, and it carries the next free numbers.
abbrev pub is_lawful_step : DatabaseState → ℕ → SchemaStep → Bool
is_lawful_step state session made = is_none (schema_refusal state session made) && has_next_numbers state made

-- whether what it makes has a name of 1 to 64 bytes
abbrev pub makes_named : SchemaStep → Bool
makes_named (step.CreateTable table name) = is_name name
makes_named (step.DeleteTable table) = true
makes_named (step.AddColumn table column) = is_name column.name
makes_named (step.DeleteColumn table column) = true
makes_named (step.CreateIndex table rule) = is_name rule.name
makes_named (step.DeleteIndex table index) = true

-- ---- names of their own

-- no two indexes of a table have one name
abbrev pub IndexNamesDiffer : IndexRule → IndexRule → Type 0
IndexNamesDiffer one other = bytes_eq one.name other.name ≡ false

-- The columns and the indexes of a table have names of their own.
pub record HasOwnParts (table : Table) : Type 0 where
  pub columns : EachTwo ColumnNamesDiffer table.columns
  pub indexes : EachTwo IndexNamesDiffer table.indexes

-- Tables have names of their own, and so have the parts of each.
pub record HaveOwnNames (tables : List Table) : Type 0 where
  pub names : EachTwo TableNamesDiffer tables
  pub parts : (id : ℕ) → IfSome (table_with_id tables id) HasOwnParts

-- ---- the call that names what a step names

-- the flags with which a column is asked for
abbrev pub flags_of : Column → ColumnFlags
flags_of column = record { not_null = column.not_null; tagged = column.tagged; multi = column.multi; escrow = column.escrow; version = column.version; auto = column.auto }

-- the name of the column of a number, without a byte where there is none
abbrev pub column_name : List Column → ColumnId → List ℕ
column_name columns column = unwrap_or (option_map (λ c. c.name) (column_of_id columns column.0)) []

abbrev pub named_segment : List Column → Segment → NamedSegment
named_segment columns segment = record { column = column_name columns segment.column; descending = segment.descending }

abbrev pub named_condition : List Column → Condition → NamedCondition
named_condition columns condition = record { column = column_name columns condition.column; must_be_null = condition.must_be_null }

abbrev pub deleted_table_call : Table → SchemaCall
deleted_table_call table = call.DeleteTable table.name

abbrev pub column_call : Table → Column → SchemaCall
column_call table column = call.AddColumn table.name column.name column.kind (flags_of column)

abbrev pub deleted_column_call : Table → ColumnId → Option SchemaCall
deleted_column_call table column = option_map (λ c. call.DeleteColumn table.name c.name) (column_of_id table.columns column.0)

-- whether a column of the rule is not there
abbrev pub lacks_column : Table → IndexRule → Bool
lacks_column table rule = list_any (λ id. not (has_column table id)) (rule_columns rule)

abbrev pub index_call : Table → IndexRule → Option SchemaCall
index_call table rule =
    if lacks_column table rule then None
    else Some (call.CreateIndex table.name rule.name rule.flags rule.key_most (map (named_segment table.columns) rule.segments) (map (named_condition table.columns) rule.conditions))

abbrev pub deleted_index_call : Table → IndexId → Option SchemaCall
deleted_index_call table index = option_map (λ r. call.DeleteIndex table.name r.name) (find (λ r. r.id.0 == index.0) table.indexes)

-- the call on the table that was found
abbrev pub call_on : Option Table → SchemaStep → Option SchemaCall
call_on found (step.CreateTable id name) = Some (call.CreateTable name)
call_on found (step.DeleteTable id) = option_map deleted_table_call found
call_on found (step.AddColumn id column) = option_map (λ t. column_call t column) found
call_on found (step.DeleteColumn id column) = option_and_then (λ t. deleted_column_call t column) found
call_on found (step.CreateIndex id rule) = option_and_then (λ t. index_call t rule) found
call_on found (step.DeleteIndex id index) = option_and_then (λ t. deleted_index_call t index) found

-- The call, with the names of the table, the columns and the index that the step has by their numbers; none where one of them
-- is not there.
abbrev pub call_of : List Table → SchemaStep → Option SchemaCall
call_of tables made = call_on (step_table tables made) made

-- the step as its call asks for it: a long column is tagged, whether or not the log says so
abbrev pub as_asked : SchemaStep → SchemaStep
as_asked (step.CreateTable table name) = step.CreateTable table name
as_asked (step.DeleteTable table) = step.DeleteTable table
as_asked (step.AddColumn table column) = step.AddColumn table (tagged_if_long column)
as_asked (step.DeleteColumn table column) = step.DeleteColumn table column
as_asked (step.CreateIndex table rule) = step.CreateIndex table rule
as_asked (step.DeleteIndex table index) = step.DeleteIndex table index

-- The call asks for the step, and nothing refuses it.
abbrev pub AsksFor : DatabaseState → ℕ → SchemaCall → SchemaStep → Type 0
AsksFor state session called made = schema_decision state session called ≡ Ok (as_asked made)
