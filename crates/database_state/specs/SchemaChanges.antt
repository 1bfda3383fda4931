-- What a schema step does to the committed tables, and why one is refused.
use Rattle.std.specs.Prelude.{ℕ, ◌+◌, ◌==◌, Bool, true, false, not, ◌&&◌, ◌||◌, nat_lt, nat_le, max, length, List, [], ◌∷◌, ◌++◌, map, filter, fold, Option, Some, None, unwrap_or, is_some, is_none, if◌then◌else◌, bytes_eq}
use Rattle.std.specs.List.{list_any, list_all}
use Rattle.jet_base.specs.declared.replies.Jet.{Jet}
use Rattle.jet_base.specs.declared.replies.Jet.TheVariants as jet
use Rattle.jet_base.specs.declared.words.ColType.{ColType}
use Rattle.jet_base.specs.declared.words.ColType.TheVariants as kind
use Rattle.jet_base.specs.TypeKinds.{is_long_type, is_variable_type}
use Rattle.column_set.specs.declared.columns.Column.{Column}
use Rattle.column_set.specs.RecordValues.{tagged_if_long, with_values}
use Rattle.index_derive.specs.declared.rules.IndexRule.{IndexRule}
use Rattle.index_derive.specs.declared.schema_calls.SchemaStep.{SchemaStep}
use Rattle.index_derive.specs.declared.schema_calls.SchemaStep.TheVariants as step
use Rattle.index_derive.specs.Entries.{is_legal, is_unique, is_escrow_column, entries, has_double_key, column_is_used, key_columns, condition_columns}
use Rattle.database_state.specs.Table.{Table, GreatestColumns, primary_first, schema_of, table_with_id, table_named, with_table}
use Rattle.database_state.specs.State.{DatabaseState, levels}
use Rattle.column_set.specs.Refusals.{Refusals, first_refusal}
use Rattle.database_state.specs.Puts.{is_null_refusal, is_cut_refusal}
use Rattle.jet_base.specs.declared.ids.ColumnId.{ColumnId}

-- ---- what it does

abbrev pub new_table : ℕ → List ℕ → Table
new_table id name = record { id = id; name = name; columns = []; indexes = []; greatest = record { fixed = 0; variable = 127; tagged = 255 }; rows = [] }

-- the greatest ids with this column's among them: fixed columns are 1 to 127, variable ones 128 to 255, tagged ones above
abbrev pub with_column_id : GreatestColumns → ℕ → GreatestColumns
with_column_id greatest id =
    if nat_le id 127 then record greatest { fixed = max greatest.fixed id }
    else if nat_le id 255 then record greatest { variable = max greatest.variable id }
    else record greatest { tagged = max greatest.tagged id }

-- Columns stand by rising id: a new one comes before those that all have greater ids.
abbrev pub columns_with : Column → List Column → List Column
columns_with column [] = column ∷ []
columns_with column (other ∷ columns) =
    if list_all (λ c. nat_lt column.id.0 c.id.0) (other ∷ columns) then column ∷ other ∷ columns else other ∷ columns_with column columns

abbrev pub with_column : Column → Table → Table
with_column column table = record table { columns = columns_with column table.columns; greatest = with_column_id table.greatest column.id.0 }

-- a deleted column's values go from each record
abbrev pub without_column : ℕ → Table → Table
without_column column table = record table {
  columns = filter (λ c. not (c.id.0 == column)) table.columns;
  rows = map (λ row. (row.0, with_values row.1 column [])) table.rows;
}

abbrev pub with_index : IndexRule → Table → Table
with_index made table = record table { indexes = table.indexes ++ made ∷ [] }

abbrev pub without_index : ℕ → Table → Table
without_index index table = record table { indexes = filter (λ made. not (made.id.0 == index)) table.indexes }

-- a column comes as a table has it, whether or not the step says that a long one is tagged
abbrev pub tables_after_step : List Table → SchemaStep → List Table
tables_after_step tables (step.CreateTable table name) = tables ++ new_table table.0 name ∷ []
tables_after_step tables (step.DeleteTable table) = filter (λ t. not (t.id == table.0)) tables
tables_after_step tables (step.AddColumn table column) = with_table table.0 (with_column (tagged_if_long column)) tables
tables_after_step tables (step.DeleteColumn table column) = with_table table.0 (without_column column.0) tables
tables_after_step tables (step.CreateIndex table rule) = with_table table.0 (with_index rule) tables
tables_after_step tables (step.DeleteIndex table index) = with_table table.0 (without_index index.0) tables

abbrev pub greatest_table_after : ℕ → SchemaStep → ℕ
greatest_table_after greatest (step.CreateTable table name) = table.0
greatest_table_after greatest (step.DeleteTable table) = greatest
greatest_table_after greatest (step.AddColumn table column) = greatest
greatest_table_after greatest (step.DeleteColumn table column) = greatest
greatest_table_after greatest (step.CreateIndex table rule) = greatest
greatest_table_after greatest (step.DeleteIndex table index) = greatest

-- ---- the next free numbers

-- tagged where it is asked for or the type is long, else variable or fixed by the type
abbrev pub next_column_id : GreatestColumns → ColType → Bool → ℕ
next_column_id greatest type tagged =
    if tagged || is_long_type type then greatest.tagged + 1
    else if is_variable_type type then greatest.variable + 1
    else greatest.fixed + 1

-- whether a kind has this id: the 128th fixed column of a table, ever, finds none
abbrev pub has_column_id : ColType → Bool → ℕ → Bool
has_column_id type tagged id =
    if tagged || is_long_type type then nat_le id 511
    else if is_variable_type type then nat_le id 255
    else nat_le id 127

-- the least number from this one on that no index has, tried once per index and once more
abbrev pub least_free_id : List IndexRule → List IndexRule → ℕ → ℕ
least_free_id indexes [] id = id
least_free_id indexes (made ∷ rest) id = least_free_id indexes rest (if list_any (λ m. m.id.0 == id) indexes then id + 1 else id)

abbrev pub next_index_id : List IndexRule → ℕ
next_index_id indexes = least_free_id indexes indexes 1

abbrev pub greatest_order : List IndexRule → ℕ
greatest_order indexes = fold (λ greatest made. max greatest made.order) 0 indexes

-- ---- why it is refused

-- whether another session is in a transaction, or any session has a cursor open on the table
abbrev pub is_in_use : DatabaseState → ℕ → Option Table → Bool
is_in_use state session table = list_any (λ s. not (s.label == session) && is_some s.transaction) state.sessions || has_cursor_open table
  where
    has_cursor_open : Option Table → Bool
    has_cursor_open None = false
    has_cursor_open (Some t) = list_any (λ s. list_any (λ id. id == t.id) s.open_tables) state.sessions

-- the table that a step names, with no record and no column where there is none
abbrev pub step_table : List Table → SchemaStep → Option Table
step_table tables (step.CreateTable table name) = table_named tables name
step_table tables (step.DeleteTable table) = table_with_id tables table.0
step_table tables (step.AddColumn table column) = table_with_id tables table.0
step_table tables (step.DeleteColumn table column) = table_with_id tables table.0
step_table tables (step.CreateIndex table rule) = table_with_id tables table.0
step_table tables (step.DeleteIndex table index) = table_with_id tables table.0

abbrev pub makes_table : SchemaStep → Bool
makes_table (step.CreateTable table name) = true
makes_table (step.DeleteTable table) = false
makes_table (step.AddColumn table column) = false
makes_table (step.DeleteColumn table column) = false
makes_table (step.CreateIndex table rule) = false
makes_table (step.DeleteIndex table index) = false

abbrev pub is_long_column : Column → Bool
is_long_column column = is_long_type column.kind

abbrev pub is_type_long : ColType → Bool
is_type_long kind.Long = true
is_type_long _ = false

abbrev pub has_column : Table → ℕ → Bool
has_column table id = list_any (λ c. c.id.0 == id) table.columns

abbrev pub rule_columns : IndexRule → List ℕ
rule_columns rule = key_columns rule ++ condition_columns rule

abbrev pub has_records : Table → Bool
has_records table = nat_lt 0 (length table.rows)

abbrev pub table_refusals : DatabaseState → List ℕ → Refusals
table_refusals state name =
    (is_some (table_named state.tables name), jet.TableDuplicate)
    ∷ (nat_le 64 (length state.tables) || nat_le 4294967295 state.greatest_table, jet.OutOfObjectIDs) ∷ []

abbrev pub column_refusals : Bool → Table → Column → Refusals
column_refusals holds_records table column =
    (list_any (λ c. bytes_eq c.name column.name) table.columns, jet.ColumnDuplicate)
    ∷ (column.multi && not (column.tagged || is_long_column column), jet.MultiValuedColumnMustBeTagged)
    ∷ (column.escrow && (not (is_type_long column.kind) || column.tagged || column.multi), jet.InvalidColumnType)
    ∷ (column.escrow && holds_records, jet.TableNotEmpty)
    ∷ (not (has_column_id column.kind column.tagged (next_column_id table.greatest column.kind column.tagged)), jet.TooManyColumns) ∷ []

abbrev pub deleted_column_refusals : Table → ColumnId → Refusals
deleted_column_refusals table column =
    (not (has_column table column.0), jet.ColumnNotFound)
    ∷ (column_is_used column (primary_first table.indexes), jet.ColumnInUse) ∷ []

abbrev pub index_number_refusals : Table → List ℕ → Refusals
index_number_refusals table name =
    (list_any (λ made. bytes_eq made.name name) table.indexes, jet.IndexDuplicate)
    ∷ (nat_le 64 (length table.indexes) || nat_le 4294967295 (greatest_order table.indexes), jet.TooManyIndexes) ∷ []

abbrev pub index_rule_refusals : Bool → Table → IndexRule → Refusals
index_rule_refusals holds_records table rule =
    (rule.flags.primary && list_any (λ made. made.flags.primary) table.indexes, jet.IndexHasPrimary)
    ∷ (rule.flags.primary && holds_records, jet.TableNotEmpty)
    ∷ (list_any (λ id. not (has_column table id)) (rule_columns rule), jet.ColumnNotFound)
    ∷ (list_any (is_escrow_column (schema_of table)) (rule_columns rule), jet.CannotIndex)
    ∷ (not (is_legal rule (schema_of table)), jet.IndexInvalidDef) ∷ []

abbrev pub index_refusals : Bool → Table → IndexRule → Refusals
index_refusals holds_records table rule = index_number_refusals table rule.name ++ index_rule_refusals holds_records table rule

abbrev pub deleted_index_refusals : Table → ℕ → Refusals
deleted_index_refusals table index =
    (not (list_any (λ made. made.id.0 == index) table.indexes), jet.IndexNotFound)
    ∷ (list_any (λ made. (made.id.0 == index) && made.flags.primary) table.indexes, jet.IndexMustStay) ∷ []

-- those that names, numbers and limits decide, given whether the table holds records
abbrev pub schema_refusals : DatabaseState → Bool → Table → SchemaStep → Refusals
schema_refusals state holds_records table (step.CreateTable id name) = table_refusals state name
schema_refusals state holds_records table (step.DeleteTable id) = []
schema_refusals state holds_records table (step.AddColumn id column) = column_refusals holds_records table column
schema_refusals state holds_records table (step.DeleteColumn id column) = deleted_column_refusals table column
schema_refusals state holds_records table (step.CreateIndex id rule) = index_refusals holds_records table rule
schema_refusals state holds_records table (step.DeleteIndex id index) = deleted_index_refusals table index.0

-- those of a new index that go over the records
abbrev pub record_refusals : Table → SchemaStep → Refusals
record_refusals table (step.CreateTable id name) = []
record_refusals table (step.DeleteTable id) = []
record_refusals table (step.AddColumn id column) = []
record_refusals table (step.DeleteColumn id column) = []
record_refusals table (step.CreateIndex id rule) =
    (list_any (λ row. is_null_refusal (entries rule (schema_of table) row.1)) table.rows, jet.NullKeyDisallowed)
    ∷ (list_any (λ row. is_cut_refusal (entries rule (schema_of table) row.1)) table.rows, jet.KeyTruncated)
    ∷ (is_unique rule && has_double_key rule (schema_of table) table.rows, jet.KeyDuplicate) ∷ []
record_refusals table (step.DeleteIndex id index) = []

abbrev pub step_refusals : DatabaseState → Table → SchemaStep → Refusals
step_refusals state table step = schema_refusals state (has_records table) table step ++ record_refusals table step

-- The refusals of a schema step by a session. A column or an index that the call named and the table has not stands in
-- the step with the number 0, which none has.
unfoldable pub schema_refusal : DatabaseState → ℕ → SchemaStep → Option Jet
schema_refusal state session step =
    let table = step_table state.tables step in
    first_refusal
    ((not (levels state session == 0), jet.InTransaction)
    ∷ (not (makes_table step) && is_none table, jet.ObjectNotFound)
    ∷ (is_in_use state session table, jet.TableInUse)
    ∷ step_refusals state (unwrap_or table (new_table 0 [])) step)
