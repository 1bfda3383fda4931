-- What names, numbers and limits decide of a schema call.
use Rattle.std.specs.Prelude.{ℕ, ◌==◌, Bool, true, not, ◌&&◌, List, [], ◌∷◌, Option, Some, None, Result, Ok, Err, is_none, unwrap_or}
use Rattle.jet_base.specs.declared.ids.ColumnId.{ColumnId}
use Rattle.jet_base.specs.declared.replies.Jet.{Jet}
use Rattle.jet_base.specs.declared.replies.Jet.TheVariants as jet
use Rattle.index_derive.specs.declared.schema_calls.SchemaCall.{SchemaCall}
use Rattle.index_derive.specs.declared.schema_calls.SchemaCall.TheVariants as call
use Rattle.index_derive.specs.declared.schema_calls.SchemaStep.{SchemaStep}
use Rattle.index_derive.specs.Entries.{is_escrow_column}
use Rattle.database_state.specs.Table.{Table, table_named, schema_of}
use Rattle.database_state.specs.State.{DatabaseState, levels}
use Rattle.column_set.specs.Refusals.{Refusals, first_refusal}
use Rattle.database_state.specs.SchemaChanges.{new_table, makes_table, schema_refusals, record_refusals, is_in_use}
use Rattle.database_state.specs.Lawful.{is_name}
use Rattle.database_state.specs.SchemaSteps.{step_of_call, called_name, column_id_named}

-- the first refusal that holds, or else the value
abbrev pub refused_or : {X : Type 0} → Option Jet → X → Result X Jet
refused_or (Some refusal) value = Err refusal
refused_or None value = Ok value

abbrev pub answer : {X : Type 0} → Refusals → X → Result X Jet
answer refusals value = refused_or (first_refusal refusals) value

-- the table that a call names
abbrev pub called_table : DatabaseState → SchemaCall → Option Table
called_table state call = table_named state.tables (called_name call)

-- the column of a table that a call names, 0 where the table has none
abbrev pub named_column : Table → List ℕ → ColumnId
named_column table name = record { 0 = column_id_named table.columns name }

-- whether the table's column of that number is a sum
unfoldable pub is_sum : Table → ℕ → Bool
is_sum table id = is_escrow_column (schema_of table) id

-- the refusals of a call, given whether its table holds records
abbrev pub call_refusals : DatabaseState → Bool → SchemaCall → Refusals
call_refusals state holds_records call =
    let step = step_of_call state call in
    (not (makes_table step) && is_none (called_table state call), jet.ObjectNotFound)
    ∷ schema_refusals state holds_records (unwrap_or (called_table state call) (new_table 0 [])) step

-- The step that a call asks for, or why it is refused, given whether its table holds records. What goes over the records
-- is not asked.
unfoldable pub decided : DatabaseState → Bool → SchemaCall → Result SchemaStep Jet
decided state holds_records call = answer (call_refusals state holds_records call) (step_of_call state call)

-- ---- all refusals of a call by a session

-- those that are asked before it is decided: the session is in a transaction, the table is not there, or it is in use
abbrev pub session_refusals : DatabaseState → ℕ → SchemaCall → Refusals
session_refusals state session call =
    let table = called_table state call in
    (not (levels state session == 0), jet.InTransaction)
    ∷ (not (makes_table (step_of_call state call)) && is_none table, jet.ObjectNotFound)
    ∷ (is_in_use state session table, jet.TableInUse) ∷ []

-- the refusal of what was decided, or else that of the table's records
abbrev pub refusal_after : Result SchemaStep Jet → Table → Option Jet
refusal_after (Err refusal) table = Some refusal
refusal_after (Ok step) table = first_refusal (record_refusals table step)

-- the table that a call names, or one without a record
abbrev pub table_or_new : DatabaseState → SchemaCall → Table
table_or_new state call = unwrap_or (called_table state call) (new_table 0 [])

-- whether what a call makes has a name of 1 to 64 bytes
abbrev pub makes_named : SchemaCall → Bool
makes_named (call.CreateTable table) = is_name table
makes_named (call.DeleteTable table) = true
makes_named (call.AddColumn table column kind flags) = is_name column
makes_named (call.DeleteColumn table column) = true
makes_named (call.CreateIndex table index flags key_most segments conditions) = is_name index
makes_named (call.DeleteIndex table index) = true
