-- The schema calls among the calls of a session, and what is asked of sessions and tables.
use Rattle.std.specs.Prelude.{◌≡◌, ℕ, ◌==◌, Bool, true, false, not, ◌&&◌, ◌||◌, [], ◌∷◌, map, Option, Some, None, Result, is_none, is_some}
use Rattle.jet_base.specs.declared.replies.Jet.{Jet}
use Rattle.jet_base.specs.declared.replies.Jet.TheVariants as jet
use Rattle.index_derive.specs.declared.entries.Place.TheVariants.{Before}
use Rattle.index_derive.specs.declared.schema_calls.SchemaCall.{SchemaCall}
use Rattle.index_derive.specs.declared.schema_calls.SchemaCall.TheVariants as schema
use Rattle.index_derive.specs.declared.schema_calls.SchemaStep.{SchemaStep}
use Rattle.index_derive.specs.Entries.{own_order}
use Rattle.cursor_nav.specs.Places.{entry_after}
use Rattle.column_set.specs.Refusals.{Refusals}
use Rattle.database_state.specs.Table.{Rows, Table, rows_of, table_named, table_with_id}
use Rattle.database_state.specs.SchemaChanges.{schema_refusal}
use Rattle.database_state.specs.SchemaSteps.{called_name, step_of_call}
use Rattle.database_state.specs.State.{DatabaseState}
use Rattle.jet_catalog.specs.Catalog.{CatalogState, database_of, without_rows}
use Rattle.jet_catalog.specs.Decisions.{decided, refused_or}
use Rattle.session_local.specs.BuiltTables.{is_built_limit}
use Rattle.session_local.specs.declared.request.Request.{Request}
use Rattle.session_local.specs.declared.request.Request.TheVariants as call
use Rattle.version_cleanup.specs.Cleaning.{reader_in}
use Rattle.version_cleanup.specs.LiveSessions.{has_other_transaction, levels_in}
use Rattle.laws_engine.specs.VersionedTables.{seen_tables}
use Rattle.session_local.specs.SchemaRequests.{schema_call_of}
use Rattle.laws_engine.specs.EngineState.{EngineState, has_table_open}
use Rattle.laws_engine.specs.HoldsState.{HoldsState}

-- the schema calls that go over no record: those that make no index
abbrev pub is_schema_request : Request → Bool
is_schema_request (call.CreateIndex table index flags key_most segments conditions) = false
is_schema_request request = is_some (schema_call_of request)

-- whether the call makes a table, and so needs none
abbrev pub makes_new : SchemaCall → Bool
makes_new (schema.CreateTable table) = true
makes_new (schema.DeleteTable table) = false
makes_new (schema.AddColumn table column kind flags) = false
makes_new (schema.DeleteColumn table column) = false
makes_new (schema.CreateIndex table index flags key_most segments conditions) = false
makes_new (schema.DeleteIndex table index) = false

-- ---- what is asked of the engine

-- the tables without their records
abbrev pub catalog_in : EngineState → CatalogState
catalog_in engine = record { greatest_table = engine.greatest_table; tables = map without_rows engine.store.tables }

abbrev pub engine_table : EngineState → SchemaCall → Option Table
engine_table engine called = table_named (map without_rows engine.store.tables) (called_name called)

-- whether the call needs a table that was not found
abbrev pub is_missing : SchemaCall → Option Table → Bool
is_missing called found = not (makes_new called) && is_none found

-- whether another session is in a transaction, or any has the table open
abbrev pub is_used : EngineState → ℕ → Option Table → Bool
is_used engine session found = has_other_transaction session engine.sessions || has_table_open engine.sessions found

-- the records of a table that the session sees
abbrev pub rows_for : EngineState → ℕ → ℕ → Rows
rows_for engine session table = rows_of (table_with_id (seen_tables (reader_in session engine.sessions) engine.store) table)

-- whether a table that was found has a record
abbrev pub has_rows_in : EngineState → ℕ → Option Table → Bool
has_rows_in engine session None = false
has_rows_in engine session (Some table) = is_some (entry_after Before (own_order (rows_for engine session table.id)))

-- the refusals because of what sessions do, and of a table that is not there
abbrev pub sessions_in : EngineState → ℕ → SchemaCall → Refusals
sessions_in engine session called =
    (not (levels_in session engine.sessions == 0), jet.InTransaction)
    ∷ (is_missing called (engine_table engine called), jet.ObjectNotFound)
    ∷ (is_used engine session (engine_table engine called), jet.TableInUse) ∷ []

-- what the catalog decides
abbrev pub decided_in : EngineState → ℕ → SchemaCall → Result SchemaStep Jet
decided_in engine session called = decided (database_of (catalog_in engine)) (has_rows_in engine session (engine_table engine called)) called

-- ---- what is decided in a state

-- the step that a call asks for, or why it is refused
abbrev pub schema_decision : DatabaseState → ℕ → SchemaCall → Result SchemaStep Jet
schema_decision state session called = refused_or (schema_refusal state session (step_of_call state called)) (step_of_call state called)

-- the same in every state that the engine holds
abbrev pub IsDecided : EngineState → ℕ → SchemaCall → Result SchemaStep Jet → Type 0
IsDecided engine session called decision = (state : DatabaseState) → HoldsState engine state → decision ≡ schema_decision state session called

-- whether the keys of an index that a call makes are built: of at most 255 bytes
abbrev pub has_built_keys : SchemaCall → Bool
has_built_keys (schema.CreateTable table) = true
has_built_keys (schema.DeleteTable table) = true
has_built_keys (schema.AddColumn table column kind flags) = true
has_built_keys (schema.DeleteColumn table column) = true
has_built_keys (schema.CreateIndex table index flags key_most segments conditions) = is_built_limit key_most
has_built_keys (schema.DeleteIndex table index) = true
