-- What a catalog holds of a database, and what a schema step does to it.
use Rattle.std.specs.Prelude.{ℕ, Bool, true, ◌&&◌, nat_lt, nat_le, List, [], ◌∷◌, map, IsTrue}
use Rattle.index_derive.specs.declared.schema_calls.SchemaStep.{SchemaStep}
use Rattle.index_derive.specs.declared.schema_calls.SchemaStep.TheVariants as step
use Rattle.database_state.specs.Table.{Table}
use Rattle.database_state.specs.State.{DatabaseState}
use Rattle.database_state.specs.SchemaChanges.{tables_after_step, greatest_table_after}

-- The greatest table id ever given, and the tables in the order of their making, each without its records.
pub record CatalogState : Type 0 where
  pub greatest_table : ℕ
  pub tables : List Table

-- ---- the catalog of a database

abbrev pub without_rows : Table → Table
without_rows table = record table { rows = [] }

abbrev pub catalog_of : DatabaseState → CatalogState
catalog_of state = record { greatest_table = state.greatest_table; tables = map without_rows state.tables }

-- a database with the catalog's tables, in which there is nothing else
abbrev pub database_of : CatalogState → DatabaseState
database_of catalog = record { number = 0; greatest_table = catalog.greatest_table; tables = catalog.tables; sessions = []; past = [] }

-- ---- numbers

-- whether the ids rise, from above the first number and to the second at most
abbrev pub ids_rise : ℕ → ℕ → List Table → Bool
ids_rise low high [] = nat_le low high
ids_rise low high (table ∷ tables) = nat_lt low table.id && ids_rise table.id high tables

-- Table ids rise from 1 in the order of making, and the greatest that was ever given is kept.
abbrev pub IsNumbered : CatalogState → Type 0
IsNumbered catalog = IsTrue (ids_rise 0 catalog.greatest_table catalog.tables)

-- ---- schema steps

abbrev pub catalog_after : CatalogState → SchemaStep → CatalogState
catalog_after catalog step = record {
  greatest_table = greatest_table_after catalog.greatest_table step;
  tables = tables_after_step catalog.tables step;
}

-- whether a new table has an id above all that were given before
abbrev pub has_new_id : CatalogState → SchemaStep → Bool
has_new_id catalog (step.CreateTable table name) = nat_lt catalog.greatest_table table.0
has_new_id catalog (step.DeleteTable table) = true
has_new_id catalog (step.AddColumn table column) = true
has_new_id catalog (step.DeleteColumn table column) = true
has_new_id catalog (step.CreateIndex table rule) = true
has_new_id catalog (step.DeleteIndex table index) = true
