-- The catalog that the nodes beside the tables show, and what its schema steps ask of a new table, column or index.
use Rattle.std.specs.Prelude.{◌≡◌, ℕ, ◌<◌, true, false, Some, List}
use Rattle.jet_base.specs.declared.ids.TableId.{TableId}
use Rattle.column_set.specs.declared.columns.Column.{Column}
use Rattle.index_derive.specs.declared.rules.IndexRule.{IndexRule}
use Rattle.index_derive.specs.declared.schema_calls.SchemaStep.{SchemaStep}
use Rattle.database_state.specs.SchemaChanges.{has_column, with_column}
use Rattle.database_state.specs.Table.{GreatestColumns, Table, table_with_id}
use Rattle.jet_catalog.specs.Catalog.{CatalogState, IsNumbered, catalog_after}
use Rattle.log_grammar.specs.EntryBytes.{column_fits, index_fits, name_fits}
use Rattle.catalog_grammar.specs.CatalogSteps.{has_index, has_nodes, nodes_of_catalog}
use Rattle.table_trees.specs.StoredTrees.{StoredCatalog, roots_by_number}

-- The nodes are those of a catalog, each with the roots of the trees that stand, and each of them can be written.
pub record ShowsCatalog (stored : StoredCatalog) (catalog : CatalogState) : Type 0 where
  pub nodes : stored.nodes ≡ nodes_of_catalog (roots_by_number stored.roots) catalog
  pub writable : has_nodes (roots_by_number stored.roots) catalog ≡ true

-- They are those of a catalog after a step, which may be taken back: those before it can be written, too.
pub record ShowsStep (stored : StoredCatalog) (catalog : CatalogState) (made : SchemaStep) : Type 0 where
  pub after : ShowsCatalog stored (catalog_after catalog made)
  pub before : has_nodes (roots_by_number stored.roots) catalog ≡ true

-- ---- what a step asks of the catalog

-- A new table has a number above all that were given, and a name that can be written.
pub record IsNewTable (catalog : CatalogState) (table : TableId) (name : List ℕ) : Type 0 where
  pub numbered : IsNumbered catalog
  pub new : catalog.greatest_table < table.0
  pub fits : name_fits name ≡ true

-- A new column of a table has a number of its own, from 1, and can be written. The table has these greatest columns with it.
pub record IsNewColumn (catalog : CatalogState) (t : Table) (column : Column) (greatest : GreatestColumns) : Type 0 where
  pub there : table_with_id catalog.tables t.id ≡ Some t
  pub new : has_column t column.id.0 ≡ false
  pub number : 0 < column.id.0
  pub fits : column_fits column ≡ true
  pub greatest_is : (with_column column t).greatest ≡ greatest

-- A new index of a table has a number of its own, from 1, and can be written.
pub record IsNewIndex (catalog : CatalogState) (table : TableId) (rule : IndexRule) : Type 0 where
  pub t : Table
  pub there : table_with_id catalog.tables table.0 ≡ Some t
  pub new : has_index t rule.id.0 ≡ false
  pub number : 0 < rule.id.0
  pub fits : index_fits rule ≡ true
