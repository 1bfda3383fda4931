-- Schema steps of the store: what is asked of one, and what it leaves.
use Rattle.std.specs.Prelude.{◌≡◌, ℕ, ◌==◌, ◌<◌, ◌≤◌, true, false, List, [], IfSome, IsSomeAnd, is_some}
use Rattle.std.specs.List.{list_all, list_any}
use Rattle.column_set.specs.declared.columns.Column.{Column}
use Rattle.column_set.specs.RecordValues.{is_kept_column}
use Rattle.database_state.specs.Puts.{is_cut_refusal, is_null_refusal}
use Rattle.database_state.specs.SchemaChanges.{greatest_table_after, has_column, rule_columns}
use Rattle.database_state.specs.Table.{Table, schema_of, table_with_id}
use Rattle.index_derive.specs.declared.rules.IndexRule.{IndexRule}
use Rattle.index_derive.specs.Entries.{column_is_used, entries, is_legal}
use Rattle.index_derive.specs.declared.schema_calls.SchemaStep.{SchemaStep}
use Rattle.index_derive.specs.declared.schema_calls.SchemaStep.TheVariants as step
use Rattle.jet_catalog.specs.Catalog.{CatalogState}
use Rattle.log_grammar.specs.EntryBytes.{column_fits, index_fits, name_fits}
use Rattle.table_trees.specs.StoredTables.{StoredTable}
use Rattle.laws_engine.specs.VersionedTables.{with_schema_step}
use Rattle.stored_variants.specs.CountedValues.{AreCounted, BringsNoValue}
use Rattle.stored_variants.specs.StoredVersions.{StoredVersions}
use Rattle.stored_variants.specs.VersionsKept.{AreKept, secondary_rule}
use Rattle.stored_variants.specs.VersionsView.{stored_versions}

-- the store after a step
abbrev pub after_step : SchemaStep → StoredVersions → StoredVersions
after_step made store = record store {
  greatest_table = greatest_table_after store.greatest_table made;
  store = with_schema_step made store.store;
}

-- A column of which every record has a value comes only to a table without records.
abbrev pub TakesColumn : Column → Table → Type 0
TakesColumn column table = is_kept_column column ≡ true → table.rows ≡ []

-- A new column of a table has a number of its own, from 1, and can be written.
pub record IsColumnFor (column : Column) (table : Table) : Type 0 where
  pub new : has_column table column.id.0 ≡ false
  pub positive : 0 < column.id.0
  pub fits : column_fits column ≡ true

-- What a primary index asks of its table: that there is no other, and no record.
pub record IsFirstPrimary (table : Table) : Type 0 where
  pub first : list_any (λ made. made.flags.primary) table.indexes ≡ false
  pub empty : table.rows ≡ []

-- A new index of a table has a number of its own, from 1, is legal and of the table's columns, has keys of 255 bytes at most,
-- can be written, and refuses no record.
pub record IsIndexFor (rule : IndexRule) (table : Table) : Type 0 where
  pub number : list_any (λ made. made.id.0 == rule.id.0) table.indexes ≡ false
  pub positive : 0 < rule.id.0
  pub fits : index_fits rule ≡ true
  pub primary : rule.flags.primary ≡ true → IsFirstPrimary table
  pub legal : is_legal rule (schema_of table) ≡ true
  pub columns : list_all (has_column table) (rule_columns rule) ≡ true
  pub short : rule.key_most ≤ 255
  pub not_null : list_any (λ row. is_null_refusal (entries rule (schema_of table) row.1)) table.rows ≡ false
  pub not_cut : list_any (λ row. is_cut_refusal (entries rule (schema_of table) row.1)) table.rows ≡ false

-- What the store asks of a schema step.
abbrev pub CanMake : SchemaStep → StoredVersions → Type 0
CanMake (step.CreateTable table name) store = (store.greatest_table < table.0) × (name_fits name ≡ true)
CanMake (step.DeleteTable table) store = is_some (table_with_id store.store.tables table.0) ≡ true
CanMake (step.AddColumn table column) store =
    IfSome (table_with_id store.store.tables table.0) (TakesColumn column) × IsSomeAnd (table_with_id store.store.tables table.0) (IsColumnFor column)
CanMake (step.DeleteColumn table column) store =
    IsSomeAnd (table_with_id store.store.tables table.0) (λ t. column_is_used column t.indexes ≡ false) × IsSomeAnd (table_with_id store.store.tables table.0) (λ t. has_column t column.0 ≡ true)
CanMake (step.CreateIndex table rule) store = IsSomeAnd (table_with_id store.store.tables table.0) (IsIndexFor rule)
CanMake (step.DeleteIndex table index) store = IsSomeAnd (table_with_id store.store.tables table.0) (λ t. is_some (secondary_rule t index.0) ≡ true)

-- While no change is held: the catalog and the trees have become those after a step. Long values may have gone, and none has come.
pub record IsMade (made : SchemaStep) (was : CatalogState) (trees : List StoredTable) (is : CatalogState) (other : List StoredTable) : Type 0 where
  pub kept : AreKept is.tables other []
  pub counts : AreCounted other []
  pub values : BringsNoValue trees other
  pub shown : (newest : ℕ) → stored_versions newest is other [] ≡ after_step made (stored_versions newest was trees [])
