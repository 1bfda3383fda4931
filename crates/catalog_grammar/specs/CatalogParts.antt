-- Catalogs in which one table, column or index stands at a place.
use Rattle.std.specs.Prelude.{ℕ, List, [], ◌∷◌, ◌++◌}
use Rattle.column_set.specs.declared.columns.Column.{Column}
use Rattle.index_derive.specs.declared.rules.IndexRule.{IndexRule}
use Rattle.catalog_grammar.specs.Catalogs.{CatalogTable}
use Rattle.catalog_grammar.specs.declared.items.TableItem.{TableItem}

-- a table without columns and indexes
abbrev pub bare_table : TableItem → CatalogTable
bare_table table = record { table = table; columns = []; indexes = [] }

-- The tables before and after one of them.
pub record OtherTables : Type 0 where
  pub before : List CatalogTable
  pub after : List CatalogTable

-- the tables with these between
abbrev pub with_tables : OtherTables → List CatalogTable → List CatalogTable
with_tables others tables = others.before ++ (tables ++ others.after)

-- the tables with one of them, which has these columns, or these indexes, or another node
abbrev pub with_columns : OtherTables → CatalogTable → List Column → List CatalogTable
with_columns others x columns = with_tables others (record x { columns = columns } ∷ [])

abbrev pub with_indexes : OtherTables → CatalogTable → List (ℕ × IndexRule) → List CatalogTable
with_indexes others x indexes = with_tables others (record x { indexes = indexes } ∷ [])

abbrev pub with_item : OtherTables → CatalogTable → TableItem → List CatalogTable
with_item others x table = with_tables others (record x { table = table } ∷ [])
