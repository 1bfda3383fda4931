-- Indexes over columns that are there and are no sums.
use Rattle.std.specs.Prelude.{◌≡◌, ℕ, Bool, true, false, not, List, Some, None}
use Rattle.std.specs.List.{list_all}
use Rattle.column_set.specs.declared.columns.Column.{Column}
use Rattle.column_set.specs.RecordValues.{column_of_id}
use Rattle.index_derive.specs.declared.rules.IndexRule.{IndexRule}
use Rattle.database_state.specs.Table.{Table}
use Rattle.database_state.specs.SchemaChanges.{rule_columns}
use Rattle.database_state.specs.State.{DatabaseState}
use Rattle.laws_versions.specs.TableOrder.{HasTablesInOrder}
use Rattle.laws_engine.specs.ColumnNumbers.{have_own_numbers}

-- whether there is a column of the number, and it is no sum
abbrev pub is_plain_column : List Column → ℕ → Bool
is_plain_column columns id = elim (column_of_id columns id) [ Some column ↦ not column.escrow | None ↦ false ]

abbrev pub names_plain_columns : List Column → IndexRule → Bool
names_plain_columns columns rule = list_all (is_plain_column columns) (rule_columns rule)

abbrev pub has_plain_indexes : Table → Bool
has_plain_indexes table = list_all (names_plain_columns table.columns) table.indexes

-- The tables are in order, each column has a number of its own, and each index names columns that are there and are no sums.
pub record HasPlainIndexes (state : DatabaseState) : Type 0 where
  pub order : HasTablesInOrder state
  pub numbers : have_own_numbers state.tables ≡ true
  pub plain : list_all has_plain_indexes state.tables ≡ true
