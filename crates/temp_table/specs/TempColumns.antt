-- The columns of a temporary table, and which values they take.
use Rattle.std.specs.Prelude.{ℕ, Bool, true, false, not, ◌&&◌, cond, List, [], ◌∷◌, length, nat_le, Option, Some, None}
use Rattle.std.specs.List.{list_all, list_any}
use Rattle.jet_base.specs.TypeKinds.{is_long_type}
use Rattle.column_set.specs.RecordValues.{value_fits}
use Rattle.temp_table.specs.declared.columns.TempColumn.{TempColumn}

-- a row: for each column its value, or NULL
abbrev pub RowValues : Type 0
RowValues = List (Option (List ℕ))

-- whether all key columns stand before all others
abbrev pub key_columns_first : List TempColumn → Bool
key_columns_first [] = true
key_columns_first (column ∷ columns) = cond column.is_key (key_columns_first columns) (not (list_any (λ other. other.is_key) columns))

-- whether no column is of a long type
abbrev pub are_short : List TempColumn → Bool
are_short columns = list_all (λ column. not (is_long_type column.kind)) columns

-- whether a temporary table may have these columns: 1 to 12, the first of them a key column
abbrev pub are_temp_columns : List TempColumn → Bool
are_temp_columns [] = false
are_temp_columns (first ∷ columns) = first.is_key && nat_le (length (first ∷ columns)) 12 && key_columns_first (first ∷ columns) && are_short (first ∷ columns)

-- whether there is one value for each column, each of its column's type
abbrev pub row_fits : List TempColumn → RowValues → Bool
row_fits [] [] = true
row_fits [] (value ∷ row) = false
row_fits (column ∷ columns) [] = false
row_fits (column ∷ columns) (None ∷ row) = row_fits columns row
row_fits (column ∷ columns) (Some value ∷ row) = value_fits column.kind value && row_fits columns row
