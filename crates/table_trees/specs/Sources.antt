-- What a put finds, as the code has it.
use Rattle.std.specs.Prelude.{ℕ, List, [], ◌∷◌, ◌++◌, Option, Some, None, IfSome}
use Rattle.std.specs.Option.{option_copied}
use Rattle.column_set.specs.Rows.{IsRowBytes, RowFields}
use Rattle.column_set.specs.RowReading.{row_in}
use Rattle.long_value.specs.declared.values.LongId.{LongId}
use Rattle.long_rows.specs.KeptRows.{Found}
use Rattle.table_trees.specs.StoredTables.{table_long_values}
use Rattle.table_trees.specs.declared.kept_rows.sharing.Sources.{Sources}

-- the row that has the bytes, if there are any
abbrev pub row_given : Option (List ℕ) → List RowFields
row_given None = []
row_given (Some row) = row_in row ∷ []

-- the entry and the place of an identifier
abbrev pub place_of : LongId → ℕ × ℕ
place_of id = (id.entry, id.place)

abbrev pub found_in : Sources → Found
found_in sources = record {
  values = table_long_values sources.trees.now.tables sources.table.0;
  rows = row_given (option_copied sources.before) ++ row_given (option_copied sources.copied);
  number = sources.number;
}

-- What is given are rows.
pub record HasRows (sources : Sources) : Type 0 where
  pub before : IfSome (option_copied sources.before) IsRowBytes
  pub copied : IfSome (option_copied sources.copied) IsRowBytes
