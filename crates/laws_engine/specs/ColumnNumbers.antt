-- The numbers of the columns of tables.
use Rattle.std.specs.Prelude.{Bool, ◌&&◌, nat_le, List, map, if◌then◌else◌}
use Rattle.std.specs.List.{list_all}
use Rattle.column_set.specs.declared.columns.Column.{Column}
use Rattle.database_state.specs.Table.{GreatestColumns, Table}
use Rattle.session_local.specs.SessionSide.{are_distinct}
use Rattle.session_local.specs.WellFormed.{number_of_column}

-- whether a column's number is one of its kind that was given: fixed columns are 1 to 127, variable ones 128 to 255, tagged
-- ones above
abbrev pub is_given_number : GreatestColumns → Column → Bool
is_given_number greatest column =
    if nat_le column.id.0 127 then nat_le column.id.0 greatest.fixed
    else if nat_le column.id.0 255 then nat_le column.id.0 greatest.variable
    else nat_le column.id.0 greatest.tagged

-- whether the greatest numbers are of their kinds
abbrev pub are_in_range : GreatestColumns → Bool
are_in_range greatest =
    nat_le greatest.fixed 127
    && nat_le 127 greatest.variable && nat_le greatest.variable 255
    && nat_le 255 greatest.tagged && nat_le greatest.tagged 511

-- whether each column has a number that was given, and no two have one number
abbrev pub has_own_numbers : Table → Bool
has_own_numbers table =
    are_in_range table.greatest
    && list_all (is_given_number table.greatest) table.columns
    && are_distinct (map number_of_column table.columns)

abbrev pub have_own_numbers : List Table → Bool
have_own_numbers tables = list_all has_own_numbers tables
