-- A temporary table as plain data: its rows in order and its place, and what its calls do.
use Rattle.std.specs.Prelude.{ℕ, zero, suc, ◌+◌, Bool, true, false, ◌&&◌, cond, List, [], ◌∷◌, ◌++◌, length, nat_le, nat_lt, slice_index_or, sum_by, bytes_eq, Option, Some, None}
use Rattle.std.specs.List.{list_any}
use Rattle.jet_base.specs.declared.words.Way.{Way}
use Rattle.jet_base.specs.declared.words.Way.TheVariants.{First, Last, Next, Previous}
use Rattle.key_normal.specs.KeyBytes.{cut_key, segment_bytes}
use Rattle.column_set.specs.RecordValues.{bytes_le, size_of_value}
use Rattle.column_set.specs.Rows.{largest_row}
use Rattle.temp_table.specs.declared.columns.TempColumn.{TempColumn}
use Rattle.temp_table.specs.declared.fault.TempFault.{TempFault}
use Rattle.temp_table.specs.declared.fault.TempFault.TheVariants.{TooBig, Double}
use Rattle.temp_table.specs.declared.place.TempPlace.{TempPlace}
use Rattle.temp_table.specs.declared.place.TempPlace.TheVariants.{Before, After, On}
use Rattle.temp_table.specs.TempColumns.{RowValues}

-- A temporary table: its columns, whether no two rows have one key, its rows in order, and its place.
pub record TempRows : Type 0 where
  pub columns : List TempColumn
  pub unique : Bool
  pub rows : List RowValues
  pub place : TempPlace

-- a table that was just opened
abbrev pub opened : List TempColumn → Bool → TempRows
opened columns unique = record { columns = columns; unique = unique; rows = []; place = Before }

-- ---- keys and sizes

-- the segment of a column, none where it is no key column. NULL comes first, or last in a descending column
abbrev pub own_segment : TempColumn → Option (List ℕ) → List ℕ
own_segment column value = cond column.is_key (segment_bytes column.kind value column.descending false) []

-- the segments of a row, one behind the other
abbrev pub key_segments : List TempColumn → RowValues → List ℕ
key_segments (column ∷ columns) (value ∷ row) = own_segment column value ++ key_segments columns row
key_segments _ _ = []

-- the key of a row, cut at 255 bytes
abbrev pub row_key : List TempColumn → RowValues → List ℕ
row_key columns row = cut_key 255 (key_segments columns row)

-- the room of a value in its row: 5 bytes and its own. NULL takes none
abbrev pub value_room : Option (List ℕ) → ℕ
value_room None = 0
value_room (Some value) = 5 + size_of_value value

-- the size of a row, which is that of a record with these values: a count of 2 bytes, and the room of each value
abbrev pub row_size : RowValues → ℕ
row_size row = 2 + sum_by value_room row

-- ---- putting a row

-- whether a row has the key of another
abbrev pub has_key_of : List TempColumn → RowValues → List RowValues → Bool
has_key_of columns row rows = list_any (λ other. bytes_eq (row_key columns other) (row_key columns row)) rows

-- whether a row stands before one that is put: its key is not above the new one's
abbrev pub stays_before : List TempColumn → RowValues → RowValues → Bool
stays_before columns row other = bytes_le (row_key columns other) (row_key columns row)

-- the rows with one more, behind all whose keys are not above its own: rows of one key stand in the order in which they came
abbrev pub with_row : List TempColumn → RowValues → List RowValues → List RowValues
with_row columns row [] = row ∷ []
with_row columns row (other ∷ rows) = cond (stays_before columns row other) (other ∷ with_row columns row rows) (row ∷ other ∷ rows)

-- how many rows stand before it then
abbrev pub rows_before : List TempColumn → RowValues → List RowValues → ℕ
rows_before columns row [] = 0
rows_before columns row (other ∷ rows) = cond (stays_before columns row other) (suc (rows_before columns row rows)) 0

-- the place stays on its row, also where one more row stands before it
abbrev pub place_beside : ℕ → TempPlace → TempPlace
place_beside before Before = Before
place_beside before After = After
place_beside before (On at) = On (cond (nat_le before at) (suc at) at)

-- why a row is not put: first its size, then its key
abbrev pub put_refusal : TempRows → RowValues → Option TempFault
put_refusal table row = cond (nat_lt largest_row (row_size row)) (Some TooBig) (cond (table.unique && has_key_of table.columns row table.rows) (Some Double) None)

-- the table with a row that was put
abbrev pub put_row : TempRows → RowValues → TempRows
put_row table row = record table {
  rows = with_row table.columns row table.rows;
  place = place_beside (rows_before table.columns row table.rows) table.place;
}

-- ---- moves

abbrev pub is_on : TempPlace → Bool
is_on Before = false
is_on After = false
is_on (On at) = true

-- on the row with so many before it, or else at another place
abbrev pub on_or : ℕ → ℕ → TempPlace → TempPlace
on_or count at otherwise = cond (nat_lt at count) (On at) otherwise

-- on the last of so many rows, or else at another place
abbrev pub on_last_or : ℕ → TempPlace → TempPlace
on_last_or zero otherwise = otherwise
on_last_or (suc before) otherwise = On before

abbrev pub next_place : ℕ → TempPlace → TempPlace
next_place count Before = on_or count 0 After
next_place count After = After
next_place count (On at) = on_or count (suc at) After

abbrev pub previous_place : ℕ → TempPlace → TempPlace
previous_place count Before = Before
previous_place count After = on_last_or count Before
previous_place count (On at) = on_last_or at Before

-- the place after a move among so many rows. Where there is no row to go to, it is After for Next and Last, and Before for Previous and First
abbrev pub moved_place : ℕ → TempPlace → Way → TempPlace
moved_place count place First = on_or count 0 Before
moved_place count place Last = on_last_or count After
moved_place count place Next = next_place count place
moved_place count place Previous = previous_place count place

abbrev pub moved : TempRows → Way → TempRows
moved table way = record table { place = moved_place (length table.rows) table.place way }

-- ---- reading

-- the values of the row that the table is on
abbrev pub current_row : TempRows → RowValues
current_row table = elim table.place [ Before ↦ [] | After ↦ [] | On at ↦ slice_index_or table.rows at [] ]

-- its value in a column, counted from 0, or NULL
abbrev pub current_value : TempRows → ℕ → Option (List ℕ)
current_value table column = slice_index_or (current_row table) column None
