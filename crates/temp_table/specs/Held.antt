-- What the fields of a temporary table show, and what they keep.
use Rattle.std.specs.Prelude.{◌≡◌, ℕ, suc, ◌<◌, Bool, true, cond, List, ◌++◌, length, map, nat_lt, Option, Some, None, ⊤}
use Rattle.std.specs.List.{AllByRecursion, list_all}
use Rattle.std.specs.Int.{w64, to_be_bytes}
use Rattle.column_set.specs.RecordValues.{bytes_lt}
use Rattle.page_image.specs.Page.{Node, node_at}
use Rattle.jet_base.specs.declared.words.Way.{Way}
use Rattle.jet_base.specs.declared.words.Way.TheVariants.{First, Last, Next, Previous}
use Rattle.btree_inplace.specs.Order.{after_in, before_in, first_in, last_in}
use Rattle.btree_inplace.specs.Trees.{IsTree, nodes_of}
use Rattle.temp_table.specs.declared.columns.TempColumn.{TempColumn}
use Rattle.temp_table.specs.declared.place.TempPlace.{TempPlace}
use Rattle.temp_table.specs.declared.place.TempPlace.TheVariants.{Before, After, On}
use Rattle.temp_table.specs.declared.table.TempTable.TheInside.{Inside}
use Rattle.temp_table.specs.TempColumns.{RowValues, are_temp_columns, row_fits}
use Rattle.temp_table.specs.TempRows.{TempRows, row_key}
use Rattle.temp_table.specs.RowBytes.{row_bytes, values_in}

-- the key of a row's node: its key, and behind it the number of rows that came before, in 8 bytes, the highest first. Where no two rows have one key, the key alone
abbrev pub node_key : Bool → List ℕ → ℕ → List ℕ
node_key unique key arrival = cond unique key (key ++ to_be_bytes w64 arrival)

-- a row that came behind so many others, as a node
abbrev pub node_of_row : List TempColumn → Bool → ℕ → RowValues → Node
node_of_row columns unique arrival row = record { key = node_key unique (row_key columns row) arrival; extent = length (row_bytes row); «data» = row_bytes row }

-- whether each value is a string of bytes
abbrev pub value_is_bytes : Option (List ℕ) → Bool
value_is_bytes None = true
value_is_bytes (Some value) = list_all (λ byte. nat_lt byte 256) value

abbrev pub are_bytes : RowValues → Bool
are_bytes row = list_all value_is_bytes row

-- A row has a value of its type, or NULL, for each column.
pub record IsRow (columns : List TempColumn) (row : RowValues) : Type 0 where
  pub fits : row_fits columns row ≡ true
  pub bytes : are_bytes row ≡ true

-- It is the node of a row that came before so many others.
pub record IsRowNode (columns : List TempColumn) (unique : Bool) (count : ℕ) (n : Node) : Type 0 where
  pub row : RowValues
  pub arrival : ℕ
  pub came : arrival < count
  pub is_row : IsRow columns row
  pub is : n ≡ node_of_row columns unique arrival row

-- the rows of the nodes
abbrev pub rows_of : ℕ → List Node → List RowValues
rows_of count nodes = map (λ n. values_in count n.data) nodes

-- A row that the place is on is one of so many.
abbrev pub IsWithin : ℕ → TempPlace → Type 0
IsWithin count Before = ⊤
IsWithin count After = ⊤
IsWithin count (On at) = at < count

-- On a row the key is that of its node.
abbrev pub IsPlaceOf : List Node → List ℕ → TempPlace → Type 0
IsPlaceOf nodes key Before = ⊤
IsPlaceOf nodes key After = ⊤
IsPlaceOf nodes key (On at) = (at < length nodes) × ((node_at nodes at).key ≡ key)

-- the place once there is one more node: it goes up by one where that node stands before the one with its key
abbrev pub place_beside_key : List ℕ → List ℕ → TempPlace → TempPlace
place_beside_key key added Before = Before
place_beside_key key added After = After
place_beside_key key added (On at) = On (cond (bytes_lt added key) (suc at) at)

-- the key and the data of the node that a move goes to, if there is one
abbrev pub next_node : List Node → List ℕ → TempPlace → Option (List ℕ × List ℕ)
next_node nodes key Before = first_in nodes
next_node nodes key After = None
next_node nodes key (On at) = after_in nodes key

abbrev pub previous_node : List Node → List ℕ → TempPlace → Option (List ℕ × List ℕ)
previous_node nodes key Before = None
previous_node nodes key After = last_in nodes
previous_node nodes key (On at) = before_in nodes key

abbrev pub node_towards : List Node → List ℕ → TempPlace → Way → Option (List ℕ × List ℕ)
node_towards nodes key place First = first_in nodes
node_towards nodes key place Last = last_in nodes
node_towards nodes key place Next = next_node nodes key place
node_towards nodes key place Previous = previous_node nodes key place

abbrev pub nodes_in : Inside → List Node
nodes_in a = nodes_of a.space a.tree

abbrev pub table_rows : Inside → TempRows
table_rows a = record { columns = a.columns.items; unique = a.unique; rows = rows_of (length a.columns.items) (nodes_in a); place = a.place }

-- There is a node for each row and no other.
pub record IsKept (a : Inside) : Type 0 where
  pub tree : IsTree a.space a.tree
  pub columns : are_temp_columns a.columns.items ≡ true
  pub count : a.count ≡ length (nodes_in a)
  pub nodes : AllByRecursion (IsRowNode a.columns.items a.unique a.count) (nodes_in a)
  pub place : IsPlaceOf (nodes_in a) a.key.items a.place
