-- The tables that a store has, each with its nodes, its long values and the entries of its indexes.
use Rattle.std.specs.Prelude.{ℕ, ◌==◌, Bool, Option, List, [], ◌∷◌, ◌++◌, if◌then◌else◌, filter, find, map, not, unwrap_or}
use Rattle.std.specs.List.{list_any}
use Rattle.std.specs.Option.{option_map}
use Rattle.page_image.specs.Page.{Node}
use Rattle.cursor_nav.specs.Places.{Pair}
use Rattle.long_value.specs.Values.{LongValue, Values, value_of}

-- An index has a number and entries, which rise.
abbrev pub StoredIndex : Type 0
StoredIndex = ℕ × List Pair

-- A table has a number, nodes, which rise by their bookmarks, indexes in the order of their making, and long values, which rise by their identifiers. A node's key is its bookmark, and its data the row.
pub record StoredTable : Type 0 where
  pub number : ℕ
  pub nodes : List Node
  pub indexes : List StoredIndex
  pub long_values : Values

-- ---- one of a list

-- what a function gives of the first that passes a test, nothing where none does
abbrev pub part_of : {X Y : Type 0} → (X → Bool) → (X → List Y) → List X → List Y
part_of test part list = unwrap_or (option_map part (find test list)) []

-- the list, changed where a test passes
abbrev pub changed_where : {X : Type 0} → (X → Bool) → (X → X) → List X → List X
changed_where test change list = map (λ x. if test x then change x else x) list

-- the list without what passes a test
abbrev pub without_where : {X : Type 0} → (X → Bool) → List X → List X
without_where test list = filter (λ x. not (test x)) list

-- ---- tables

abbrev pub is_table : ℕ → StoredTable → Bool
is_table table x = x.number == table

abbrev pub has_table : List StoredTable → ℕ → Bool
has_table tables table = list_any (is_table table) tables

-- a table without a node, an index and a long value
abbrev pub new_table : ℕ → StoredTable
new_table table = record { number = table; nodes = []; indexes = []; long_values = [] }

-- the tables without one of them
abbrev pub without_table : ℕ → List StoredTable → List StoredTable
without_table table tables = without_where (is_table table) tables

-- ---- the nodes of a table

-- the nodes of a table, none where there is no such table
abbrev pub table_nodes : List StoredTable → ℕ → List Node
table_nodes tables table = part_of (is_table table) (λ x. x.nodes) tables

abbrev pub put_nodes : List Node → StoredTable → StoredTable
put_nodes nodes x = record x { nodes = nodes }

-- the tables, one of them with other nodes
abbrev pub with_nodes : ℕ → List Node → List StoredTable → List StoredTable
with_nodes table nodes tables = changed_where (is_table table) (put_nodes nodes) tables

-- ---- the long values of a table

-- the long values of a table, none where there is no such table
abbrev pub table_long_values : List StoredTable → ℕ → Values
table_long_values tables table = part_of (is_table table) (λ x. x.long_values) tables

-- a long value of a table, by the bytes of its identifier
abbrev pub long_value_of : List StoredTable → ℕ → List ℕ → Option LongValue
long_value_of tables table id = value_of id (table_long_values tables table)

abbrev pub put_long_values : Values → StoredTable → StoredTable
put_long_values values x = record x { long_values = values }

-- the tables, one of them with other long values
abbrev pub with_long_values : ℕ → Values → List StoredTable → List StoredTable
with_long_values table values tables = changed_where (is_table table) (put_long_values values) tables

-- ---- the indexes of a table

abbrev pub is_index : ℕ → StoredIndex → Bool
is_index index x = x.0 == index

-- the indexes of a table, none where there is no such table
abbrev pub table_indexes : List StoredTable → ℕ → List StoredIndex
table_indexes tables table = part_of (is_table table) (λ x. x.indexes) tables

abbrev pub has_index : List StoredTable → ℕ → ℕ → Bool
has_index tables table index = list_any (is_index index) (table_indexes tables table)

-- the entries of an index, none where there is no such index
abbrev pub index_entries : List StoredTable → ℕ → ℕ → List Pair
index_entries tables table index = part_of (is_index index) (λ x. x.1) (table_indexes tables table)

abbrev pub put_indexes : List StoredIndex → StoredTable → StoredTable
put_indexes indexes x = record x { indexes = indexes }

abbrev pub put_entries : List Pair → StoredIndex → StoredIndex
put_entries entries x = (x.0, entries)

-- the tables, one of them with other indexes
abbrev pub with_indexes : ℕ → List StoredIndex → List StoredTable → List StoredTable
with_indexes table indexes tables = changed_where (is_table table) (put_indexes indexes) tables

-- the tables with one index more, which has no entry, behind those of its table
abbrev pub with_new_index : ℕ → ℕ → List StoredTable → List StoredTable
with_new_index table index tables = with_indexes table (table_indexes tables table ++ (index, []) ∷ []) tables

-- the tables without one index
abbrev pub without_index : ℕ → ℕ → List StoredTable → List StoredTable
without_index table index tables = with_indexes table (without_where (is_index index) (table_indexes tables table)) tables

-- the tables, one index with other entries
abbrev pub with_entries : ℕ → ℕ → List Pair → List StoredTable → List StoredTable
with_entries table index entries tables = with_indexes table (changed_where (is_index index) (put_entries entries) (table_indexes tables table)) tables
