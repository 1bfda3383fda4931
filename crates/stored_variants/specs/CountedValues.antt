-- Long values, counted by the rows that refer to them.
use Rattle.std.specs.Prelude.{◌≡◌, ◌⊎◌, ℕ, ◌<◌, ◌^◌, ◌==◌, List, [], ◌∷◌, filter, map, Option, Some, None, option_map}
use Rattle.column_set.specs.RowReading.{row_in}
use Rattle.database_state.specs.State.{is_undone}
use Rattle.long_rows.specs.ReferenceCounts.{HasCounts, NewestRows, RowBefore}
use Rattle.long_rows.specs.RowReferences.{identifier}
use Rattle.page_image.specs.Page.{Node}
use Rattle.table_trees.specs.StoredTables.{StoredTable, long_value_of, table_long_values, table_nodes}
use Rattle.version_store.specs.HeldChanges.{HeldChange}
use Rattle.stored_variants.specs.RecordRows.{row_in_node}

-- ---- rows

abbrev pub with_own_row : List ℕ → Option (List ℕ) → NewestRows → NewestRows
with_own_row bookmark None rows = rows
with_own_row bookmark (Some row) rows = (bookmark, row_in row) ∷ rows

-- the newest rows of a table, by its nodes
abbrev pub newest_rows : List Node → NewestRows
newest_rows [] = []
newest_rows (n ∷ nodes) = with_own_row n.key (row_in_node n.data) (newest_rows nodes)

-- a held change with the row before it
abbrev pub row_before : HeldChange → RowBefore
row_before held = record { bookmark = held.bookmark; row = option_map row_in held.before; is_undone = is_undone held.status }

-- those of a table
abbrev pub rows_before : ℕ → List HeldChange → List RowBefore
rows_before table held = map row_before (filter (λ (h : HeldChange). h.table == table) held)

-- ---- values

-- Each long value of a table has as many references as newest rows, and rows before of changes that are not undone, refer to it.
abbrev pub AreCounted : List StoredTable → List HeldChange → Type 0
AreCounted trees held = (table : ℕ) → HasCounts (table_long_values trees table) (newest_rows (table_nodes trees table)) (rows_before table held)

-- No long value has the number 0, since entries are counted from 1, or that of an entry behind this one.
abbrev pub HasNoValueBehind : ℕ → List StoredTable → Type 0
HasNoValueBehind newest trees = (table number place : ℕ) → (number ≡ 0) ⊎ (newest < number) → number < 2 ^ 64 → place < 2 ^ 32 → long_value_of trees table (identifier number place) ≡ None

-- A long value that was not there is not there.
abbrev pub BringsNoValue : List StoredTable → List StoredTable → Type 0
BringsNoValue old new = (table : ℕ) (id : List ℕ) → long_value_of old table id ≡ None → long_value_of new table id ≡ None
