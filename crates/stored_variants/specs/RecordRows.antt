-- Rows and held changes as the records that they stand for.
use Rattle.std.specs.Prelude.{◌≡◌, ◌≤◌, ℕ, Bool, not, ◌&&◌, List, [], ◌∷◌, length, IsTrue, Option, Some, None, option_and_then, option_map, if◌then◌else◌}
use Rattle.std.specs.List.{list_any}
use Rattle.page_image.specs.Page.{Node}
use Rattle.btree_inplace.specs.Order.{get_in}
use Rattle.column_set.specs.RecordValues.{RecordFields}
use Rattle.column_set.specs.Rows.{is_row, largest_row, row_bytes}
use Rattle.column_set.specs.RowReading.{row_in}
use Rattle.database_state.specs.State.{is_undone}
use Rattle.database_state.specs.Table.{Rows}
use Rattle.long_rows.specs.WholeRows.{is_whole, record_in}
use Rattle.long_value.specs.Values.{Values}
use Rattle.version_store.specs.HeldChanges.{HeldChange, cost_of, is_rewrite}
use Rattle.laws_engine.specs.HeldRecords.{HeldRecord, is_standing_rewrite}

-- the long values of each table, by its number
abbrev pub TableValues : Type 0
TableValues = ℕ → Values

-- the record that a row stands for, given the long values of its table
abbrev pub record_of : Values → List ℕ → RecordFields
record_of values row = record_in values (row_in row)

-- The bytes of a row that fits a page. Each long value that it names is there, as long as the row says.
pub record IsRecordRow (values : Values) (row : List ℕ) : Type 0 where
  pub formed : IsTrue (is_row (row_in row))
  pub spelled : row ≡ row_bytes (row_in row)
  pub whole : IsTrue (is_whole values (row_in row))
  pub small : length row ≤ largest_row

-- ---- nodes

-- the row in a node's data; a node without a byte has none
abbrev pub row_in_node : List ℕ → Option (List ℕ)
row_in_node [] = None
row_in_node (byte ∷ bytes) = Some (byte ∷ bytes)

-- the newest row under a bookmark
abbrev pub row_under : List Node → List ℕ → Option (List ℕ)
row_under nodes bookmark = option_and_then row_in_node (get_in nodes bookmark)

abbrev pub with_record : Values → List ℕ → Option (List ℕ) → Rows → Rows
with_record values bookmark None rows = rows
with_record values bookmark (Some row) rows = (bookmark, record_of values row) ∷ rows

-- the newest records of a table, by its long values and its nodes
abbrev pub rows_of_nodes : Values → List Node → Rows
rows_of_nodes values [] = []
rows_of_nodes values (n ∷ nodes) = with_record values n.key (row_in_node n.data) (rows_of_nodes values nodes)

-- ---- held changes

-- a put or a drop that is not undone holds the record before it
abbrev pub record_before : Values → HeldChange → Option RecordFields
record_before values held = if is_rewrite held.kind && not (is_undone held.status) then option_map (record_of values) held.before else None

abbrev pub held_record : Values → HeldChange → HeldRecord
held_record values held = record {
  number = held.number;
  session = held.session;
  level = held.level;
  kind = held.kind;
  table = held.table;
  bookmark = held.bookmark;
  before = record_before values held;
  cost = cost_of held;
  status = held.status;
}

-- the same, given the long values of each table
abbrev pub held_record_in : TableValues → HeldChange → HeldRecord
held_record_in longs held = held_record (longs held.table) held

-- whether a put or drop of the record that is not undone has a record before it that passes
abbrev pub some_before : (Option RecordFields → Bool) → ℕ → List ℕ → List HeldRecord → Bool
some_before test table bookmark held = list_any (λ change. is_standing_rewrite table bookmark change && test change.before) held
