-- The rows that may refer to the long values of a table: its newest ones, and those before held changes.
use Rattle.std.specs.Prelude.{ℕ, ◌+◌, ◌==◌, Bool, false, List, [], ◌++◌, map, sum_by, unwrap_or, if◌then◌else◌}
use Rattle.column_set.specs.RowReading.{row_in}
use Rattle.column_set.specs.Rows.{values_in_order}
use Rattle.column_set.specs.declared.rows.RowValue.{RowValue}
use Rattle.database_state.specs.State.{is_undone}
use Rattle.long_rows.specs.RowReferences.{named_by, times_among}
use Rattle.page_image.specs.Page.{Node}
use Rattle.version_store.specs.HeldChanges.{HeldChange}

-- the values of a row, and whether it is the one before a change that is undone, whose references are not counted
abbrev pub Referring : Type 0
Referring = List (ℕ × RowValue) × Bool

-- the row of a node, which is without a value where the node has none
abbrev pub newest_of : Node → Referring
newest_of n = (values_in_order (row_in n.data), false)

-- the row before a held change, which is without a value where there was none, and before a change of another table
abbrev pub before_of : ℕ → HeldChange → Referring
before_of table h = (if h.table == table then values_in_order (row_in (unwrap_or h.before [])) else [], is_undone h.status)

abbrev pub referring_rows : ℕ → List Node → List HeldChange → List Referring
referring_rows table nodes held = map newest_of nodes ++ map (before_of table) held

-- how many references to a value a row is
abbrev pub counted_in : List ℕ → Referring → ℕ
counted_in id row = if row.1 then 0 else times_among id (named_by row.0)

abbrev pub counted : List ℕ → List Referring → ℕ
counted id rows = sum_by (counted_in id) rows
