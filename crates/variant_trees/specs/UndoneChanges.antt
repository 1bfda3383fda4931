-- The row before an open change that is undone comes back.
use Rattle.std.specs.Prelude.{◌≡◌, ◌≤◌, ◌==◌, ℕ, if◌then◌else◌, true, List, length, map, Some, IfSome, IsSomeAnd, option_map, slice_get}
use Rattle.std.specs.List.{AllByRecursion}
use Rattle.btree_inplace.specs.Order.{extent_in}
use Rattle.database_state.specs.Changes.{tables_after}
use Rattle.database_state.specs.State.{is_open}
use Rattle.database_state.specs.Table.{Table, with_table}
use Rattle.column_set.specs.RowReading.{row_in}
use Rattle.index_derive.specs.declared.rules.Schema.{Schema}
use Rattle.long_rows.specs.ReferenceCounts.{NewestRows, with_row}
use Rattle.long_value.specs.Values.{Values}
use Rattle.table_trees.specs.StoredTables.{StoredTable, table_long_values, table_nodes}
use Rattle.version_store.specs.HeldChanges.{HeldChange, is_rewrite, undone_at}
use Rattle.laws_engine.specs.HeldRecords.{inverse}
use Rattle.laws_engine.specs.VersionedTables.{rows_with}
use Rattle.stored_variants.specs.CountedValues.{AreCounted, BringsNoValue}
use Rattle.stored_variants.specs.PutRecords.{HasKeysOf}
use Rattle.stored_variants.specs.RecordRows.{IsRecordRow, held_record_in, record_of, row_under}
use Rattle.stored_variants.specs.VersionsKept.{AreKept}
use Rattle.stored_variants.specs.VersionsView.{with_newest}

-- The change at a place is a put or a drop of the table. The row before it has room in its node, and each index has the keys of
-- the newest one.
pub record CanPutBack (schema : Schema) (table : ℕ) (trees : List StoredTable) (held : List HeldChange) (place : ℕ) (h : HeldChange) : Type 0 where
  pub at : slice_get held place ≡ Some h
  pub named : h.table ≡ table
  pub row : IfSome h.before (IsRecordRow (table_long_values trees table))
  pub room : IfSome h.before (λ row. IsSomeAnd (extent_in (table_nodes trees table) h.bookmark) (λ extent. length row ≤ extent))
  pub newest : IfSome (row_under (table_nodes trees table) h.bookmark) (λ row. IsRecordRow (table_long_values trees table) row × AllByRecursion (HasKeysOf schema (record_of (table_long_values trees table) row)) schema.indexes × (length h.bookmark ≤ 255))

-- The held changes have become others, in which the open put or drop at a place is undone.
pub record IsUndone (held : List HeldChange) (place : ℕ) (h : HeldChange) (now : List HeldChange) : Type 0 where
  pub at : slice_get held place ≡ Some h
  pub rewrites : is_rewrite h.kind ≡ true
  pub is_uncommitted : is_open h.status ≡ true
  pub after : now ≡ undone_at (Some place) held

-- the tables with the record before a change in the place of the newest one
abbrev pub tables_put_back : Values → List Table → HeldChange → List Table
tables_put_back values tables h = with_table h.table (λ t. record t { rows = rows_with t.rows h.bookmark (option_map (record_of values) h.before) }) tables

-- the newest rows of a table, where one of the table with that number has the row before a change
abbrev pub rows_put_back : HeldChange → ℕ → ℕ → NewestRows → NewestRows
rows_put_back h table other rows = if table == other then with_row h.bookmark (option_map row_in h.before) rows else rows

-- ---- an undo

-- Before the change at a place was undone it was open, and the store was kept.
pub record WasOpen (tables : List Table) (trees : List StoredTable) (now : List HeldChange) (place table : ℕ) (held : List HeldChange) (h : HeldChange) : Type 0 where
  pub at : slice_get held place ≡ Some h
  pub is_uncommitted : is_open h.status ≡ true
  pub after : now ≡ undone_at (Some place) held
  pub named : h.table ≡ table
  pub kept : AreKept tables trees held
  pub counts : AreCounted trees held

-- The store is kept again, and shows the tables with the change taken back. The held changes hold the records that they held, and no
-- long value has come.
pub record IsBack (tables : List Table) (old new : List StoredTable) (now : List HeldChange) (h : HeldChange) : Type 0 where
  pub kept : AreKept tables new now
  pub counts : AreCounted new now
  pub shown : map (with_newest new) tables ≡ tables_after (map (with_newest old) tables) (inverse (held_record_in (table_long_values old) h))
  pub held : map (held_record_in (table_long_values new)) now ≡ map (held_record_in (table_long_values old)) now
  pub values : BringsNoValue old new
