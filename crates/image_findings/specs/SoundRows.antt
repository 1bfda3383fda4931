-- What the rows of a consistent image have.
use Rattle.std.specs.Prelude.{◌≡◌, ℕ, true, false, List, IfSome, option_map}
use Rattle.std.specs.List.{AllByRecursion}
use Rattle.column_set.specs.RecordValues.{record_fits}
use Rattle.database_state.specs.Lawful.{is_indexable}
use Rattle.database_state.specs.Table.{row_at, schema_of}
use Rattle.page_image.specs.Page.{Node}
use Rattle.stored_variants.specs.RecordRows.{IsRecordRow, record_of, row_in_node, row_under}
use Rattle.stored_variants.specs.VersionsKept.{IsRowUnder}
use Rattle.version_store.specs.HeldChanges.{HeldChange}
use Rattle.image_findings.specs.RowFindings.{is_own_bookmark, is_sound_node, lacks_node}
use Rattle.image_findings.specs.TableContents.{TableContents, long_values, newest_table}

-- The row of a record: each long value that it names is there, its record fits the columns, no index refuses it, and the bookmark is
-- its own.
pub record HasSoundRow (number : ℕ) (t : TableContents) (bookmark bytes : List ℕ) : Type 0 where
  pub row : IsRecordRow (long_values t) bytes
  pub columns : record_fits t.table.columns (record_of (long_values t) bytes) ≡ true
  pub indexable : is_indexable (schema_of t.table) (record_of (long_values t) bytes) ≡ true
  pub own : is_own_bookmark number t.table (record_of (long_values t) bytes) bookmark ≡ true

-- Each node is sound, its row too, and each held change of the table has a node.
pub record HasSoundRows (number : ℕ) (held : List HeldChange) (t : TableContents) : Type 0 where
  pub nodes : AllByRecursion (λ n. is_sound_node number held t n ≡ true) t.nodes
  pub rows : AllByRecursion (λ (n : Node). IfSome (row_in_node n.data) (HasSoundRow number t n.key)) t.nodes
  pub changed : AllByRecursion (λ h. lacks_node t h ≡ false) held

-- The row of each node is one that a store keeps under its bookmark.
abbrev pub HasRowsUnder : TableContents → Type 0
HasRowsUnder t = AllByRecursion (λ (n : Node). IfSome (row_in_node n.data) (IsRowUnder (long_values t) t.table n.key)) t.nodes

-- The newest record under a bookmark is that of the row in its node.
abbrev pub HasOwnRecords : TableContents → Type 0
HasOwnRecords t = (bookmark : List ℕ) → row_at (newest_table t).rows bookmark ≡ option_map (record_of (long_values t)) (row_under t.nodes bookmark)
