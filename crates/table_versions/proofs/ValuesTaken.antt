-- What is kept and shown stays while each row stands for its record.
use Rattle.std.proofs.Common.{◌≡◌, ℕ, true, List, [], ◌∷◌, Option, Some, None, map, refl}
use Rattle.std.specs.Prelude.{IfSome}
use Rattle.std.specs.List.{AllByRecursion}
use Rattle.column_set.specs.RecordValues.{RecordFields}
use Rattle.column_set.specs.RowReading.{row_in}
use Rattle.column_set.specs.Rows.{RowFields}
use Rattle.database_state.specs.Table.{Table, table_with_id}
use Rattle.long_rows.specs.WholeRows.{StandsFor}
use Rattle.table_trees.specs.StoredTables.{StoredTable, table_nodes}
use Rattle.version_store.specs.HeldChanges.{HeldChange, is_standing}
use Rattle.stored_variants.specs.RecordRows.{IsRecordRow, TableValues, held_record_in, record_of, row_under}
use Rattle.stored_variants.specs.VersionsKept.{AreKeptWith, IsKeptChange}
use Rattle.stored_variants.specs.VersionsView.{with_newest_by}
use Rattle.stored_variants.proofs.SameRecords.{AreInOrder, AreSame, StaysSame, kept_with_others, same_held, same_newest_records}
use Rattle.stored_variants.proofs.Tables.{newest_is_row}
use Rattle.table_versions.proofs.SeenRecords.{before_is_row}

-- each row of a table stands for the record that it stood for
abbrev pub StillStand : TableValues → TableValues → Type 0
StillStand longs now = (table : ℕ) (row : RowFields) (fields : RecordFields) → StandsFor (longs table) row fields → StandsFor (now table) row fields

row_stays : (longs now : TableValues) → StillStand longs now → (table : ℕ) (row : List ℕ) → IsRecordRow (longs table) row → StaysSame (longs table) (now table) row
row_stays longs now still table row is =
    let stands = still table (row_in row) (record_of (longs table) row) (record { formed = is.formed; whole = is.whole; shown = refl }) in
    record { shown = stands.shown; whole = stands.whole }

rows_stay : (longs now : TableValues) → StillStand longs now → (table : ℕ) (row : Option (List ℕ)) → IfSome row (IsRecordRow (longs table)) → IfSome row (StaysSame (longs table) (now table))
rows_stay longs now still table None is = tt
rows_stay longs now still table (Some row) is = row_stays longs now still table row is

before_stay : (longs now : TableValues) → StillStand longs now → (tables : List Table) (trees : List StoredTable) (held : List HeldChange) → AllByRecursion (IsKeptChange longs tables trees) held
    → AllByRecursion (λ h. is_standing h ≡ true → IfSome h.before (StaysSame (longs h.table) (now h.table))) held
before_stay longs now still tables trees [] kept = tt
before_stay longs now still tables trees (h ∷ held) kept = (
  λ standing. rows_stay longs now still h.table h.before (before_is_row (longs h.table) (table_with_id tables h.table) h.bookmark h.before kept.0.named (kept.0.before standing)),
  before_stay longs now still tables trees held kept.1,
)

-- All that was kept is, and all that was shown.
pub record Stays (longs now : TableValues) (tables : List Table) (trees : List StoredTable) (held : List HeldChange) : Type 0 where
  pub kept : AreKeptWith now tables trees held
  pub newest : map (with_newest_by now trees) tables ≡ map (with_newest_by longs trees) tables
  pub held_records : map (held_record_in now) held ≡ map (held_record_in longs) held

pub all_stays : (longs now : TableValues) → StillStand longs now → (tables : List Table) (trees : List StoredTable) (held : List HeldChange) → AreInOrder trees → AreKeptWith longs tables trees held → Stays longs now tables trees held
all_stays longs now still tables trees held sorted kept = record {
  kept = kept_with_others longs now tables trees held sorted same kept;
  newest = same_newest_records longs now trees held sorted same tables;
  held_records = same_held longs now held same.before;
}
  where
    same : AreSame longs now trees held
    same = record {
      newest = λ table bookmark. rows_stay longs now still table (row_under (table_nodes trees table) bookmark) (newest_is_row longs tables trees held kept table bookmark);
      before = before_stay longs now still tables trees held kept.changes;
    }
