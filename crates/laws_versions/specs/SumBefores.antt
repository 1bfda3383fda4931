-- The records before sums, but for the values in escrow columns.
use Rattle.std.specs.Prelude.{◌≡◌, ℕ, true, List, [], ◌∷◌, Option, option_map, IfSome, if◌then◌else◌}
use Rattle.column_set.specs.declared.columns.Column.{Column}
use Rattle.column_set.specs.RecordValues.{RecordFields}
use Rattle.database_state.specs.Table.{table_with_id}
use Rattle.database_state.specs.Changes.{is_sum}
use Rattle.column_set.specs.ChangedRecords.{changed_bookmark, changed_table}
use Rattle.database_state.specs.Equivalence.{without_sums}
use Rattle.database_state.specs.State.{DatabaseState, PastChange}
use Rattle.laws_versions.specs.Records.{Records, after_item}
use Rattle.laws_versions.specs.Readers.{is_standing}

-- the two records, or their absence, are the same but for the values in escrow columns
abbrev pub AreSameButForSums : List Column → Option RecordFields → Option RecordFields → Type 0
AreSameButForSums columns one other = option_map (without_sums columns) one ≡ option_map (without_sums columns) other

-- The record before a sum of the table that stands is, but for its sums, the one that the standing changes before it leave. It may
-- have sums of others that were undone since.
abbrev pub HasSumBefores : List Column → ℕ → Records → List PastChange → Type 0
HasSumBefores columns table records [] = Unit {0}
HasSumBefores columns table records (item ∷ items) =
    (is_standing item ≡ true → is_sum item.change ≡ true → changed_table item.change ≡ table → AreSameButForSums columns item.before (records (changed_table item.change) (changed_bookmark item.change)))
    × HasSumBefores columns table (if is_standing item then after_item records item else records) items

-- So it is in every table.
abbrev pub HaveSumBefores : Records → List PastChange → DatabaseState → Type 0
HaveSumBefores base kept state = (id : ℕ) → IfSome (table_with_id state.tables id) (λ table. HasSumBefores table.columns table.id base kept)
