-- What an entry makes of the kept changes, of the dropped ones and of the starting point.
use Rattle.std.specs.Prelude.{ℕ, ◌+◌, ◌-◌, ◌==◌, Bool, ◌&&◌, List, [], ◌∷◌, ◌++◌, map, if◌then◌else◌}
use Rattle.column_set.specs.declared.changes.Change.{Change}
use Rattle.index_derive.specs.declared.log.EntryKind.{EntryKind}
use Rattle.index_derive.specs.declared.log.EntryKind.TheVariants as entry
use Rattle.database_state.specs.Table.{record_in}
use Rattle.database_state.specs.Changes.{without_copied, tables_after}
use Rattle.column_set.specs.ChangedRecords.{changed_table, changed_bookmark}
use Rattle.database_state.specs.State.{DatabaseState, PastChange, uncommitted, committed, undone, is_open_change_of, levels}
use Rattle.database_state.specs.View.{newest}
use Rattle.database_state.specs.SchemaChanges.{tables_after_step}
use Rattle.database_state.specs.Step.{is_at_level, every_change}
use Rattle.laws_versions.specs.Records.{Records, records_of}

-- ---- single changes

abbrev pub is_own_open : ℕ → (PastChange → Bool) → PastChange → Bool
is_own_open session test item = is_open_change_of session item && test item

abbrev pub undone_where : (PastChange → Bool) → PastChange → PastChange
undone_where test item = if test item then record item { status = undone } else item

abbrev pub committed_own : ℕ → ℕ → PastChange → PastChange
committed_own session number item = if is_open_change_of session item then record item { status = committed number } else item

abbrev pub lowered_own : ℕ → ℕ → PastChange → PastChange
lowered_own session level item = if is_open_change_of session item && (item.level == level) then record item { level = item.level - 1 } else item

-- ---- an entry

-- the state in which an entry has its effect
abbrev pub with_next_number : DatabaseState → DatabaseState
with_next_number state = record state { number = state.number + 1 }

-- a new change, as an entry of this number makes it
abbrev pub new_change : ℕ → Change → DatabaseState → PastChange
new_change session change state = record {
  number = state.number;
  session = session;
  level = levels state session;
  change = without_copied change;
  before = record_in (newest state) (changed_table change) (changed_bookmark change);
  after = record_in (tables_after (newest state) change) (changed_table change) (changed_bookmark change);
  status = uncommitted;
}

-- The kept changes after an entry of the session in this state. A schema step keeps none of them: no transaction is open then.
abbrev pub kept_after : DatabaseState → ℕ → EntryKind → List PastChange → List PastChange
kept_after state session entry.Enter kept = kept
kept_after state session entry.Leave kept = map (undone_where (is_own_open session every_change)) kept
kept_after state session (entry.Open table) kept = kept
kept_after state session (entry.Shut table) kept = kept
kept_after state session entry.Begin kept = kept
kept_after state session entry.Save kept = kept
kept_after state session (entry.Change change) kept = kept ++ new_change session change (with_next_number state) ∷ []
kept_after state session entry.Release kept = map (lowered_own session (levels state session)) kept
kept_after state session entry.Undo kept = map (undone_where (is_own_open session (is_at_level (levels state session)))) kept
kept_after state session entry.UndoAll kept = map (undone_where (is_own_open session every_change)) kept
kept_after state session entry.Commit kept = map (committed_own session (state.number + 1)) kept
kept_after state session (entry.Schema made) kept = []

abbrev pub dropped_after : EntryKind → List PastChange → List PastChange → List PastChange
dropped_after (entry.Schema made) dropped kept = dropped ++ kept
dropped_after _ dropped kept = dropped

abbrev pub base_after : DatabaseState → EntryKind → Records → Records
base_after state (entry.Schema made) base = records_of (tables_after_step state.tables made)
base_after state _ base = base
