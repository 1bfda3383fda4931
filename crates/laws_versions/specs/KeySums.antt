-- Sums and keys: no index names an escrow column, so keys see no sum.
use Rattle.std.specs.Prelude.{◌≡◌, ℕ, ◌==◌, Bool, true, false, not, List, [], ◌∷◌, Option, Some, None, IfSome, if◌then◌else◌}
use Rattle.std.specs.List.{AllByRecursion, list_any}
use Rattle.column_set.specs.declared.changes.Change.{Change}
use Rattle.column_set.specs.declared.changes.Change.TheVariants.{Put, Drop, Hold, Add}
use Rattle.column_set.specs.RecordValues.{RecordFields, column_of_id}
use Rattle.index_derive.specs.declared.rules.IndexRule.{IndexRule}
use Rattle.index_derive.specs.declared.rules.Schema.{Schema}
use Rattle.database_state.specs.Table.{Table, schema_of, table_with_id}
use Rattle.database_state.specs.Changes.{is_sum}
use Rattle.column_set.specs.ChangedRecords.{changed_table, changed_bookmark}
use Rattle.database_state.specs.SchemaChanges.{rule_columns}
use Rattle.database_state.specs.State.{DatabaseState, PastChange}
use Rattle.database_state.specs.Conflicts.{yields_key}
use Rattle.laws_versions.specs.Records.{Records, after_item}
use Rattle.laws_versions.specs.Readers.{is_standing}

-- ---- sums that an index does not see

-- whether the column is one of the index's key or of its conditions
abbrev pub names_column : IndexRule → ℕ → Bool
names_column rule column = list_any (λ id. id == column) (rule_columns rule)

-- whether a change is a sum of a column that the index names
abbrev pub adds_to_index : IndexRule → Change → Bool
adds_to_index rule (Put table bookmark copied values) = false
adds_to_index rule (Drop table bookmark) = false
adds_to_index rule (Hold table bookmark) = false
adds_to_index rule (Add table bookmark column amount) = names_column rule column.0

-- no change of the table is a sum of a column that the index names
abbrev pub SeesNoSum : IndexRule → ℕ → List PastChange → Type 0
SeesNoSum rule table kept = AllByRecursion (λ item. changed_table item.change ≡ table → adds_to_index rule item.change ≡ false) kept

-- so it is for each index of each table
abbrev pub IndexesSeeNoSum : List PastChange → DatabaseState → Type 0
IndexesSeeNoSum kept state = (id : ℕ) → IfSome (table_with_id state.tables id) (λ table. AllByRecursion (λ rule. SeesNoSum rule table.id kept) table.indexes)

-- ---- the records before sums

-- the two records, or their absence, have the same keys
abbrev pub HasSameKeys : IndexRule → Schema → Option RecordFields → Option RecordFields → Type 0
HasSameKeys rule schema one other = (key : List ℕ) → yields_key rule schema key one ≡ yields_key rule schema key other

-- The record before a sum that stands has the keys of the one that the standing changes before it leave. It may have sums of
-- others that were undone since.
abbrev pub HasKeyBefores : IndexRule → Schema → ℕ → Records → List PastChange → Type 0
HasKeyBefores rule schema table records [] = Unit {0}
HasKeyBefores rule schema table records (item ∷ items) =
    (is_standing item ≡ true → is_sum item.change ≡ true → changed_table item.change ≡ table → HasSameKeys rule schema item.before (records (changed_table item.change) (changed_bookmark item.change)))
    × HasKeyBefores rule schema table (if is_standing item then after_item records item else records) items

-- ---- in every state that lawful entries reach

-- the column is there, and is no escrow column
abbrev pub is_plain_column : Table → ℕ → Bool
is_plain_column table id = elim (column_of_id table.columns id) [ Some column ↦ not column.escrow | None ↦ false ]

-- the index names plain columns alone
abbrev pub IsPlainIndex : Table → IndexRule → Type 0
IsPlainIndex table rule = AllByRecursion (λ id. is_plain_column table id ≡ true) (rule_columns rule)

-- An index that names plain columns alone, and sees none of the kept sums, nor anything of them in the records before them.
abbrev pub IsApartFromSums : Records → List PastChange → Table → IndexRule → Type 0
IsApartFromSums base kept table rule = IsPlainIndex table rule × SeesNoSum rule table.id kept × HasKeyBefores rule (schema_of table) table.id base kept

-- So are all indexes of all tables.
pub record HasEscrowSums (base : Records) (kept : List PastChange) (state : DatabaseState) : Type 0 where
  pub tables : (id : ℕ) → IfSome (table_with_id state.tables id) (λ table. AllByRecursion (IsApartFromSums base kept table) table.indexes)
