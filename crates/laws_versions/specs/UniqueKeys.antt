-- Keys of a unique index: no reader finds one at two records.
use Rattle.std.specs.Prelude.{◌≡◌, ℕ, ◌⊎◌, Bool, true, false, List, [], ◌∷◌, Option, Some, IfSome, if◌then◌else◌, bytes_eq}
use Rattle.std.specs.List.{AllByRecursion, list_all}
use Rattle.column_set.specs.RecordValues.{RecordFields}
use Rattle.index_derive.specs.declared.rules.IndexRule.{IndexRule}
use Rattle.index_derive.specs.declared.rules.Schema.{Schema}
use Rattle.index_derive.specs.Entries.{is_legal, is_unique, has_double_key}
use Rattle.database_state.specs.Table.{Table, row_at, schema_of, table_with_id}
use Rattle.index_derive.specs.Schemas.{primary_rule, rule_with_id}
use Rattle.column_set.specs.ChangedRecords.{changed_table, changed_bookmark}
use Rattle.database_state.specs.SchemaChanges.{has_column, rule_columns}
use Rattle.database_state.specs.State.{DatabaseState, PastChange, Transaction, transaction_of}
use Rattle.database_state.specs.Conflicts.{collide, yields_key}
use Rattle.laws_versions.specs.Records.{Records, after_item}
use Rattle.laws_versions.specs.History.{EachTwo, InOrderWhere}
use Rattle.laws_versions.specs.Readers.{is_standing}

-- no two records of the table share a key
abbrev pub AreUnique : IndexRule → Schema → ℕ → Records → Type 0
AreUnique rule schema table records =
    (one other key : List ℕ) → bytes_eq one other ≡ false → yields_key rule schema key (records table one) ≡ true → yields_key rule schema key (records table other) ≡ true → ⊥

-- the key is new to the record that the change leaves
abbrev pub BringsKey : IndexRule → Schema → List ℕ → PastChange → Type 0
BringsKey rule schema key item = yields_key rule schema key item.after ≡ true × yields_key rule schema key item.before ≡ false

-- Where a standing change brings a key, no other record has it among those that the standing changes before it leave.
abbrev pub BringsFreeKeys : IndexRule → Schema → ℕ → Records → List PastChange → Type 0
BringsFreeKeys rule schema table records [] = Unit {0}
BringsFreeKeys rule schema table records (item ∷ items) =
    (is_standing item ≡ true → changed_table item.change ≡ table → (key other : List ℕ) → BringsKey rule schema key item → bytes_eq (changed_bookmark item.change) other ≡ false → yields_key rule schema key (records table other) ≡ false)
    × BringsFreeKeys rule schema table (if is_standing item then after_item records item else records) items

-- the later brings a key that the earlier's record, which is another one, had before it
abbrev pub MeetsKey : IndexRule → Schema → ℕ → PastChange → PastChange → Type 0
MeetsKey rule schema table earlier later =
    (changed_table earlier.change ≡ table) × (changed_table later.change ≡ table) × (bytes_eq (changed_bookmark later.change) (changed_bookmark earlier.change) ≡ false)
    × ((key : List ℕ) × (yields_key rule schema key earlier.before ≡ true) × BringsKey rule schema key later)

-- A standing change that has a key which a later one brings to another record is apart from that one, as of two that collide.
abbrev pub InKeyOrder : IndexRule → Schema → ℕ → (ℕ → Option Transaction) → PastChange → PastChange → Type 0
InKeyOrder rule schema table = InOrderWhere (MeetsKey rule schema table)

-- What makes the keys of a unique index of a table unique for every reader: they are at first, standing changes bring free
-- keys, and changes that meet in a key are in order.
pub record HasFreeKeys (rule : IndexRule) (schema : Schema) (table : ℕ) (transactions : ℕ → Option Transaction) (base : Records) (kept : List PastChange) : Type 0 where
  pub at_first : AreUnique rule schema table base
  pub free_keys : BringsFreeKeys rule schema table base kept
  pub key_order : EachTwo (InKeyOrder rule schema table transactions) kept

-- Whoever sees the later of two changes that collide, or meet in a key, sees the earlier.
abbrev pub SeesEarlier : IndexRule → Schema → ℕ → (PastChange → Bool) → PastChange → PastChange → Type 0
SeesEarlier rule schema table test earlier later =
    is_standing earlier ≡ true → test later ≡ true → (collide earlier.change later.change ≡ true) ⊎ MeetsKey rule schema table earlier later → test earlier ≡ true

-- ---- all unique indexes

-- An index is found by its number, and its columns are the table's; a primary one is found as such, and is legal.
abbrev pub IsSoundIndex : Table → IndexRule → Type 0
IsSoundIndex table rule =
    (rule_with_id (schema_of table) rule.id.0 ≡ Some rule) × (list_all (has_column table) (rule_columns rule) ≡ true)
    × (rule.flags.primary ≡ true → (primary_rule (schema_of table) ≡ Some rule) × (is_legal rule (schema_of table) ≡ true))

-- the record has no key but its bookmark
abbrev pub HasOwnKey : IndexRule → Schema → List ℕ → Option RecordFields → Type 0
HasOwnKey rule schema bookmark values = (key : List ℕ) → yields_key rule schema key values ≡ true → key ≡ bookmark

-- In a primary index a record's key is its bookmark: of the records at first, and of those before and after each change.
pub record HasBookmarkKeys (rule : IndexRule) (schema : Schema) (table : ℕ) (base : Records) (kept : List PastChange) : Type 0 where
  pub at_first : (bookmark : List ℕ) → HasOwnKey rule schema bookmark (base table bookmark)
  pub changes : AllByRecursion (λ item. changed_table item.change ≡ table → HasOwnKey rule schema (changed_bookmark item.change) item.before × HasOwnKey rule schema (changed_bookmark item.change) item.after) kept

-- the keys of an index of a table, where it is unique
abbrev pub IsUniqueIndex : (ℕ → Option Transaction) → Records → List PastChange → Table → IndexRule → Type 0
IsUniqueIndex transactions base kept table rule =
    is_unique rule ≡ true → HasFreeKeys rule (schema_of table) table.id transactions base kept × (rule.flags.primary ≡ true → HasBookmarkKeys rule (schema_of table) table.id base kept)

abbrev pub HasUniqueIndexes : (ℕ → Option Transaction) → Records → List PastChange → Table → Type 0
HasUniqueIndexes transactions base kept table = AllByRecursion (λ rule. IsSoundIndex table rule × IsUniqueIndex transactions base kept table rule) table.indexes

-- All indexes of all tables are sound, and the keys of the unique ones are free, or bookmarks.
pub record HasUniqueKeys (base : Records) (kept : List PastChange) (state : DatabaseState) : Type 0 where
  pub tables : (id : ℕ) → IfSome (table_with_id state.tables id) (HasUniqueIndexes (transaction_of state) base kept)

-- the same of the records of a table alone
abbrev pub IsUniqueTable : Table → Type 0
IsUniqueTable table =
    AllByRecursion (λ rule. IsSoundIndex table rule × (is_unique rule ≡ true → (has_double_key rule (schema_of table) table.rows ≡ false)
    × (rule.flags.primary ≡ true → (bookmark : List ℕ) → HasOwnKey rule (schema_of table) bookmark (row_at table.rows bookmark)))) table.indexes
