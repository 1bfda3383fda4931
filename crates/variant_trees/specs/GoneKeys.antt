-- The keys of a record that goes, as far as no variant of it has them any more.
use Rattle.std.specs.Prelude.{◌≡◌, ℕ, ◌≢◌, ◌&&◌, Bool, true, not, List, Option, Some, map, drop, IfSome, bytes_eq}
use Rattle.std.specs.List.{AllByRecursion}
use Rattle.column_set.specs.RecordValues.{RecordFields}
use Rattle.cursor_nav.specs.Places.{Pair}
use Rattle.database_state.specs.Conflicts.{yields_key}
use Rattle.index_derive.specs.Schemas.{rule_with_id}
use Rattle.laws_versions.specs.KeptEntries.{has_entry}
use Rattle.index_derive.specs.declared.rules.IndexRule.{IndexRule}
use Rattle.index_derive.specs.declared.rules.Schema.{Schema}
use Rattle.table_trees.specs.StoredTables.{StoredTable, index_entries, table_indexes, table_long_values, table_nodes}
use Rattle.version_store.specs.HeldChanges.{HeldChange, is_standing}
use Rattle.laws_engine.specs.HeldRecords.{HeldRecord}
use Rattle.laws_engine.specs.Variants.{is_variant_key}
use Rattle.stored_variants.specs.RecordRows.{TableValues, held_record_in, IsRecordRow}
use Rattle.stored_variants.specs.VersionsKept.{only_secondary}

-- ---- variants

-- the held changes from a place on
abbrev pub held_from : TableValues → ℕ → List HeldChange → List HeldRecord
held_from longs place held = map (held_record_in longs) (drop place held)

-- the rows before the puts and drops that are not undone stand for records
abbrev pub AreRows : TableValues → List HeldChange → Type 0
AreRows longs held = AllByRecursion (λ h. is_standing h ≡ true → IfSome h.before (IsRecordRow (longs h.table))) held

-- ---- keys that go

-- A key of the record that goes which no variant has: neither the newest one nor the one before a held change.
abbrev pub is_gone_key : Option RecordFields → List HeldRecord → IndexRule → Schema → ℕ → List ℕ → RecordFields → List ℕ → Bool
is_gone_key newest held rule schema table bookmark gone key = yields_key rule schema key (Some gone) && not (is_variant_key newest held rule schema table key bookmark)

-- Of the entries exactly those with such a key and the record's bookmark are gone.
abbrev pub LosesKeys : Option RecordFields → List HeldRecord → IndexRule → Schema → ℕ → List ℕ → RecordFields → List Pair → List Pair → Type 0
LosesKeys newest held rule schema table bookmark gone old new =
    (key own : List ℕ) → has_entry key own new ≡ (has_entry key own old && not (bytes_eq own bookmark && is_gone_key newest held rule schema table bookmark gone key))

-- The entry with a key and a bookmark is gone, unless the key is to stay.
abbrev pub LosesKey : (List ℕ → Bool) → List ℕ → List ℕ → List Pair → List Pair → Type 0
LosesKey stays gone bookmark old new =
    (key own : List ℕ) → has_entry key own new ≡ (has_entry key own old && not (bytes_eq own bookmark && (bytes_eq key gone && not (stays key))))

-- ---- trees

abbrev pub table_numbers : List StoredTable → List ℕ
table_numbers trees = map (λ x. x.number) trees

abbrev pub index_numbers : List StoredTable → ℕ → List ℕ
index_numbers trees table = map (λ x. x.0) (table_indexes trees table)

-- the long values of each table stay
abbrev pub KeepsValues : List StoredTable → List StoredTable → Type 0
KeepsValues old new = (table : ℕ) → table_long_values new table ≡ table_long_values old table

-- The tables, their indexes, their nodes and their long values stay, and so do the entries of all indexes but those of one table.
pub record ChangesEntries (table : ℕ) (old new : List StoredTable) : Type 0 where
  pub numbers : table_numbers new ≡ table_numbers old
  pub indexes : (other : ℕ) → index_numbers new other ≡ index_numbers old other
  pub nodes : (other : ℕ) → table_nodes new other ≡ table_nodes old other
  pub values : KeepsValues old new
  pub entries : (other index : ℕ) → other ≢ table → index_entries new other index ≡ index_entries old other index

-- The other indexes of the table keep their entries.
abbrev pub OthersKeep : ℕ → ℕ → List StoredTable → List StoredTable → Type 0
OthersKeep table index old new = (other : ℕ) → other ≢ index → index_entries new table other ≡ index_entries old table other

-- Each index with a tree of its own has lost the keys of the record.
abbrev pub LosesRecord : Option RecordFields → List HeldRecord → Schema → ℕ → List ℕ → RecordFields → List StoredTable → List StoredTable → Type 0
LosesRecord newest held schema table bookmark gone old new =
    (index : ℕ) → IfSome (only_secondary (rule_with_id schema index)) (λ rule. LosesKeys newest held rule schema table bookmark gone (index_entries old table index) (index_entries new table index))
