-- What the trees are while a record is put, once it is, and once a put is taken back.
use Rattle.std.specs.Prelude.{◌≡◌, ℕ, ◌≤◌, ◌≢◌, ◌&&◌, Bool, true, List, Option, Some, IfSome, bytes_eq, ◌==◌, false, ◌||◌, ◌++◌, [], None, IsSomeAnd, if◌then◌else◌}
use Rattle.std.specs.List.{list_any}
use Rattle.column_set.specs.RecordValues.{RecordFields, record_fits}
use Rattle.cursor_nav.specs.Places.{Pair}
use Rattle.database_state.specs.Conflicts.{yields_key}
use Rattle.index_derive.specs.Schemas.{rule_with_id}
use Rattle.laws_versions.specs.KeptEntries.{has_entry}
use Rattle.index_derive.specs.declared.rules.IndexRule.{IndexRule}
use Rattle.index_derive.specs.declared.rules.Schema.{Schema}
use Rattle.table_trees.specs.Sources.{row_given}
use Rattle.long_rows.specs.ReferenceCounts.{with_all_taken}
use Rattle.long_rows.specs.KeptRows.{Found}
use Rattle.table_trees.specs.StoredTables.{StoredTable, index_entries, table_indexes, table_long_values, table_nodes, has_index}
use Rattle.laws_engine.specs.HeldRecords.{HeldRecord}
use Rattle.laws_engine.specs.Variants.{is_variant_key}
use Rattle.btree_inplace.specs.Order.{extent_in, get_in}
use Rattle.stored_variants.specs.PutRecords.{HasKeysOf, Keys}
use Rattle.stored_variants.specs.RecordRows.{row_under}
use Rattle.stored_variants.specs.VersionsKept.{only_secondary}
use Rattle.variant_trees.specs.GoneKeys.{ChangesEntries, KeepsValues, index_numbers, table_numbers}

-- ---- keys

-- one key of an index, and some of it
abbrev pub one_key : ℕ → List ℕ → Keys
one_key index key other own = (index == other) && bytes_eq own key

abbrev pub some_keys : ℕ → List (List ℕ) → Keys
some_keys index keys other own = (index == other) && list_any (bytes_eq own) keys

-- The indexes of a table have the keys for a record, beside all that they had.
pub record HasKeys (table : ℕ) (bookmark : List ℕ) (keys : Keys) (old new : List StoredTable) : Type 0 where
  pub others : ChangesEntries table old new
  pub entries : (index : ℕ) (key own : List ℕ) → has_entry key own (index_entries new table index) ≡ (has_entry key own (index_entries old table index) || (bytes_eq own bookmark && keys index key))

-- They may have some of the keys.
pub record MayHaveKeys (table : ℕ) (bookmark : List ℕ) (keys : Keys) (old new : List StoredTable) : Type 0 where
  pub others : ChangesEntries table old new
  pub stay : (index : ℕ) (key own : List ℕ) → has_entry key own (index_entries old table index) ≡ true → has_entry key own (index_entries new table index) ≡ true
  pub only : (index : ℕ) (key own : List ℕ) → has_entry key own (index_entries new table index) ≡ true → (has_entry key own (index_entries old table index) || (bytes_eq own bookmark && keys index key)) ≡ true

-- ---- keys of records

-- a key of an index is one of a record that fits the columns
abbrev pub IsKeyOfRecord : IndexRule → Schema → List ℕ → Type 0
IsKeyOfRecord rule schema key = (values : RecordFields) × (record_fits schema.columns values ≡ true) × (yields_key rule schema key (Some values) ≡ true)

abbrev pub AreKeysOfRecords : IndexRule → Schema → List Pair → Type 0
AreKeysOfRecords rule schema entries = (key own : List ℕ) → has_entry key own entries ≡ true → IsKeyOfRecord rule schema key

-- The rule of an index: it can take the record, and where it has a tree all keys in it are of records.
pub record CanTake (schema : Schema) (values : RecordFields) (table : ℕ) (trees : List StoredTable) (rule : IndexRule) : Type 0 where
  pub keys : HasKeysOf schema values rule
  pub there : rule.flags.primary ≡ false → has_index trees table rule.id.0 ≡ true
  pub derived : rule.flags.primary ≡ false → AreKeysOfRecords rule schema (index_entries trees table rule.id.0)

-- ---- nodes

abbrev pub is_place : ℕ → List ℕ → ℕ → List ℕ → Bool
is_place table bookmark other own = (table == other) && bytes_eq bookmark own

-- a place that must have a node: one without a byte where there was none
abbrev pub node_at_least : Bool → Option (List ℕ) → Option (List ℕ)
node_at_least true None = Some []
node_at_least must row = row

-- the bytes that are kept for a node are not fewer than they were
abbrev pub IsWidened : Option ℕ → Option ℕ → Type 0
IsWidened old new = IfSome old (λ n. IsSomeAnd new (λ m. n ≤ m))

abbrev pub AreWidened : List StoredTable → List StoredTable → Type 0
AreWidened old new = (other : ℕ) (own : List ℕ) → IsWidened (extent_in (table_nodes old other) own) (extent_in (table_nodes new other) own)

-- There is a node under the bookmark, with room for a row. All records, all long values and all indexes stay.
pub record HasRoom (table : ℕ) (bookmark : List ℕ) (size : ℕ) (old new : List StoredTable) : Type 0 where
  pub numbers : table_numbers new ≡ table_numbers old
  pub indexes : (other : ℕ) → table_indexes new other ≡ table_indexes old other
  pub rows : (other : ℕ) (own : List ℕ) → get_in (table_nodes new other) own ≡ node_at_least (is_place table bookmark other own) (get_in (table_nodes old other) own)
  pub extents : AreWidened old new
  pub values : KeepsValues old new
  pub room : IsSomeAnd (extent_in (table_nodes new table) bookmark) (λ extent. size ≤ extent)

-- There is a new node under the bookmark, with a row. All else stays.
pub record HasNewRow (table : ℕ) (bookmark row : List ℕ) (old new : List StoredTable) : Type 0 where
  pub numbers : table_numbers new ≡ table_numbers old
  pub indexes : (other : ℕ) → table_indexes new other ≡ table_indexes old other
  pub rows : (other : ℕ) (own : List ℕ) → get_in (table_nodes new other) own ≡ (if is_place table bookmark other own then Some row else get_in (table_nodes old other) own)
  pub extents : AreWidened old new
  pub values : KeepsValues old new

-- ---- the row

-- What a put finds in the trees: the long values of its table, the row before it and that of the record that was copied, if there
-- are such, and the number of its log entry.
abbrev pub put_found : ℕ → List StoredTable → ℕ → List ℕ → Option (List ℕ) → Found
put_found number trees table bookmark copied = record {
  values = table_long_values trees table;
  rows = row_given (row_under (table_nodes trees table) bookmark) ++ row_given copied;
  number = number;
}

-- a row where there is to be one
abbrev pub row_if : Bool → Option (List ℕ) → Option (List ℕ)
row_if false row = None
row_if true row = row

-- ---- a put that is not done, one that is taken back, and one that is done

-- There may be a node without a byte, and some of the keys.
pub record IsHalfPut (table : ℕ) (bookmark : List ℕ) (keys : Keys) (old new : List StoredTable) : Type 0 where
  pub numbers : table_numbers new ≡ table_numbers old
  pub indexes : (other : ℕ) → index_numbers new other ≡ index_numbers old other
  pub rows : (other : ℕ) (own : List ℕ) → get_in (table_nodes new other) own ≡ node_at_least (is_place table bookmark other own) (get_in (table_nodes old other) own)
  pub extents : AreWidened old new
  pub others : (other index : ℕ) → other ≢ table → index_entries new other index ≡ index_entries old other index
  pub stay : (index : ℕ) (key own : List ℕ) → has_entry key own (index_entries old table index) ≡ true → has_entry key own (index_entries new table index) ≡ true
  pub only : (index : ℕ) (key own : List ℕ) → has_entry key own (index_entries new table index) ≡ true → (has_entry key own (index_entries old table index) || (bytes_eq own bookmark && keys index key)) ≡ true

-- There is a new node with the row, and there may be some of the keys.
pub record IsNewPut (table : ℕ) (bookmark row : List ℕ) (keys : Keys) (old new : List StoredTable) : Type 0 where
  pub numbers : table_numbers new ≡ table_numbers old
  pub indexes : (other : ℕ) → index_numbers new other ≡ index_numbers old other
  pub rows : (other : ℕ) (own : List ℕ) → get_in (table_nodes new other) own ≡ (if is_place table bookmark other own then Some row else get_in (table_nodes old other) own)
  pub extents : AreWidened old new
  pub others : (other index : ℕ) → other ≢ table → index_entries new other index ≡ index_entries old other index
  pub stay : (index : ℕ) (key own : List ℕ) → has_entry key own (index_entries old table index) ≡ true → has_entry key own (index_entries new table index) ≡ true
  pub only : (index : ℕ) (key own : List ℕ) → has_entry key own (index_entries new table index) ≡ true → (has_entry key own (index_entries old table index) || (bytes_eq own bookmark && keys index key)) ≡ true

-- All is as it was, but for bytes that are kept for nodes, and for indexes that the table does not have.
pub record IsSame (table : ℕ) (schema : Schema) (old new : List StoredTable) : Type 0 where
  pub numbers : table_numbers new ≡ table_numbers old
  pub indexes : (other : ℕ) → index_numbers new other ≡ index_numbers old other
  pub rows : (other : ℕ) (own : List ℕ) → get_in (table_nodes new other) own ≡ get_in (table_nodes old other) own
  pub extents : AreWidened old new
  pub values : KeepsValues old new
  pub others : (other index : ℕ) → other ≢ table → index_entries new other index ≡ index_entries old other index
  pub entries : (index : ℕ) → IfSome (only_secondary (rule_with_id schema index)) (λ rule. (key own : List ℕ) → has_entry key own (index_entries new table index) ≡ has_entry key own (index_entries old table index))

-- The row stands under the bookmark, its table has the long values that the row was given, and its indexes have the keys beside all
-- that they had.
pub record IsPut (table : ℕ) (bookmark row : List ℕ) (given : List (List ℕ × List ℕ)) (keys : Keys) (old new : List StoredTable) : Type 0 where
  pub numbers : table_numbers new ≡ table_numbers old
  pub indexes : (other : ℕ) → index_numbers new other ≡ index_numbers old other
  pub rows : (other : ℕ) (own : List ℕ) → get_in (table_nodes new other) own ≡ (if is_place table bookmark other own then Some row else get_in (table_nodes old other) own)
  pub extents : AreWidened old new
  pub values : (other : ℕ) → table_long_values new other ≡ (if table == other then with_all_taken given (table_long_values old table) else table_long_values old other)
  pub others : (other index : ℕ) → other ≢ table → index_entries new other index ≡ index_entries old other index
  pub entries : (index : ℕ) (key own : List ℕ) → has_entry key own (index_entries new table index) ≡ (has_entry key own (index_entries old table index) || (bytes_eq own bookmark && keys index key))

-- the entries of a record are the keys of its variants
abbrev pub HasVariantKeys : Option RecordFields → List HeldRecord → Schema → ℕ → List ℕ → List StoredTable → Type 0
HasVariantKeys newest held schema table bookmark trees =
    (index : ℕ) → IfSome (only_secondary (rule_with_id schema index)) (λ rule. (key : List ℕ) → has_entry key bookmark (index_entries trees table index) ≡ is_variant_key newest held rule schema table key bookmark)
