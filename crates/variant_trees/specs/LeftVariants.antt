-- A store in which a record still has what is left of a variant that is none any more.
use Rattle.std.specs.Prelude.{◌≡◌, ℕ, ◌==◌, Bool, true, false, not, ◌&&◌, List, [], ◌∷◌, drop, map, find, Option, Some, None, if◌then◌else◌, IfSome, bytes_eq, is_some, option_map, slice_get}
use Rattle.std.specs.List.{AllByRecursion, list_any}
use Rattle.btree_inplace.specs.Order.{get_in, has_key}
use Rattle.column_set.specs.RecordValues.{RecordFields}
use Rattle.database_state.specs.Table.{Table, row_at, schema_of, table_with_id}
use Rattle.laws_versions.specs.KeptEntries.{has_entry}
use Rattle.index_derive.specs.declared.rules.Schema.{Schema}
use Rattle.jet_catalog.specs.Catalog.{without_rows}
use Rattle.long_value.specs.Values.{Values}
use Rattle.page_image.specs.Page.{Node}
use Rattle.table_trees.specs.StoredTables.{StoredTable, index_entries, table_indexes, table_long_values, table_nodes}
use Rattle.version_store.specs.HeldChanges.{HeldChange}
use Rattle.laws_engine.specs.HeldRecords.{HeldRecord}
use Rattle.laws_engine.specs.Variants.{has_variant, is_variant_key}
use Rattle.variant_trees.specs.GoneKeys.{KeepsValues, is_gone_key}
use Rattle.stored_variants.specs.CountedValues.{AreCounted, BringsNoValue, newest_rows}
use Rattle.stored_variants.specs.RecordRows.{TableValues, held_record_in, row_under, rows_of_nodes}
use Rattle.stored_variants.specs.VersionsView.{with_newest}
use Rattle.stored_variants.specs.VersionsKept.{AreKept, IsKeptChange, IsRowUnder, IsStoredRule, needed_trees, secondary_rule, tree_numbers}

-- whether a node has no byte
abbrev pub is_empty_node : Option (List ℕ) → Bool
is_empty_node None = false
is_empty_node (Some []) = true
is_empty_node (Some (byte ∷ bytes)) = false

-- no two tables have one id
abbrev pub DistinctIds : List Table → Type 0
DistinctIds [] = Unit {0}
DistinctIds (t ∷ tables) = (list_any (λ (x : Table). x.id == t.id) tables ≡ false) × DistinctIds tables

-- No two tables have one id, and the table has this schema.
pub record HasSchema (tables : List Table) (table : ℕ) (schema : Schema) : Type 0 where
  pub ids : DistinctIds tables
  pub same : IfSome (table_with_id tables table) (λ t. schema ≡ schema_of t)

-- whether a record is the one of a table and a bookmark
abbrev pub is_this : ℕ → List ℕ → ℕ → List ℕ → Bool
is_this id bookmark table own = (id == table) && bytes_eq bookmark own

-- Of the nodes the one of a record is gone, unless a variant is left; it had no byte.
pub record LosesNode (is_left : Bool) (table : ℕ) (bookmark : List ℕ) (old new : List StoredTable) : Type 0 where
  pub numbers : map tree_numbers new ≡ map tree_numbers old
  pub indexes : (other : ℕ) → table_indexes new other ≡ table_indexes old other
  pub nodes : (other : ℕ) (own : List ℕ) → find (has_key own) (table_nodes new other) ≡ (if not is_left && is_this table bookmark other own then None else find (has_key own) (table_nodes old other))
  pub rows : (values : Values) (other : ℕ) → rows_of_nodes values (table_nodes new other) ≡ rows_of_nodes values (table_nodes old other)
  pub newest : (other : ℕ) → newest_rows (table_nodes new other) ≡ newest_rows (table_nodes old other)
  pub values : KeepsValues old new

-- A table is kept, but that the record may have a node, and keys of a record that goes, which no variant of it has.
pub record IsLeft (trees : List StoredTable) (values : Values) (nodes : List Node) (held : List HeldRecord) (id : ℕ) (bookmark : List ℕ) (gone : RecordFields) (table : Table) : Type 0 where
  pub rules : AllByRecursion (IsStoredRule table) table.indexes
  pub rows : (own : List ℕ) → IfSome (row_under nodes own) (IsRowUnder values table own)
  pub stands : (own : List ℕ) → has_variant (row_at (rows_of_nodes values nodes) own) held table.id own
      ≡ (is_some (get_in nodes own) && not (is_this id bookmark table.id own && not (has_variant (row_at (rows_of_nodes values nodes) own) held table.id own)))
  pub entries : (index : ℕ) → IfSome (secondary_rule table index) (λ rule. (key own : List ℕ) → is_variant_key (row_at (rows_of_nodes values nodes) own) held rule (schema_of table) table.id key own
      ≡ (has_entry key own (index_entries trees table.id index) && not (is_this id bookmark table.id own && is_gone_key (row_at (rows_of_nodes values nodes) own) held rule (schema_of table) table.id own gone key)))

pub record AreLeft (longs : TableValues) (tables : List Table) (trees : List StoredTable) (held : List HeldChange) (id : ℕ) (bookmark : List ℕ) (gone : RecordFields) : Type 0 where
  pub plain : map without_rows tables ≡ tables
  pub numbers : map tree_numbers trees ≡ map needed_trees tables
  pub each : (table : ℕ) → IfSome (table_with_id tables table) (IsLeft trees (longs table) (table_nodes trees table) (map (held_record_in longs) held) id bookmark gone)
  pub changes : AllByRecursion (IsKeptChange longs tables trees) held

-- ---- the oldest change

abbrev pub first_table : List HeldChange → Option ℕ
first_table held = option_map (λ (h : HeldChange). h.table) (slice_get held 0)

-- The store is kept without the oldest change. It shows the tables that it showed, the other held changes hold the records that they
-- held, and no long value has come.
pub record IsForgotten (tables : List Table) (old new : List StoredTable) (held : List HeldChange) : Type 0 where
  pub kept : AreKept tables new (drop 1 held)
  pub counts : AreCounted new (drop 1 held)
  pub newest : map (with_newest new) tables ≡ map (with_newest old) tables
  pub held_records : map (held_record_in (table_long_values new)) (drop 1 held) ≡ map (held_record_in (table_long_values old)) (drop 1 held)
  pub values : BringsNoValue old new
