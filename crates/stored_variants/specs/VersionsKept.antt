-- What the parts of the store keep of one another.
use Rattle.std.specs.Prelude.{◌≡◌, ◌≤◌, ℕ, true, false, not, List, map, filter, length, Option, Some, None, if◌then◌else◌, IfSome, IsSomeAnd, MatchOption, is_some}
use Rattle.std.specs.List.{AllByRecursion, list_all}
use Rattle.btree_inplace.specs.Order.{extent_in, get_in}
use Rattle.column_set.specs.RecordValues.{RecordFields, record_fits}
use Rattle.database_state.specs.Lawful.{is_indexable}
use Rattle.database_state.specs.SchemaChanges.{has_column, rule_columns}
use Rattle.database_state.specs.State.{is_open}
use Rattle.database_state.specs.Table.{Table, row_at, schema_of, table_with_id}
use Rattle.index_derive.specs.Schemas.{primary_rule, rule_with_id}
use Rattle.index_derive.specs.declared.rules.IndexRule.{IndexRule}
use Rattle.index_derive.specs.declared.rules.Schema.{Schema}
use Rattle.index_derive.specs.Entries.{is_escrow_column, is_legal, primary_key}
use Rattle.jet_catalog.specs.Catalog.{CatalogState, without_rows}
use Rattle.long_value.specs.Values.{Values}
use Rattle.page_image.specs.Page.{Node}
use Rattle.table_trees.specs.ShownCatalogs.{ShowsCatalog}
use Rattle.table_trees.specs.StoredTables.{StoredTable, index_entries, table_long_values, table_nodes}
use Rattle.table_trees.specs.StoredTrees.{StoredTrees}
use Rattle.version_store.specs.declared.calls.ChangeKind.{ChangeKind}
use Rattle.version_store.specs.declared.calls.ChangeKind.TheVariants as kind
use Rattle.version_store.specs.HeldChanges.{is_standing, HeldChange, is_rewrite}
use Rattle.laws_versions.specs.EscrowNumbers.{holds_number}
use Rattle.laws_engine.specs.HeldRecords.{HeldRecord}
use Rattle.laws_engine.specs.Variants.{HoldsVariants, has_variant}
use Rattle.stored_variants.specs.CountedValues.{AreCounted, HasNoValueBehind}
use Rattle.stored_variants.specs.RecordRows.{IsRecordRow, TableValues, held_record_in, record_of, row_under, rows_of_nodes}

-- ---- trees

-- the indexes that have entries of their own: the order of the primary index is that of the nodes
abbrev pub secondary_rules : Table → List IndexRule
secondary_rules table = filter (λ rule. not rule.flags.primary) table.indexes

abbrev pub only_secondary : Option IndexRule → Option IndexRule
only_secondary None = None
only_secondary (Some rule) = if rule.flags.primary then None else Some rule

-- the one of a number
abbrev pub secondary_rule : Table → ℕ → Option IndexRule
secondary_rule table index = only_secondary (rule_with_id (schema_of table) index)

-- a table's number, and those of the indexes that have a tree
abbrev pub tree_numbers : StoredTable → ℕ × List ℕ
tree_numbers trees = (trees.number, map (λ index. index.0) trees.indexes)

abbrev pub needed_trees : Table → ℕ × List ℕ
needed_trees table = (table.id, map (λ rule. rule.id.0) (secondary_rules table))

-- ---- rows

-- In a table with a primary index a record stands under its key there, and in one without under a number of 8 bytes.
abbrev pub IsBookmarkOf : Table → RecordFields → List ℕ → Type 0
IsBookmarkOf table values bookmark =
    MatchOption (primary_rule (schema_of table)) (length bookmark ≡ 8) (λ rule. bookmark ≡ primary_key rule (schema_of table) values)

-- A record holds one number, of four bytes, in each escrow column.
abbrev pub HoldsNumbers : Schema → RecordFields → Type 0
HoldsNumbers schema values = (column : ℕ) → is_escrow_column schema column ≡ true → holds_number values column ≡ true

-- A row of a table: its record fits the columns, and holds numbers in the escrow columns.
pub record IsRowOf (values : Values) (table : Table) (bytes : List ℕ) : Type 0 where
  pub row : IsRecordRow values bytes
  pub columns : record_fits table.columns (record_of values bytes) ≡ true
  pub numbers : HoldsNumbers (schema_of table) (record_of values bytes)

-- The row under a bookmark of a table: no index refuses its record, and the bookmark is its own.
pub record IsRowUnder (values : Values) (table : Table) (bookmark bytes : List ℕ) : Type 0 where
  pub fits : IsRowOf values table bytes
  pub indexable : is_indexable (schema_of table) (record_of values bytes) ≡ true
  pub own : IsBookmarkOf table (record_of values bytes) bookmark

-- ---- held changes

-- what is a sum adds to an escrow column
abbrev pub AddsToEscrow : Schema → ChangeKind → Type 0
AddsToEscrow schema kind.Put = Unit {0}
AddsToEscrow schema kind.Drop = Unit {0}
AddsToEscrow schema kind.Hold = Unit {0}
AddsToEscrow schema (kind.Add column amount) = is_escrow_column schema column.0 ≡ true

-- A held change is of a table of the catalog. Until it is undone the row before it is one of that table: the one that stood under
-- the bookmark. A drop that stands has one; while the change is open its node has room for it. A lock and a sum hold no row, and a
-- sum is one of an escrow column. Nothing is asked of the row before a change that is undone, whose long values may be gone.
pub record IsKeptChange (longs : TableValues) (tables : List Table) (trees : List StoredTable) (held : HeldChange) : Type 0 where
  pub named : is_some (table_with_id tables held.table) ≡ true
  pub before : is_standing held ≡ true → IfSome (table_with_id tables held.table) (λ table. IfSome held.before (IsRowUnder (longs held.table) table held.bookmark))
  pub drop : is_standing held ≡ true → held.kind ≡ kind.Drop → is_some held.before ≡ true
  pub room : is_open held.status ≡ true → IfSome held.before (λ row. IsSomeAnd (extent_in (table_nodes trees held.table) held.bookmark) (λ extent. length row ≤ extent))
  pub other : is_rewrite held.kind ≡ false → held.before ≡ None
  pub sum : IfSome (table_with_id tables held.table) (λ table. AddsToEscrow (schema_of table) held.kind)

-- ---- tables

-- An index is found by its number, is legal and of the table's columns, and has keys of 255 bytes at most.
pub record IsStoredRule (table : Table) (rule : IndexRule) : Type 0 where
  pub found : rule_with_id (schema_of table) rule.id.0 ≡ Some rule
  pub primary : rule.flags.primary ≡ true → primary_rule (schema_of table) ≡ Some rule
  pub legal : is_legal rule (schema_of table) ≡ true
  pub columns : list_all (has_column table) (rule_columns rule) ≡ true
  pub short : rule.key_most ≤ 255

-- The rows of the nodes are records of the table. A node stands exactly where a variant of its record is one, and the
-- entries of each index are the keys of all variants.
pub record IsKeptTable (trees : List StoredTable) (values : Values) (nodes : List Node) (held : List HeldRecord) (table : Table) : Type 0 where
  pub rules : AllByRecursion (IsStoredRule table) table.indexes
  pub rows : (bookmark : List ℕ) → IfSome (row_under nodes bookmark) (IsRowUnder values table bookmark)
  pub stands : (bookmark : List ℕ) → is_some (get_in nodes bookmark) ≡ has_variant (row_at (rows_of_nodes values nodes) bookmark) held table.id bookmark
  pub entries : (index : ℕ) → IfSome (secondary_rule table index) (λ rule. HoldsVariants (rows_of_nodes values nodes) held rule (schema_of table) table.id (index_entries trees table.id index))

-- The catalog has no records of its own. Each of its tables has its trees, in the order of the catalog. Tables and held changes
-- are kept, given the long values of each table.
pub record AreKeptWith (longs : TableValues) (tables : List Table) (trees : List StoredTable) (held : List HeldChange) : Type 0 where
  pub plain : map without_rows tables ≡ tables
  pub numbers : map tree_numbers trees ≡ map needed_trees tables
  pub each : (table : ℕ) → IfSome (table_with_id tables table) (IsKeptTable trees (longs table) (table_nodes trees table) (map (held_record_in longs) held))
  pub changes : AllByRecursion (IsKeptChange longs tables trees) held

-- The same with the long values in the trees.
abbrev pub AreKept : List Table → List StoredTable → List HeldChange → Type 0
AreKept tables trees held = AreKeptWith (table_long_values trees) tables trees held

-- A catalog and its trees are kept, and the nodes of the catalog beside the trees are those of this catalog. Each long value has
-- as many references as refer to it, and is of an entry from the first to the newest put.
pub record IsStore (newest : ℕ) (catalog : CatalogState) (trees : StoredTrees) (held : List HeldChange) : Type 0 where
  pub kept : AreKept catalog.tables trees.tables held
  pub shows : ShowsCatalog trees.catalog catalog
  pub counts : AreCounted trees.tables held
  pub entries : HasNoValueBehind newest trees.tables
