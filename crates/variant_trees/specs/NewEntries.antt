-- The entries that a new index is given.
use Rattle.std.specs.Prelude.{◌≡◌, ℕ, ◌≤◌, Bool, true, ◌⊎◌, List, bytes_eq, option_map, IfSome, IsOk}
use Rattle.std.specs.List.{list_any}
use Rattle.column_set.specs.RecordValues.{record_fits}
use Rattle.cursor_nav.specs.Places.{Pair}
use Rattle.database_state.specs.Conflicts.{yields_key}
use Rattle.database_state.specs.Table.{Table, schema_of}
use Rattle.laws_versions.specs.KeptEntries.{has_entry}
use Rattle.index_derive.specs.declared.rules.IndexRule.{IndexRule}
use Rattle.index_derive.specs.declared.rules.Schema.{Schema}
use Rattle.index_derive.specs.Entries.{entries, is_legal}
use Rattle.long_value.specs.Values.{Values}
use Rattle.page_image.specs.Page.{Node}
use Rattle.table_trees.specs.StoredTables.{StoredTable, without_index}
use Rattle.variant_trees.specs.GoneKeys.{ChangesEntries}
use Rattle.stored_variants.specs.RecordRows.{IsRecordRow, record_of, row_in_node, row_under}

-- A row that an index takes: its record fits the columns, and has keys.
pub record IsTakenRow (values : Values) (rule : IndexRule) (schema : Schema) (bytes : List ℕ) : Type 0 where
  pub row : IsRecordRow values bytes
  pub columns : record_fits schema.columns (record_of values bytes) ≡ true
  pub taken : IsOk (entries rule schema (record_of values bytes))

-- whether the record in a node's data has the key in the index; a node without a byte has none
abbrev pub is_key_in_node : Values → IndexRule → Schema → List ℕ → List ℕ → Bool
is_key_in_node values rule schema bytes key = yields_key rule schema key (option_map (record_of values) (row_in_node bytes))

-- whether the newest record under a bookmark has the key
abbrev pub is_newest_key : Values → IndexRule → Schema → List Node → List ℕ → List ℕ → Bool
is_newest_key values rule schema nodes key bookmark = yields_key rule schema key (option_map (record_of values) (row_under nodes bookmark))

-- A new index can be given the keys of the records in the nodes of its table: it is legal, has keys of 255 bytes at most, and
-- takes each row.
pub record CanFill (values : Values) (rule : IndexRule) (nodes : List Node) (table : Table) : Type 0 where
  pub legal : is_legal rule (schema_of table) ≡ true
  pub short : rule.key_most ≤ 255
  pub rows : (bookmark : List ℕ) → IfSome (row_under nodes bookmark) (IsTakenRow values rule (schema_of table))

-- The entries of an index are the keys of the newest records.
abbrev pub HasNewestKeys : Values → IndexRule → List Node → List Pair → Schema → Type 0
HasNewestKeys values rule nodes entries schema = (key bookmark : List ℕ) → has_entry key bookmark entries ≡ is_newest_key values rule schema nodes key bookmark

-- Of the trees the entries of one index alone are others.
pub record OnlyEntries (table index : ℕ) (old new : List StoredTable) : Type 0 where
  pub changes : ChangesEntries table old new
  pub rest : without_index table index new ≡ without_index table index old

-- a key that comes, or one of an entry that is there
abbrev pub IsAmong : List (List ℕ) → List Pair → List ℕ → Type 0
IsAmong keys entries key = (list_any (bytes_eq key) keys ≡ true) ⊎ ((own : List ℕ) × (has_entry key own entries ≡ true))
