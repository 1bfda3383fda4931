-- The nodes of records beside the held changes, and the rows in them.
use Rattle.std.specs.Prelude.{ℕ, ◌==◌, Bool, true, not, ◌&&◌, ◌||◌, nat_le, nat_lt, bytes_eq, List, [], ◌++◌, length, map, filter, Option, Some, None, is_some, is_none, unwrap_or, reverse}
use Rattle.std.specs.List.{list_any}
use Rattle.jet_base.specs.ColumnType.{from_little_endian}
use Rattle.btree_inplace.specs.Order.{get_in}
use Rattle.column_set.specs.RecordValues.{RecordFields}
use Rattle.column_set.specs.RowReading.{row_in}
use Rattle.database_state.specs.Lawful.{is_indexable}
use Rattle.database_state.specs.State.{is_open}
use Rattle.database_state.specs.Table.{Table, schema_of}
use Rattle.index_derive.specs.Entries.{primary_key}
use Rattle.index_derive.specs.Schemas.{primary_rule}
use Rattle.column_set.specs.Rows.{largest_row}
use Rattle.long_value.specs.Values.{Values}
use Rattle.page_image.specs.Page.{Node}
use Rattle.stored_variants.specs.RecordRows.{record_of, row_in_node}
use Rattle.version_store.specs.HeldChanges.{HeldChange, is_standing_rewrite}
use Rattle.image_findings.specs.Images.{Finding, at_least_key}
use Rattle.image_findings.specs.Images.Finding.{Row}
use Rattle.image_findings.specs.TableContents.{TableContents, is_short_row, long_values, row_fits}

-- ---- rows

-- whether a bookmark is the number of an entry that was made, in 8 bytes, the highest first
abbrev pub is_hidden_key : ℕ → List ℕ → Bool
is_hidden_key number bookmark = (length bookmark == 8) && (nat_le 1 (from_little_endian (reverse bookmark)) && nat_le (from_little_endian (reverse bookmark)) number)

-- with a primary index the record's key there, and without one a hidden key
abbrev pub is_own_bookmark : ℕ → Table → RecordFields → List ℕ → Bool
is_own_bookmark number table values bookmark = elim (primary_rule (schema_of table)) [ Some rule ↦ bytes_eq bookmark (primary_key rule (schema_of table) values) | None ↦ is_hidden_key number bookmark ]

-- Whether the bytes are a row that may stand under a bookmark of a table, given its long values: it fits the columns, no index refuses
-- its record, and the bookmark is its own.
abbrev pub is_row_under : ℕ → Values → Table → List ℕ → List ℕ → Bool
is_row_under number values table bookmark bytes =
    is_short_row bytes && (row_fits table.columns (row_in bytes) && (is_indexable (schema_of table) (record_of values bytes) && is_own_bookmark number table (record_of values bytes) bookmark))

-- ---- nodes

-- whether some held change of the record has a row before it
abbrev pub has_before : ℕ → List ℕ → List HeldChange → Bool
has_before table bookmark held = list_any (λ change. is_standing_rewrite table bookmark change && is_some change.before) held

-- whether a change of the record is open, and the row before it has more bytes than these
abbrev pub lacks_room : ℕ → ℕ → List ℕ → HeldChange → Bool
lacks_room extent table bookmark change = is_standing_rewrite table bookmark change && (is_open change.status && nat_lt extent (length (unwrap_or change.before [])))

abbrev pub is_newest_row : ℕ → Values → Table → List ℕ → Option (List ℕ) → Bool
is_newest_row number values table bookmark None = true
is_newest_row number values table bookmark (Some bytes) = is_row_under number values table bookmark bytes

-- A node stands where it has a row, or a held change of its record has one before it. It has a bookmark of 1 to 255 bytes, an extent
-- of 1,700 bytes at most with room for the row before each open change, and a row that may stand there, or none.
abbrev pub is_sound_node : ℕ → List HeldChange → TableContents → Node → Bool
is_sound_node number held t n =
    (nat_le 1 (length n.key) && nat_le (length n.key) 255)
    && ((is_some (row_in_node n.data) || has_before t.table.id n.key held)
    && ((nat_le n.extent largest_row && not (list_any (lacks_room n.extent t.table.id n.key) held))
    && is_newest_row number (long_values t) t.table n.key (row_in_node n.data)))

-- Each record that a held change is of has a node: the last change leaves a row, or is a drop, which has a row before it.
abbrev pub lacks_node : TableContents → HeldChange → Bool
lacks_node t h = (h.table == t.table.id) && is_none (get_in t.nodes h.bookmark)

abbrev pub unsound_bookmarks : ℕ → List HeldChange → TableContents → List (List ℕ)
unsound_bookmarks number held t = map (λ (n : Node). n.key) (filter (λ n. not (is_sound_node number held t n)) t.nodes) ++ map (λ (h : HeldChange). h.bookmark) (filter (lacks_node t) held)

-- the least bookmark whose node is not sound, or is missing
abbrev pub row_finding : ℕ → List HeldChange → TableContents → Option Finding
row_finding number held t = at_least_key (Row t.table.name) (unsound_bookmarks number held t)
