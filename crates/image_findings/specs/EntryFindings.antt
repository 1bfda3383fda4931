-- The entries of the indexes of an image, against those of all variants of its records.
use Rattle.std.specs.Prelude.{ℕ, ◌==◌, List, [], ◌∷◌, ◌++◌, map, flat_map, Option, Some, None, if◌then◌else◌}
use Rattle.column_set.specs.RecordValues.{RecordFields}
use Rattle.cursor_nav.specs.Places.{Pair, pair_lt}
use Rattle.database_state.specs.Table.{Rows, schema_of}
use Rattle.index_derive.specs.declared.rules.IndexRule.{IndexRule}
use Rattle.index_derive.specs.declared.rules.Schema.{Schema}
use Rattle.index_derive.specs.Entries.{key_list}
use Rattle.index_tree.specs.Entries.{entry_of_node, insert_entry_if_absent, node_of_entry}
use Rattle.page_image.specs.Page.{Node}
use Rattle.stored_variants.specs.RecordRows.{record_of, rows_of_nodes}
use Rattle.version_store.specs.HeldChanges.{HeldChange}
use Rattle.image_findings.specs.CatalogFindings.{is_same_node}
use Rattle.image_findings.specs.Images.{Finding, first_of}
use Rattle.image_findings.specs.Images.Finding.{Index}
use Rattle.image_findings.specs.TableContents.{TableContents, long_values}

-- pairs in order, each once
abbrev pub in_order : List Pair → List Pair
in_order [] = []
in_order (p ∷ pairs) = insert_entry_if_absent p (in_order pairs)

-- ---- entries that are wanted

-- the record before a held change of the table, under its bookmark
abbrev pub row_before : TableContents → HeldChange → Rows
row_before t h = elim h.before [ Some bytes ↦ if h.table == t.table.id then (h.bookmark, record_of (long_values t) bytes) ∷ [] else [] | None ↦ [] ]

-- the variants of a table's records: the newest ones, and those before the held changes
abbrev pub variants_of : List HeldChange → TableContents → Rows
variants_of held t = rows_of_nodes (long_values t) t.nodes ++ flat_map (row_before t) held

abbrev pub pairs_of : IndexRule → Schema → List ℕ × RecordFields → List Pair
pairs_of rule schema row = map (λ key. (key, row.0)) (key_list rule schema row.1)

-- the keys of all variants, each with its bookmark
abbrev pub wanted_entries : List HeldChange → TableContents → IndexRule → List Pair
wanted_entries held t rule = in_order (flat_map (pairs_of rule (schema_of t.table)) (variants_of held t))

-- ---- entries that are stored

-- the entry of a node; a node of another form is one that no variant has
abbrev pub stored_entry : Node → Pair
stored_entry n = if is_same_node (node_of_entry (entry_of_node n)) n then entry_of_node n else (n.key, [])

abbrev pub stored_entries : List Node → List Pair
stored_entries nodes = in_order (map stored_entry nodes)

-- ---- the least that is in one of the two alone

abbrev pub differing : (Pair → ℕ → ℕ → Finding) → List Pair → List Pair → Option Finding
differing found [] [] = None
differing found [] (q ∷ want) = Some (found q 0 1)
differing found (p ∷ have) [] = Some (found p 1 0)
differing found (p ∷ have) (q ∷ want) = if pair_lt p q then Some (found p 1 0) else if pair_lt q p then Some (found q 0 1) else differing found have want

-- a key is told with the bookmark behind it, as a node has it
abbrev pub found_entry : TableContents → IndexRule → Pair → ℕ → ℕ → Finding
found_entry t rule p have want = Index t.table.name rule.name (p.0 ++ p.1) have want

abbrev pub index_finding : List HeldChange → TableContents → IndexRule × List Node → Option Finding
index_finding held t index = differing (found_entry t index.0) (stored_entries index.1) (wanted_entries held t index.0)

-- the indexes of a table by rising number
abbrev pub entry_finding : List HeldChange → TableContents → Option Finding
entry_finding held t = first_of (map (index_finding held t) t.indexes)
