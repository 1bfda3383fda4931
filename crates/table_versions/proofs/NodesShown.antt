-- Nodes that are gone over where they lie, up to the first whose record a reader sees.
use Rattle.std.proofs.Common.{◌≡◌, ◌≤◌, ◌<◌, ℕ, Bool, Bor, true, false, cond, List, Option, Some, None, filter, length, option_map, refl, sym, ap, ◌∙◌}
use Rattle.std.specs.Prelude.{IfSome, is_some, option_and_then}
use Rattle.btree_inplace.specs.Order.{get_in}
use Rattle.column_set.specs.RecordValues.{RecordFields}
use Rattle.cursor_nav.specs.Places.{Pair, are_sorted, entry_after}
use Rattle.database_state.specs.Table.{record_in}
use Rattle.index_derive.specs.declared.entries.Place.{Place}
use Rattle.index_derive.specs.declared.entries.Place.TheVariants.{On}
use Rattle.jet_catalog.specs.Catalog.{CatalogState}
use Rattle.page_image.specs.Page.{Node}
use Rattle.table_trees.specs.StoredNodes.{bookmark_entries, node_after}
use Rattle.table_trees.specs.StoredTables.{table_long_values, StoredTable, table_nodes}
use Rattle.version_store.specs.declared.calls.Reader.{Reader}
use Rattle.version_store.specs.HeldChanges.{HeldChange, SeenRow, current, row_before, absent, seen_row}
use Rattle.laws_engine.specs.HeldRecords.{seen_record}
use Rattle.stored_variants.specs.RecordRows.{record_of, row_in_node}
use Rattle.stored_variants.specs.StoredVersions.{StoredVersions}
use Rattle.stored_variants.specs.VersionsKept.{AreKept}
use Rattle.stored_variants.specs.VersionsView.{stored_versions}
use Rattle.table_versions.specs.Walks.{is_row_seen, is_seen}
use Rattle.stored_variants.proofs.NodeWalks.{next_is_there, next_node}
use Rattle.table_versions.proofs.SeenRecords.{record_seen, seen_is}
use Rattle.stored_variants.proofs.Tables.{newest_at}
use Rattle.laws_engine.proofs.TableLemmas.Neighbours.{fewer_left, left_from, shown_after, shown_from}
use Rattle.long_value.specs.Values.{Values}

-- the entry of a node that was found
abbrev pub entry_at : Option Pair → Option Pair
entry_at found = option_map (λ (f : Pair). (f.0, f.0)) found

-- the neighbours among nodes are those among their bookmarks
abbrev pub NeighbourLaw : Type 0
NeighbourLaw = (place : Place) (nodes : List Node) → option_map (λ (found : Pair). (found.0, found.0)) (node_after place nodes) ≡ entry_after place (bookmark_entries nodes)

-- The node that was found, or else the next one that is shown, is the one that is looked for.
pub record StandsAt (test : Pair → Bool) (place : Place) (nodes : List Node) (found : Option Pair) : Type 0 where
  pub shown : entry_after place (filter test (bookmark_entries nodes)) ≡ shown_from test (bookmark_entries nodes) (entry_at found)
  pub row : IfSome found (λ (f : Pair). get_in nodes f.0 ≡ Some f.1)
  pub short : IfSome found (λ (f : Pair). length f.0 ≤ 255)

entry_next : NeighbourLaw → (place : Place) (nodes : List Node) (found : Option Pair) → found ≡ node_after place nodes → entry_at found ≡ entry_after place (bookmark_entries nodes)
entry_next law place nodes found e = ap entry_at e ∙ law place nodes

row_at_next : (place : Place) (nodes : List Node) (found : Option Pair) → are_sorted (bookmark_entries nodes) ≡ true → found ≡ node_after place nodes → IfSome found (λ (f : Pair). get_in nodes f.0 ≡ Some f.1)
row_at_next place nodes None sorted e = tt
row_at_next place nodes (Some f) sorted e =
    let found = next_node place nodes f.0 f.1 (sym e) in
    ap (get_in nodes) (sym found.key) ∙ ap (option_map (λ (n : Node). n.data)) (next_is_there place nodes found.node sorted found.next) ∙ ap (λ (row : List ℕ). Some row) found.row

pub stands_at : NeighbourLaw → (test : Pair → Bool) (start place : Place) (nodes : List Node) (found : Option Pair) → are_sorted (bookmark_entries nodes) ≡ true
    → entry_after start (filter test (bookmark_entries nodes)) ≡ entry_after place (filter test (bookmark_entries nodes)) → found ≡ node_after place nodes → IfSome found (λ (f : Pair). length f.0 ≤ 255) → StandsAt test start nodes found
stands_at law test start place nodes found sorted from e short = record {
  shown = from ∙ shown_after test place (entry_at found) (bookmark_entries nodes) sorted (entry_next law place nodes found e);
  row = row_at_next place nodes found sorted e;
  short = short;
}

-- a node that is shown is the one that is looked for
pub stands_on_it : (test : Pair → Bool) (start : Place) (nodes : List Node) (bookmark bytes : List ℕ) → StandsAt test start nodes (Some (bookmark, bytes)) → test (bookmark, bookmark) ≡ true
    → entry_after start (filter test (bookmark_entries nodes)) ≡ Some (bookmark, bookmark)
stands_on_it test start nodes bookmark bytes stands passes = stands.shown ∙ ap (λ b. cond b (Some (bookmark, bookmark)) (entry_after (On bookmark bookmark) (filter test (bookmark_entries nodes)))) passes

-- one that is not is passed over
pub goes_on : NeighbourLaw → (test : Pair → Bool) (start : Place) (nodes : List Node) (bookmark bytes : List ℕ) (next : Option Pair) → are_sorted (bookmark_entries nodes) ≡ true → StandsAt test start nodes (Some (bookmark, bytes))
    → test (bookmark, bookmark) ≡ false → next ≡ node_after (On bookmark bookmark) nodes → IfSome next (λ (f : Pair). length f.0 ≤ 255) → StandsAt test start nodes next
goes_on law test start nodes bookmark bytes next sorted stands fails e short =
    stands_at law test start (On bookmark bookmark) nodes next sorted
    (stands.shown ∙ ap (λ b. cond b (Some (bookmark, bookmark)) (entry_after (On bookmark bookmark) (filter test (bookmark_entries nodes)))) fails) e short

pub fewer_from : NeighbourLaw → (nodes : List Node) (bookmark bytes : List ℕ) (next : Option Pair) → next ≡ node_after (On bookmark bookmark) nodes
    → left_from (bookmark_entries nodes) (entry_at next) < left_from (bookmark_entries nodes) (entry_at (Some (bookmark, bytes)))
fewer_from law nodes bookmark bytes next e = fewer_left (bookmark, bookmark) (entry_at next) (bookmark_entries nodes) (entry_next law (On bookmark bookmark) nodes next e)

there_in : (vals : Values) (newest : Option (List ℕ)) (seen : SeenRow) → is_some (record_seen vals (option_map (record_of vals) newest) seen) ≡ is_row_seen newest seen
there_in vals None current = refl
there_in vals (Some row) current = refl
there_in vals newest (row_before row) = refl
there_in vals newest absent = refl

-- its parts where it lies
abbrev pub parts_of : Option (Bor (List ℕ) × Bor (List ℕ)) → Option Pair
parts_of found = option_map (λ f. (f.0.now, f.1.now)) found

pub short_parts : (found : Option (Bor (List ℕ) × Bor (List ℕ))) → IfSome found (λ f. length f.0.now ≤ 255) → IfSome (parts_of found) (λ (f : Pair). length f.0 ≤ 255)
short_parts None short = tt
short_parts (Some f) short = short

-- whether a reader sees the record of a node is told by the node's bytes
pub seen_in_place : (latest : ℕ) (catalog : CatalogState) (trees : List StoredTable) (held : List HeldChange) → AreKept catalog.tables trees held → ((table : ℕ) → are_sorted (bookmark_entries (table_nodes trees table)) ≡ true)
    → (now : StoredVersions) → stored_versions latest catalog trees held ≡ now → (id : ℕ) (reader : Reader) (bookmark bytes : List ℕ) → get_in (table_nodes trees id) bookmark ≡ Some bytes
    → is_seen reader now.store id (bookmark, bookmark) ≡ is_row_seen (row_in_node bytes) (seen_row id bookmark reader held)
seen_in_place latest catalog trees held kept sorted now shows id reader bookmark bytes here =
    ap is_some (sym (ap (λ (v : StoredVersions). seen_record id bookmark reader newest v.store.held) shows) ∙ seen_is (table_long_values trees) id bookmark reader newest held ∙ ap (λ (o : Option RecordFields). record_seen (table_long_values trees id) o (seen_row id bookmark reader held)) newest_is)
    ∙ there_in (table_long_values trees id) (row_in_node bytes) (seen_row id bookmark reader held)
  where
    newest : Option RecordFields
    newest = record_in now.store.tables id bookmark

    newest_is : newest ≡ option_map (record_of (table_long_values trees id)) (row_in_node bytes)
    newest_is =
        sym (ap (λ (v : StoredVersions). record_in v.store.tables id bookmark) shows) ∙ newest_at (table_long_values trees) trees catalog.tables kept.numbers sorted id bookmark
        ∙ ap (λ (o : Option (List ℕ)). option_map (record_of (table_long_values trees id)) (option_and_then row_in_node o)) here
