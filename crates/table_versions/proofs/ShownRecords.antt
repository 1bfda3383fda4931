-- Of the nodes of a table those that are shown are the records that a reader sees.
use Rattle.std.proofs.Common.{◌≡◌, ℕ, true, List, Option, Some, None, filter, map, option_map, refl, sym, ap, subst, ◌∙◌}
use Rattle.std.specs.Prelude.{IfSome, is_some}
use Rattle.btree_inplace.specs.Order.{get_in}
use Rattle.cursor_nav.specs.Places.{Pair, are_sorted}
use Rattle.database_state.specs.Table.{Rows, Table, row_at, rows_of, table_with_id}
use Rattle.index_derive.specs.Entries.{own_order}
use Rattle.jet_catalog.specs.Catalog.{CatalogState}
use Rattle.page_image.specs.Page.{Node}
use Rattle.table_trees.specs.StoredNodes.{bookmark_entries}
use Rattle.table_trees.specs.StoredTables.{table_long_values, StoredTable, table_nodes}
use Rattle.version_store.specs.declared.calls.Reader.{Reader}
use Rattle.version_store.specs.HeldChanges.{HeldChange}
use Rattle.laws_engine.specs.HeldRecords.{HeldRecord, seen_record}
use Rattle.laws_engine.specs.VersionedTables.{seen_rows, seen_table, seen_tables}
use Rattle.laws_engine.specs.Variants.{has_variant}
use Rattle.stored_variants.specs.RecordRows.{TableValues, held_record_in, rows_of_nodes}
use Rattle.stored_variants.specs.StoredVersions.{StoredVersions}
use Rattle.stored_variants.specs.VersionsView.{stored_versions, with_newest_by}
use Rattle.stored_variants.specs.VersionsKept.{AreKept, AreKeptWith, IsKeptTable}
use Rattle.table_versions.specs.Walks.{is_seen}
use Rattle.table_versions.proofs.OwnOrder.{Laws, own_order_is}
use Rattle.laws_engine.proofs.TableLemmas.SeenTables.{seen_at_id}
use Rattle.table_versions.proofs.ShownEntries.{store_of}
use Rattle.stored_variants.proofs.Tables.{found_number, no_nodes, table_at}

in_store : (longs : TableValues) → Laws → (tables : List Table) (trees : List StoredTable) (held : List HeldChange) → AreKeptWith longs tables trees held → ((table : ℕ) → are_sorted (bookmark_entries (table_nodes trees table)) ≡ true) → (id : ℕ) (reader : Reader)
    → own_order (rows_of (table_with_id (seen_tables reader (store_of longs trees tables held)) id)) ≡ filter (is_seen reader (store_of longs trees tables held) id) (bookmark_entries (table_nodes trees id))
in_store longs laws tables trees held kept sorted id reader =
    ap (λ (o : Option Table). own_order (rows_of o)) (seen_at_id reader records (map (with_newest_by longs trees) tables) id ∙ ap (option_map (seen_table reader records)) (table_at longs trees tables id))
    ∙ by (table_with_id tables id) refl (kept.each id)
  where
    records : List HeldRecord
    records = map (held_record_in longs) held

    by : (o : Option Table) → table_with_id tables id ≡ o → IfSome o (IsKeptTable trees (longs id) (table_nodes trees id) records)
        → own_order (rows_of (option_map (seen_table reader records) (option_map (with_newest_by longs trees) o))) ≡ filter (is_seen reader (store_of longs trees tables held) id) (bookmark_entries (table_nodes trees id))
    by None e is = sym (ap (λ (nodes : List Node). filter (is_seen reader (store_of longs trees tables held) id) (bookmark_entries nodes)) (no_nodes trees tables id kept.numbers e))
    by (Some t) e is =
        let same = found_number id tables t e in
        let nodes : List Node = table_nodes trees id in
        let stands : (bookmark : List ℕ) → is_some (get_in nodes bookmark) ≡ has_variant (row_at (rows_of_nodes (longs id) nodes) bookmark) records id bookmark =
        subst (λ n. (bookmark : List ℕ) → is_some (get_in nodes bookmark) ≡ has_variant (row_at (rows_of_nodes (longs id) nodes) bookmark) records n bookmark) same is.stands in
        let newest : rows_of_nodes (longs id) nodes ≡ rows_of (table_with_id (map (with_newest_by longs trees) tables) id) =
        ap (λ n. rows_of_nodes (longs n) (table_nodes trees n)) (sym same) ∙ sym (ap rows_of (table_at longs trees tables id ∙ ap (option_map (with_newest_by longs trees)) e)) in
        ap (λ n. own_order (seen_rows n reader records (rows_of_nodes (longs n) (table_nodes trees n)))) same
        ∙ own_order_is (longs id) laws id reader records nodes (sorted id) stands
        ∙ ap (λ (rows : Rows). filter (λ (entry : Pair). is_some (seen_record id entry.1 reader (row_at rows entry.1) records)) (bookmark_entries nodes)) newest

-- the records that the reader sees of a table are those of the nodes that are shown
pub seen_of_nodes : Laws → (latest : ℕ) (catalog : CatalogState) (trees : List StoredTable) (held : List HeldChange) → AreKept catalog.tables trees held → ((table : ℕ) → are_sorted (bookmark_entries (table_nodes trees table)) ≡ true)
    → (now : StoredVersions) → stored_versions latest catalog trees held ≡ now → (id : ℕ) (reader : Reader)
    → own_order (rows_of (table_with_id (seen_tables reader now.store) id)) ≡ filter (is_seen reader now.store id) (bookmark_entries (table_nodes trees id))
seen_of_nodes laws latest catalog trees held kept sorted now shows id reader =
    subst (λ (v : StoredVersions). own_order (rows_of (table_with_id (seen_tables reader v.store) id)) ≡ filter (is_seen reader v.store id) (bookmark_entries (table_nodes trees id))) shows
    (in_store (table_long_values trees) laws catalog.tables trees held kept sorted id reader)
