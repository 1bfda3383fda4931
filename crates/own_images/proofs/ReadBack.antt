-- The nodes of a catalog tell the catalog with the roots of its tables' trees.
use Rattle.std.proofs.Common.{◌≡◌, ℕ, Bool, true, false, not, ◌&&◌, ◌||◌, List, [], ◌∷◌, Option, Some, None, refl, ap, ◌∙◌}
use Rattle.std.specs.Prelude.{◌==◌, bytes_eq, map, if◌then◌else◌}
use Rattle.std.specs.List.{AllByRecursion, list_all}
use Rattle.std.proofs.lemmas.Bool.{and_from}
use Rattle.catalog_grammar.proofs.ItemLaws.{item_again}
use Rattle.catalog_grammar.proofs.ReadBack.{told_again}
use Rattle.catalog_grammar.proofs.TaggedLongs.{read_own}
use Rattle.catalog_grammar.specs.CatalogBytes.{item_fits, item_node}
use Rattle.catalog_grammar.specs.CatalogSteps.{Roots, rooted, rooted_tables}
use Rattle.catalog_grammar.specs.Catalogs.{CatalogTable, catalog_fits, catalog_items, catalog_nodes, has_rising_parts, has_tagged_longs, rise_above, tables_of_items}
use Rattle.catalog_grammar.specs.declared.items.CatalogItem.{CatalogItem}
use Rattle.column_set.specs.NumberReading.{◌>>=◌}
use Rattle.column_set.specs.declared.columns.Column.{Column}
use Rattle.common_lemmas.proofs.Booleans.{and_left, and_right, impossible}
use Rattle.common_lemmas.proofs.Lists.{all_listed, all_weaker}
use Rattle.common_lemmas.proofs.Numbers.{equal_bytes, self_equal}
use Rattle.database_state.specs.Lawful.{is_name}
use Rattle.database_state.specs.SchemaChanges.{is_type_long}
use Rattle.database_state.specs.Table.{Table}
use Rattle.jet_base.specs.TypeKinds.{is_long_type}
use Rattle.jet_catalog.specs.Catalog.{without_rows}
use Rattle.laws_images.specs.SoundStates.{IsSoundTable, is_number_of_kind, is_sound_column}
use Rattle.page_image.specs.Page.{Node}
use Rattle.table_trees.specs.StoredTrees.{roots_by_number}
use Rattle.image_findings.specs.CatalogFindings.{CatalogTold, are_same_nodes, catalog_told, is_same_node, is_sound_catalog, items_in, table_of, told_by}
use Rattle.own_images.proofs.Making.{table_again}
use Rattle.own_images.proofs.SoundParts.{HasSoundParts, sound_catalog, sound_parts}
use Rattle.own_images.specs.OwnStores.{IsOwnStore, OwnStore, told_of}

-- ---- nodes

items_again : (items : List CatalogItem) → list_all item_fits items ≡ true → items_in (map item_node items) ≡ Some items
items_again [] h = refl
items_again (x ∷ items) h =
    ap (λ (o : Option CatalogItem). o >>= λ told. items_in (map item_node items) >>= λ rest. Some (told ∷ rest)) (item_again x (and_left (item_fits x) (list_all item_fits items) h))
    ∙ ap (λ (o : Option (List CatalogItem)). o >>= λ rest. Some (x ∷ rest)) (items_again items (and_right (item_fits x) (list_all item_fits items) h))

pub same_node : (n : Node) → is_same_node n n ≡ true
same_node n =
    and_from (bytes_eq n.key n.key) ((n.extent == n.extent) && bytes_eq n.data n.data) (equal_bytes n.key n.key refl)
    (and_from (n.extent == n.extent) (bytes_eq n.data n.data) (self_equal n.extent) (equal_bytes n.data n.data refl))

pub same_nodes : (nodes : List Node) → are_same_nodes nodes nodes ≡ true
same_nodes [] = refl
same_nodes (n ∷ nodes) = and_from (is_same_node n n) (are_same_nodes nodes nodes) (same_node n) (same_nodes nodes)

abbrev made : ℕ → List CatalogTable → CatalogTold
made greatest tables = record { greatest = greatest; tables = tables }

told_back : (greatest : ℕ) (tables : List CatalogTable) → catalog_fits greatest tables ≡ true → list_all has_tagged_longs tables ≡ true → catalog_told (catalog_nodes greatest tables) ≡ Some (made greatest tables)
told_back greatest tables fits tagged =
    let items = catalog_items greatest tables in
    let nodes = catalog_nodes greatest tables in
    ap (λ (o : Option (List CatalogItem)). o >>= λ told. told_by nodes told) (items_again items (and_left (list_all item_fits items) (rise_above 0 (map (λ (x : CatalogTable). x.table.id.0) tables) && list_all has_rising_parts tables) fits))
    ∙ ap (λ (us : List CatalogTable). if catalog_fits greatest us && are_same_nodes (catalog_nodes greatest us) nodes then Some (made greatest (tables_of_items items)) else None) (told_again greatest tables fits)
    ∙ ap (λ (vs : List CatalogTable). if catalog_fits greatest tables && are_same_nodes nodes nodes then Some (made greatest vs) else None) (read_own greatest tables fits tagged)
    ∙ ap (λ (b : Bool). if b then Some (made greatest tables) else None) (and_from (catalog_fits greatest tables) (are_same_nodes nodes nodes) fits (same_nodes nodes))

-- ---- long columns

third : (a b c d e : Bool) → (a && b && c && d && e) ≡ true → c ≡ true
third true true true d e h = refl
third true true false d e h = impossible h
third true false c d e h = impossible h
third false b c d e h = impossible h

column_tagged : (column : Column) → is_sound_column column ≡ true → (column.tagged || not (is_long_type column.kind)) ≡ true
column_tagged column h =
    third (is_name column.name) (is_number_of_kind column.kind column.tagged column.id.0) (column.tagged || not (is_long_type column.kind)) (not column.multi || column.tagged)
    (not column.escrow || (is_type_long column.kind && (not column.tagged && not column.multi))) h

table_tagged : (roots : Roots) (t : Table) → IsSoundTable t → has_tagged_longs (rooted roots t) ≡ true
table_tagged roots t s =
    all_listed (λ (column : Column). column.tagged || not (is_long_type column.kind)) t.columns
    (all_weaker (λ column. is_sound_column column ≡ true) (λ (column : Column). (column.tagged || not (is_long_type column.kind)) ≡ true) column_tagged t.columns s.columns)

tables_tagged : (roots : Roots) (tables : List Table) → AllByRecursion IsSoundTable tables → list_all has_tagged_longs (rooted_tables roots tables) ≡ true
tables_tagged roots [] all = refl
tables_tagged roots (t ∷ tables) all = and_from (has_tagged_longs (rooted roots t)) (list_all has_tagged_longs (rooted_tables roots tables)) (table_tagged roots t all.0) (tables_tagged roots tables all.1)

-- ---- tables

tables_back : (roots : Roots) (tables : List Table) → AllByRecursion IsSoundTable tables → map table_of (rooted_tables roots tables) ≡ map without_rows tables
tables_back roots [] all = refl
tables_back roots (t ∷ tables) all = λ i. table_again t (roots t.id) all.0.indexes_differ i ∷ tables_back roots tables all.1 i

-- ---- the store

pub parts : (store : OwnStore) → IsOwnStore store → HasSoundParts store.catalog
parts store own = sound_parts store.state store.catalog own.catalog own.sound

pub told_again_of : (store : OwnStore) → IsOwnStore store → catalog_told store.trees.catalog.nodes ≡ Some (told_of store)
told_again_of store own =
    let roots = roots_by_number store.trees.catalog.roots in
    ap catalog_told own.kept.shows.nodes
    ∙ told_back store.catalog.greatest_table (rooted_tables roots store.catalog.tables) own.kept.shows.writable (tables_tagged roots store.catalog.tables (parts store own).tables)

pub tables_are : (store : OwnStore) → IsOwnStore store → map table_of (told_of store).tables ≡ store.catalog.tables
tables_are store own = tables_back (roots_by_number store.trees.catalog.roots) store.catalog.tables (parts store own).tables ∙ own.kept.kept.plain

pub is_sound : (store : OwnStore) → IsOwnStore store → is_sound_catalog (told_of store).greatest (map table_of (told_of store).tables) ≡ true
is_sound store own = ap (is_sound_catalog store.catalog.greatest_table) (tables_are store own) ∙ sound_catalog store.catalog (parts store own)
