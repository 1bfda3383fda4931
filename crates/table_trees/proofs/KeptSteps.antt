-- The catalog beside the tables changes, and its schema steps find the roots of their trees.
use Rattle.std.proofs.Common.{◌≡◌, ℕ, suc, ◌+◌, ◌-◌, ◌==◌, Bool, Option, Some, None, List, [], ◌∷◌, get_or, map, find, option_map, unwrap_or, sym, ap, subst, ◌∙◌, arith}
use Rattle.std.specs.Prelude.{count_by}
use Rattle.std.specs.List.{flat_map, position_from}
use Rattle.common_lemmas.proofs.Booleans.{by_test}
use Rattle.index_derive.specs.declared.schema_calls.SchemaStep.{SchemaStep}
use Rattle.jet_catalog.specs.Catalog.{CatalogState}
use Rattle.page_image.specs.Page.{Node}
use Rattle.page_space.specs.Frames.{Frames}
use Rattle.table_trees.specs.Pages.{copies}
use Rattle.table_trees.specs.StoredTables.{is_table}
use Rattle.table_trees.specs.StoredTrees.{StoredCatalog, StoredRoots, StoredTrees, are_roots_of, no_roots, root_behind, roots_by_number, told_roots}
use Rattle.table_trees.specs.ShownCatalogs.{ShowsCatalog, ShowsStep}
use Rattle.table_trees.specs.KeptCatalogs.{HoldsKept, HoldsKeptStep, KeptBecomes, KeptFollows, kept_nodes, kept_pages}
use Rattle.table_trees.specs.TableParts.{IsTable, index_root, stored_table, table_pages, tree_roots}
use Rattle.table_trees.specs.TreesView.{AreTables, stored_catalog, stored_tables}
use Rattle.table_trees.specs.declared.catalog.KeptCatalog.{KeptCatalog}
use Rattle.table_trees.specs.declared.table.Table.{Table}
use Rattle.table_trees.specs.declared.table.TableIndex.{TableIndex}
use Rattle.table_trees.proofs.Lookups.{count-map, found_nowhere, placed, placed_nowhere}
use Rattle.table_trees.proofs.Members.{all_stay}
use Rattle.table_trees.proofs.Pages.{copies-append}
use Rattle.table_trees.proofs.StoreChanges.{TablesStay, catalog_same, is_named, stored_trees, tables_same}

-- ---- the roots of a table

-- the first that passes stands at its place
found_first : {X V : Type 0} (shown : X → V) (q : V → Bool) (xs : List X) (i k : ℕ) (d : X) → Some k ≡ position_from (λ x. q (shown x)) i xs → find q (map shown xs) ≡ Some (shown (get_or xs (k - i) d))
found_first shown q [] i k d e = absurd cc
found_first shown q (x ∷ xs) i k d e =
    by_test (q (shown x))
    (λ t.
    let here : Some k ≡ Some i = rw t at e in
    let same : k ≡ i = cc in
    let none : k - i ≡ 0 = omega (arith, same) in
    rw t (ap (λ n. Some (shown (get_or (x ∷ xs) n d))) (sym none)))
    (λ t.
    let later : Some k ≡ position_from (λ x. q (shown x)) (i + 1) xs = rw t at e in
    let one : k - i ≡ suc (k - (i + 1)) = omega (arith, (placed (λ x. q (shown x)) xs (i + 1) k later).0) in
    rw t (found_first shown q xs (i + 1) k d later ∙ ap (λ n. Some (shown (get_or (x ∷ xs) n d))) (sym one)))

found_here : {X V : Type 0} (shown : X → V) (q : V → Bool) (xs given : List X) (k : ℕ) (x : X) → given ≡ xs → Some k ≡ position_from (λ x. q (shown x)) 0 given → x ≡ get_or xs k x → find q (map shown xs) ≡ Some (shown x)
found_here shown q xs given k x same e is =
    let whole : k - 0 ≡ k = omega arith in
    found_first shown q xs 0 k x (e ∙ ap (position_from (λ x. q (shown x)) 0) same) ∙ ap (λ n. Some (shown (get_or xs n x))) whole ∙ ap (λ y. Some (shown y)) (sym is)

pub roots_found : (tables given : List Table) (n k : ℕ) (found : Table) → given ≡ tables → Some k ≡ position_from (is_named n) 0 given → found ≡ get_or tables k found → roots_by_number (map tree_roots tables) n ≡ told_roots (tree_roots found)
roots_found tables given n k found same e is =
    ap (λ (o : Option StoredRoots). unwrap_or (option_map told_roots o) no_roots) (found_here tree_roots (are_roots_of n) tables given k found same e is)

pub index_found : (items given : List TableIndex) (n k : ℕ) (found : TableIndex) → given ≡ items → Some k ≡ position_from (λ x. x.index.0 == n) 0 given → found ≡ get_or items k found → (index_root found).1 ≡ root_behind n (map index_root items)
index_found items given n k found same e is =
    sym (ap (λ (o : Option (ℕ × ℕ)). unwrap_or (option_map (λ x. x.1) o) 0) (found_here index_root (λ x. x.0 == n) items given k found same e is))

pub index_missing : (items given : List TableIndex) (n : ℕ) → given ≡ items → None ≡ position_from (λ x. x.index.0 == n) 0 given → 0 ≡ root_behind n (map index_root items)
index_missing items given n same e =
    let none = count-map index_root (λ x. x.0 == n) items ∙ placed_nowhere (λ x. x.index.0 == n) items 0 (e ∙ ap (position_from (λ x. x.index.0 == n) 0) same) in
    sym (ap (λ (o : Option (ℕ × ℕ)). unwrap_or (option_map (λ x. x.1) o) 0) (found_nowhere (λ x. x.0 == n) (map index_root items) none))

-- ---- the tables stay

-- The catalog has become another with these nodes, beside the same tables.
pub record StandsBeside (old new : Frames) (is : KeptCatalog) (tables : List Table) (list : List Node) : Type 0 where
  pub are : AreTables new is tables
  pub shown : stored_trees new is tables ≡ record { tables = stored_tables old tables; catalog = record { nodes = list; roots = map tree_roots tables } }

pub stands_beside : {old new : Frames} {cat is : KeptCatalog} {tables : List Table} {list : List Node} → TablesStay → AreTables old cat tables → KeptBecomes old cat new is list → StandsBeside old new is tables list
stands_beside {old} {new} {cat} {is} {tables} {list} stays are b =
    let all = all_stay IsTable table_pages stored_table stays.tables old new (kept_pages old cat) (kept_pages new is) tables b.pages are.each (λ p. omega (arith, are.forest p, copies-append p (kept_pages old cat) (flat_map (table_pages old) tables))) in
    record {
      are = record {
        catalog = b.tree;
        each = all.0;
        forest = λ p.
            let same : copies p (flat_map (table_pages new) tables) ≡ copies p (flat_map (table_pages old) tables) = ap (copies p) all.2 in
            omega (arith, same, are.forest p, b.pages.balance p, copies-append p (kept_pages old cat) (flat_map (table_pages old) tables), copies-append p (kept_pages new is) (flat_map (table_pages new) tables));
        once = λ m. let same : count_by (is_table m) (stored_tables new tables) ≡ count_by (is_table m) (stored_tables old tables) = ap (count_by (is_table m)) all.1 in omega (arith, same, are.once m);
      };
      shown = (λ i. record { tables = all.1 i; catalog = record { nodes = b.nodes i; roots = map tree_roots tables } });
    }

pub tables_beside : {old new : Frames} {is : KeptCatalog} {tables : List Table} {list : List Node} (cat : KeptCatalog) {s : StoredTrees} → StandsBeside old new is tables list → stored_trees old cat tables ≡ s → stored_tables new tables ≡ s.tables
tables_beside cat b e = tables_same b.shown ∙ tables_same e

pub catalog_beside : {old new : Frames} {is : KeptCatalog} {tables : List Table} (cat : KeptCatalog) {s : StoredTrees} → StandsBeside old new is tables (kept_nodes old cat) → stored_trees old cat tables ≡ s → stored_catalog new is tables ≡ s.catalog
catalog_beside cat b e = catalog_same b.shown ∙ catalog_same e

-- ---- the catalog that is shown

pub holds_shown : (frames : Frames) (cat : KeptCatalog) (tables : List Table) (s : StoredTrees) (catalog : CatalogState) → AreTables frames cat tables → stored_trees frames cat tables ≡ s → ShowsCatalog s.catalog catalog → HoldsKept frames cat (roots_by_number (map tree_roots tables)) catalog
holds_shown frames cat tables s catalog are e shows =
    let h : ShowsCatalog (stored_catalog frames cat tables) catalog = subst (λ (c : StoredCatalog). ShowsCatalog c catalog) (sym (catalog_same e)) shows in
    record { tree = are.catalog; nodes = h.nodes; writable = h.writable }

pub shows_after : {old new : Frames} {cat is : KeptCatalog} (tables : List Table) {after : CatalogState} → KeptFollows old cat new is (roots_by_number (map tree_roots tables)) after → ShowsCatalog (stored_catalog new is tables) after
shows_after tables f = record { nodes = f.becomes.nodes; writable = f.writable }

pub step_shown : (frames : Frames) (cat : KeptCatalog) (tables : List Table) (s : StoredTrees) (catalog : CatalogState) (made : SchemaStep) → AreTables frames cat tables → stored_trees frames cat tables ≡ s → ShowsStep s.catalog catalog made → HoldsKeptStep frames cat (roots_by_number (map tree_roots tables)) catalog made
step_shown frames cat tables s catalog made are e shows =
    let h : ShowsStep (stored_catalog frames cat tables) catalog made = subst (λ (c : StoredCatalog). ShowsStep c catalog made) (sym (catalog_same e)) shows in
    record { tree = are.catalog; nodes = h.after.nodes; through = record { before = h.before; after = h.after.writable } }
