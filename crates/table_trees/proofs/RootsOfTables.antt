-- The root pages that a store tells are those of its trees, and the pages of these trees are all that are taken.
use Rattle.std.proofs.Common.{◌≡◌, ◌≤◌, ◌+◌, ℕ, zero, suc, Option, Some, None, List, [], ◌∷◌, ◌++◌, map, refl, sym, ap, ◌∙◌, arith}
use Rattle.std.specs.Prelude.{All}
use Rattle.std.specs.List.{flat_map}
use Rattle.std.proofs.lemmas.List.{append-nil, append_assoc, map-append}
use Rattle.std.proofs.lemmas.List.Concat.{flat_map-append}
use Rattle.std.proofs.lemmas.List.Elements.{All-append, All-cons, All-head, All-nil, All-tail}
use Rattle.page_image.specs.Page.{node_at}
use Rattle.page_space.specs.Frames.{Frames, page_at}
use Rattle.btree_inplace.specs.Shape.{IsSubtree, child_of, page_in}
use Rattle.btree_inplace.specs.Trees.{Exchanges, IsTree, pages_of}
use Rattle.btree_inplace.specs.declared.TheConstants.{MAX_DEPTH}
use Rattle.btree_inplace.specs.declared.Tree.{Tree}
use Rattle.catalog_record.specs.CatalogTrees.{IsCatalogTree, nodes_in, own_pages, root_of}
use Rattle.catalog_record.specs.declared.tree.CatalogTree.{CatalogTree}
use Rattle.index_tree.specs.Entries.{entry_of_node}
use Rattle.long_value.specs.Shown.{shown_values}
use Rattle.table_trees.specs.KeptCatalogs.{IsTreeOrNone, kept_root, nodes_of_tree, pages_of_tree, root_of_tree}
use Rattle.table_trees.specs.Pages.{AreOwn, copies, times_taken}
use Rattle.table_trees.specs.StoredTrees.{StoredTrees}
use Rattle.table_trees.specs.TableParts.{IsIndex, IsTable, index_pages, index_root, stored_index, stored_table, table_pages, tree_roots}
use Rattle.table_trees.specs.TreesInSpace.{AreRootsOfAllPages, AreRootsOfIndexes, AreRootsOfTable, AreRootsOfTables, IsRootOfCatalog, StandsIn, TreePlace, all_roots, catalog_roots, place_pages, roots_of_table}
use Rattle.table_trees.specs.TreesView.{AreTables, stored_catalog, stored_tables}
use Rattle.table_trees.specs.declared.catalog.KeptCatalog.{KeptCatalog}
use Rattle.table_trees.specs.declared.table.Table.{Table}
use Rattle.table_trees.specs.declared.table.TableIndex.{TableIndex}
use Rattle.table_trees.proofs.Pages.{free_never, nothing_own, rearranged}

indexes_rooted : (frames : Frames) (indexes : List TableIndex) → All (IsIndex frames) indexes → AreRootsOfIndexes frames (map index_root indexes) (map (stored_index frames) indexes)
indexes_rooted frames [] good = tt
indexes_rooted frames (x ∷ indexes) good =
    let index = All-head (IsIndex frames) x indexes good in
    (((x.tree.tree.depth, index.tree.deep, index.tree.shape, index.nodes), sym (ap (map entry_of_node) index.nodes), refl), indexes_rooted frames indexes (All-tail (IsIndex frames) x indexes good))

table_rooted : (frames : Frames) (table : Table) → IsTable frames table → AreRootsOfTable frames (tree_roots table) (stored_table frames table)
table_rooted frames table is = record {
  number = refl;
  nodes = (table.nodes.tree.depth, is.nodes.tree.deep, is.nodes.tree.shape, refl);
  long_values = ((table.long_values.store.tree.depth, is.long_values.tree.deep, is.long_values.tree.shape, is.long_values.nodes), sym (ap shown_values is.long_values.nodes));
  indexes = indexes_rooted frames table.indexes.items is.indexes;
}

tables_rooted : (frames : Frames) (tables : List Table) → All (IsTable frames) tables → AreRootsOfTables frames (map tree_roots tables) (map (stored_table frames) tables)
tables_rooted frames [] good = tt
tables_rooted frames (t ∷ tables) good = (table_rooted frames t (All-head (IsTable frames) t tables good), tables_rooted frames tables (All-tail (IsTable frames) t tables good))

-- ---- where the trees stand

abbrev place_of : Tree → TreePlace
place_of tree = record { root = tree.root; depth = tree.depth }

abbrev index_place : TableIndex → TreePlace
index_place x = place_of x.tree.tree

abbrev table_places : Table → List TreePlace
table_places table = place_of table.nodes.tree ∷ place_of table.long_values.store.tree ∷ map index_place table.indexes.items

abbrev catalog_places : Option CatalogTree → List TreePlace
catalog_places None = []
catalog_places (Some tree) = place_of tree.tree ∷ []

abbrev root_at : TreePlace → ℕ
root_at place = place.root

abbrev IsShaped : Frames → TreePlace → Type 0
IsShaped frames place = (place.depth ≤ MAX_DEPTH) × IsSubtree place.depth frames place.root

-- ---- their root pages

index_roots_are : (indexes : List TableIndex) → map root_at (map index_place indexes) ≡ map (λ (x : ℕ × ℕ). x.1) (map index_root indexes)
index_roots_are [] = refl
index_roots_are (x ∷ indexes) = ap (λ (l : List ℕ). x.tree.tree.root ∷ l) (index_roots_are indexes)

table_roots_are : (table : Table) → map root_at (table_places table) ≡ roots_of_table (tree_roots table)
table_roots_are table = ap (λ (l : List ℕ). table.nodes.tree.root ∷ table.long_values.store.tree.root ∷ l) (index_roots_are table.indexes.items)

roots_of_all : (tables : List Table) → map root_at (flat_map table_places tables) ≡ flat_map roots_of_table (map tree_roots tables)
roots_of_all [] = refl
roots_of_all (t ∷ tables) =
    map-append root_at (table_places t) (flat_map table_places tables)
    ∙ ap (λ (l : List ℕ). l ++ map root_at (flat_map table_places tables)) (table_roots_are t)
    ∙ ap (λ (l : List ℕ). roots_of_table (tree_roots t) ++ l) (roots_of_all tables)

catalog_roots_are : (tree : Option CatalogTree) → map root_at (catalog_places tree) ≡ catalog_roots (root_of_tree tree)
catalog_roots_are None = refl
catalog_roots_are (Some tree) = refl

-- ---- their shapes

index_shapes : (frames : Frames) (indexes : List TableIndex) → All (IsIndex frames) indexes → All (IsShaped frames) (map index_place indexes)
index_shapes frames [] good = All-nil (IsShaped frames)
index_shapes frames (x ∷ indexes) good =
    let tree = (All-head (IsIndex frames) x indexes good).tree in
    All-cons (IsShaped frames) (index_place x) (map index_place indexes) (tree.deep, tree.shape) (index_shapes frames indexes (All-tail (IsIndex frames) x indexes good))

table_shapes : (frames : Frames) (table : Table) → IsTable frames table → All (IsShaped frames) (table_places table)
table_shapes frames table is =
    let indexes = map index_place table.indexes.items in
    let long_values = place_of table.long_values.store.tree in
    All-cons (IsShaped frames) (place_of table.nodes.tree) (long_values ∷ indexes) (is.nodes.tree.deep, is.nodes.tree.shape)
    (All-cons (IsShaped frames) long_values indexes (is.long_values.tree.deep, is.long_values.tree.shape) (index_shapes frames table.indexes.items is.indexes))

shapes_of_all : (frames : Frames) (tables : List Table) → All (IsTable frames) tables → All (IsShaped frames) (flat_map table_places tables)
shapes_of_all frames [] good = All-nil (IsShaped frames)
shapes_of_all frames (t ∷ tables) good =
    All-append (IsShaped frames) (table_places t) (flat_map table_places tables) (table_shapes frames t (All-head (IsTable frames) t tables good)) (shapes_of_all frames tables (All-tail (IsTable frames) t tables good))

catalog_shapes : (frames : Frames) (tree : Option CatalogTree) → IsTreeOrNone frames tree → All (IsShaped frames) (catalog_places tree)
catalog_shapes frames None is = All-nil (IsShaped frames)
catalog_shapes frames (Some tree) is = All-cons (IsShaped frames) (place_of tree.tree) [] (is.deep, is.shape) (All-nil (IsShaped frames))

-- ---- their pages

index_pages_are : (frames : Frames) (indexes : List TableIndex) → flat_map (place_pages frames) (map index_place indexes) ≡ flat_map (index_pages frames) indexes
index_pages_are frames [] = refl
index_pages_are frames (x ∷ indexes) = ap (λ (l : List ℕ). index_pages frames x ++ l) (index_pages_are frames indexes)

table_pages_are : (frames : Frames) (table : Table) → flat_map (place_pages frames) (table_places table) ≡ table_pages frames table
table_pages_are frames table =
    let nodes = place_pages frames (place_of table.nodes.tree) in
    let long_values = place_pages frames (place_of table.long_values.store.tree) in
    ap (λ (l : List ℕ). nodes ++ (long_values ++ l)) (index_pages_are frames table.indexes.items)
    ∙ sym (append_assoc nodes long_values (flat_map (index_pages frames) table.indexes.items))

pages_of_all : (frames : Frames) (tables : List Table) → flat_map (place_pages frames) (flat_map table_places tables) ≡ flat_map (table_pages frames) tables
pages_of_all frames [] = refl
pages_of_all frames (t ∷ tables) =
    flat_map-append (place_pages frames) (table_places t) (flat_map table_places tables)
    ∙ ap (λ (l : List ℕ). l ++ flat_map (place_pages frames) (flat_map table_places tables)) (table_pages_are frames t)
    ∙ ap (λ (l : List ℕ). table_pages frames t ++ l) (pages_of_all frames tables)

catalog_pages_are : (frames : Frames) (tree : Option CatalogTree) → flat_map (place_pages frames) (catalog_places tree) ≡ pages_of_tree frames tree
catalog_pages_are frames None = refl
catalog_pages_are frames (Some tree) = append-nil (pages_of_tree frames (Some tree))

-- ---- all of them

all_rooted : (frames : Frames) (kept : KeptCatalog) (tables : List Table) → AreTables frames kept tables → AreRootsOfAllPages frames (all_roots (kept_root kept) (map tree_roots tables))
all_rooted frames kept tables are = record {
  places = catalog_places kept.tree ++ flat_map table_places tables;
  roots_are =
      map-append root_at (catalog_places kept.tree) (flat_map table_places tables)
      ∙ ap (λ (l : List ℕ). l ++ map root_at (flat_map table_places tables)) (catalog_roots_are kept.tree)
      ∙ ap (λ (l : List ℕ). catalog_roots (kept_root kept) ++ l) (roots_of_all tables);
  shapes = All-append (IsShaped frames) (catalog_places kept.tree) (flat_map table_places tables) (catalog_shapes frames kept.tree are.catalog) (shapes_of_all frames tables are.each);
  forest = λ p.
      ap (copies p)
      (flat_map-append (place_pages frames) (catalog_places kept.tree) (flat_map table_places tables)
      ∙ ap (λ (l : List ℕ). l ++ flat_map (place_pages frames) (flat_map table_places tables)) (catalog_pages_are frames kept.tree)
      ∙ ap (λ (l : List ℕ). pages_of_tree frames kept.tree ++ l) (pages_of_all frames tables))
      ∙ are.forest p;
}

catalog_rooted : (frames : Frames) (tree : Option CatalogTree) → IsTreeOrNone frames tree → IsRootOfCatalog frames (root_of_tree tree) (nodes_of_tree frames tree)
catalog_rooted frames None is = refl
catalog_rooted frames (Some tree) is = (tree.tree.depth, is.deep, is.shape, refl)

pub stands_in : (frames : Frames) (kept : KeptCatalog) (tables : List Table) → AreTables frames kept tables → StandsIn frames (kept_root kept) (record { tables = stored_tables frames tables; catalog = stored_catalog frames kept tables })
stands_in frames kept tables are = record {
  catalog = catalog_rooted frames kept.tree are.catalog;
  tables = tables_rooted frames tables are.each;
  pages = all_rooted frames kept tables are;
}

-- ---- a catalog alone

nowhere : (p : ℕ) → page_at [] p ≡ None
nowhere zero = refl
nowhere (suc p) = refl

pub stands_alone : ((frames : Frames) (tree : Tree) → IsTree frames tree → AreOwn frames (pages_of frames tree)) → (frames : Frames) (catalog : CatalogTree) → IsCatalogTree frames catalog → Exchanges [] frames [] (own_pages frames catalog)
    → StandsIn frames (Some (root_of catalog)) (record { tables = []; catalog = record { nodes = nodes_in frames catalog; roots = [] } })
stands_alone own frames catalog is new =
    let pages = own_pages frames catalog in
    let balance : (p : ℕ) → copies p pages + times_taken [] p ≡ copies p [] + times_taken frames p = (rearranged [] frames [] pages new (nothing_own []) (own frames catalog.tree is)).balance in
    let all : (p : ℕ) → copies p pages ≡ times_taken frames p = λ p. omega (arith, balance p, free_never [] p (nowhere p)) in
    stands_in frames (record { tree = Some catalog }) []
    (record {
      catalog = is;
      each = All-nil (IsTable frames);
      forest = λ p. ap (copies p) (append-nil pages) ∙ all p;
      once = λ table. omega arith;
    })

-- ---- one tree below a root page

-- The kind of the root page tells whether it is a leaf, and its first child how deep the rest is.
pub one_depth : (depth other : ℕ) (frames : Frames) (root : ℕ) → IsSubtree depth frames root → IsSubtree other frames root → depth ≡ other
one_depth zero zero frames root one two = refl
one_depth zero (suc other) frames root one two = absurd (omega (arith, one.kind, two.0.kind))
one_depth (suc depth) zero frames root one two = absurd (omega (arith, one.0.kind, two.kind))
one_depth (suc depth) (suc other) frames root one two =
    ap suc (one_depth depth other frames (child_of (node_at (page_in frames root).nodes 0)) (one.2 0 one.1.some) (two.2 0 two.1.some))
