-- A catalog that stands beside trees that change.
use Rattle.std.proofs.Common.{◌≡◌, ℕ, ◌+◌, ◌≤◌, Bool, true, false, Option, Some, None, List, [], ◌∷◌, ◌++◌, refl, sym, ap, subst, ◌∙◌, true≢false}
use Rattle.jet_base.specs.Ids.{table_id}
use Rattle.jet_base.specs.declared.ids.TableId.{TableId}
use Rattle.column_set.specs.declared.columns.Column.{Column}
use Rattle.index_derive.specs.declared.schema_calls.SchemaStep.{SchemaStep}
use Rattle.index_derive.specs.declared.schema_calls.SchemaStep.TheVariants as step
use Rattle.column_set.specs.RecordValues.{tagged_if_long}
use Rattle.database_state.specs.SchemaChanges.{new_table, with_column}
use Rattle.database_state.specs.Table.{Table, table_with_id, with_table}
use Rattle.jet_catalog.specs.Catalog.{CatalogState, catalog_after}
use Rattle.page_image.specs.Page.{Node}
use Rattle.catalog_grammar.specs.Catalogs.{catalog_nodes}
use Rattle.catalog_grammar.specs.CatalogSteps.{Roots, nodes_of_catalog}
use Rattle.page_space.specs.Frames.{Frames}
use Rattle.btree_inplace.specs.Trees.{AreApart, Exchanges}
use Rattle.catalog_record.specs.CatalogTrees.{CatalogBecomes, IsCatalogTree, nodes_in, own_pages}
use Rattle.catalog_record.specs.CatalogsKept.{HoldsCatalog, HoldsStep}
use Rattle.catalog_record.specs.declared.tree.CatalogTree.{CatalogTree}
use Rattle.table_trees.specs.Pages.{Rearranges, copies, times_taken}
use Rattle.table_trees.specs.KeptCatalogs.{HoldsKept, HoldsKeptStep, IsKeptCatalog, IsTreeOrNone, KeptBecomes, KeptFollows, kept_nodes, kept_pages, nodes_of_tree, pages_of_tree}
use Rattle.table_trees.specs.declared.catalog.KeptCatalog.{KeptCatalog}
use Rattle.table_trees.proofs.Pages.{apart, exchanged, nothing_own, rearranged, rearranged_twice, unchanged}
use Rattle.table_trees.proofs.NodeChanges.{TreePagesAreOwn}
use Rattle.table_trees.proofs.TableChanges.{before_own}

abbrev pub OtherCatalogsStay : Type 0
OtherCatalogsStay =
    (old new : Frames) (before after : List ℕ) (catalog : CatalogTree) → Exchanges old new before after → IsCatalogTree old catalog → AreApart (own_pages old catalog) before
    → IsCatalogTree new catalog × (nodes_in new catalog ≡ nodes_in old catalog) × (own_pages new catalog ≡ own_pages old catalog) × AreApart (own_pages new catalog) after

pub catalog_stays : OtherCatalogsStay → (old new : Frames) (before after : List ℕ) (tree : Option CatalogTree) → Rearranges old new before after → IsTreeOrNone old tree → ((p : ℕ) → copies p (pages_of_tree old tree) + copies p before ≤ times_taken old p)
    → IsTreeOrNone new tree × (nodes_of_tree new tree ≡ nodes_of_tree old tree) × (pages_of_tree new tree ≡ pages_of_tree old tree)
catalog_stays stays old new before after None r is bound = (is, refl, refl)
catalog_stays stays old new before after (Some tree) r is bound =
    let pages = own_pages old tree in
    let t = stays old new before after tree (exchanged old new before after r (before_own old pages before bound)) is (apart old pages before bound) in (t.0, t.1, t.2)

-- ---- a tree that stands

abbrev pub kept_tree : Option CatalogTree → KeptCatalog
kept_tree tree = record { tree = tree }

pub holds_tree : (frames : Frames) (given : Option CatalogTree) (tree : CatalogTree) (roots : Roots) (catalog : CatalogState) → given ≡ Some tree → HoldsKept frames (kept_tree given) roots catalog → HoldsCatalog frames tree roots catalog
holds_tree frames given tree roots catalog e h = record {
  tree = subst (IsTreeOrNone frames) e h.tree;
  nodes = ap (nodes_of_tree frames) (sym e) ∙ h.nodes;
  writable = h.writable;
}

-- a change of the tree is one of the catalog
pub tree_becomes : TreePagesAreOwn → (old : Frames) (given : Option CatalogTree) (tree : CatalogTree) (new : Frames) (is : CatalogTree) (list : List Node) → given ≡ Some tree → IsTreeOrNone old given → CatalogBecomes old tree new is list
    → KeptBecomes old (kept_tree given) new (kept_tree (Some is)) list
tree_becomes own old given tree new is list e good b =
    let was : IsCatalogTree old tree = subst (IsTreeOrNone old) e good in
    record {
      tree = b.tree;
      nodes = b.nodes;
      pages = subst (λ (o : Option CatalogTree). Rearranges old new (pages_of_tree old o) (own_pages new is)) (sym e)
          (rearranged old new (own_pages old tree) (own_pages new is) b.pages (own old tree.tree was) (own new is.tree b.tree));
    }

-- the same nodes
pub tree_same : TreePagesAreOwn → (old : Frames) (given : Option CatalogTree) (tree : CatalogTree) (new : Frames) (is : CatalogTree) → given ≡ Some tree → IsTreeOrNone old given → CatalogBecomes old tree new is (nodes_in old tree)
    → KeptBecomes old (kept_tree given) new (kept_tree (Some is)) (kept_nodes old (kept_tree given))
tree_same own old given tree new is e good b =
    subst (λ (l : List Node). KeptBecomes old (kept_tree given) new (kept_tree (Some is)) l) (ap (nodes_of_tree old) (sym e)) (tree_becomes own old given tree new is (nodes_in old tree) e good b)

pub tree_follows : TreePagesAreOwn → (old : Frames) (given : Option CatalogTree) (tree : CatalogTree) (new : Frames) (is : CatalogTree) (roots : Roots) (after : CatalogState) → given ≡ Some tree → IsTreeOrNone old given
    → CatalogBecomes old tree new is (nodes_of_catalog roots after) × HoldsCatalog new is roots after → KeptFollows old (kept_tree given) new (kept_tree (Some is)) roots after
tree_follows own old given tree new is roots after e good b = record { becomes = tree_becomes own old given tree new is (nodes_of_catalog roots after) e good b.0; writable = b.1.writable }

pub holds_still : {old mid : Frames} {was between : KeptCatalog} {roots : Roots} {catalog : CatalogState} → KeptBecomes old was mid between (kept_nodes old was) → HoldsKept old was roots catalog → HoldsKept mid between roots catalog
holds_still b h = record { tree = b.tree; nodes = b.nodes ∙ h.nodes; writable = h.writable }

pub follows_then : {old mid new : Frames} {was between is : KeptCatalog} {list : List Node} {roots : Roots} {after : CatalogState} → KeptBecomes old was mid between list → KeptFollows mid between new is roots after → KeptFollows old was new is roots after
follows_then {old} {mid} {new} {was} {between} {is} s t = record {
  becomes = record { tree = t.becomes.tree; nodes = t.becomes.nodes; pages = rearranged_twice old mid new (kept_pages old was) (kept_pages mid between) (kept_pages new is) s.pages t.becomes.pages };
  writable = t.writable;
}

-- the same nodes, twice
pub becomes_then : {old mid new : Frames} {was between is : KeptCatalog} → KeptBecomes old was mid between (kept_nodes old was) → KeptBecomes mid between new is (kept_nodes mid between) → KeptBecomes old was new is (kept_nodes old was)
becomes_then {old} {mid} {new} {was} {between} {is} s t = record { tree = t.tree; nodes = t.nodes ∙ s.nodes; pages = rearranged_twice old mid new (kept_pages old was) (kept_pages mid between) (kept_pages new is) s.pages t.pages }

-- ---- no tree

pub same_becomes : (frames : Frames) (kept : KeptCatalog) → IsKeptCatalog frames kept → KeptBecomes frames kept frames kept (kept_nodes frames kept)
same_becomes frames kept good = record { tree = good; nodes = refl; pages = unchanged frames (kept_pages frames kept) }

pub made_becomes : TreePagesAreOwn → (old new : Frames) (given : Option CatalogTree) (tree : CatalogTree) → given ≡ None → IsCatalogTree new tree → nodes_in new tree ≡ catalog_nodes 0 [] → Exchanges old new [] (own_pages new tree)
    → KeptBecomes old (kept_tree given) new (kept_tree (Some tree)) (kept_nodes old (kept_tree given))
made_becomes own old new given tree none is nodes e =
    subst (λ (o : Option CatalogTree). KeptBecomes old (kept_tree o) new (kept_tree (Some tree)) (nodes_of_tree old o)) (sym none)
    (record { tree = is; nodes = nodes; pages = rearranged old new [] (own_pages new tree) e (nothing_own old) (own new tree.tree is) })

pub none_becomes : (old new : Frames) (given : Option CatalogTree) → given ≡ None → Exchanges old new [] [] → KeptBecomes old (kept_tree given) new (kept_tree given) (kept_nodes old (kept_tree given))
none_becomes old new given none e =
    subst (λ (o : Option CatalogTree). KeptBecomes old (kept_tree o) new (kept_tree o) (nodes_of_tree old o)) (sym none)
    (record { tree = tt; nodes = refl; pages = rearranged old new [] [] e (nothing_own old) (nothing_own new) })

abbrev has_two : List Node → Bool
has_two [] = false
has_two (x ∷ []) = false
has_two (x ∷ (y ∷ nodes)) = true

no_tables : (roots : Roots) (greatest : ℕ) (tables : List Table) → catalog_nodes 0 [] ≡ nodes_of_catalog roots (record { greatest_table = greatest; tables = tables }) → tables ≡ []
no_tables roots greatest [] e = refl
no_tables roots greatest (t ∷ tables) e = absurd (true≢false (sym (ap has_two e)))

-- a catalog with a table has a tree
pub has_tree : {A : Type 0} (frames : Frames) (given : Option CatalogTree) (roots : Roots) (catalog : CatalogState) (id : ℕ) (t : Table) → given ≡ None → HoldsKept frames (kept_tree given) roots catalog → table_with_id catalog.tables id ≡ Some t → A
has_tree frames given roots catalog id t none h there =
    let empty : catalog.tables ≡ [] = no_tables roots catalog.greatest_table catalog.tables (ap (nodes_of_tree frames) (sym none) ∙ h.nodes) in
    absurd (some_or_none (sym (ap (λ (l : List Table). table_with_id l id) empty) ∙ there))
  where
    some_or_none : None ≡ Some t → ⊥
    some_or_none e = true≢false (sym (ap is_there e))
      where
        is_there : Option Table → Bool
        is_there None = false
        is_there (Some x) = true

-- ---- a step that is taken back

pub step_in_tree : (frames : Frames) (given : Option CatalogTree) (tree : CatalogTree) (roots : Roots) (catalog : CatalogState) (made : SchemaStep) → given ≡ Some tree → HoldsKeptStep frames (kept_tree given) roots catalog made → HoldsStep frames tree roots catalog made
step_in_tree frames given tree roots catalog made e h = record {
  tree = subst (IsTreeOrNone frames) e h.tree;
  nodes = ap (nodes_of_tree frames) (sym e) ∙ h.nodes;
  through = h.through;
}

-- a catalog without a tree has no table after a step
none_after : (frames : Frames) (given : Option CatalogTree) (roots : Roots) (catalog : CatalogState) (made : SchemaStep) → given ≡ None → HoldsKeptStep frames (kept_tree given) roots catalog made → (catalog_after catalog made).tables ≡ []
none_after frames given roots catalog made none h =
    no_tables roots (catalog_after catalog made).greatest_table (catalog_after catalog made).tables (ap (nodes_of_tree frames) (sym none) ∙ h.nodes)

pub new_table_has_tree : {A : Type 0} (frames : Frames) (given : Option CatalogTree) (roots : Roots) (catalog : CatalogState) (table : TableId) (name : List ℕ) → given ≡ None → HoldsKeptStep frames (kept_tree given) roots catalog (step.CreateTable table name) → A
new_table_has_tree frames given roots catalog table name none h = absurd (one_more catalog.tables (none_after frames given roots catalog (step.CreateTable table name) none h))
  where
    one_more : (tables : List Table) → tables ++ new_table table.0 name ∷ [] ≡ [] → ⊥
    one_more [] e = cc
    one_more (t ∷ tables) e = cc

pub column_has_tree : {A : Type 0} (frames : Frames) (given : Option CatalogTree) (roots : Roots) (catalog : CatalogState) (t : Table) (column : Column) → given ≡ None → HoldsKeptStep frames (kept_tree given) roots catalog (step.AddColumn (table_id t.id) column) → table_with_id catalog.tables t.id ≡ Some t → A
column_has_tree frames given roots catalog t column none h there = absurd (some catalog.tables there (none_after frames given roots catalog (step.AddColumn (table_id t.id) column) none h))
  where
    some : (tables : List Table) → table_with_id tables t.id ≡ Some t → with_table t.id (with_column (tagged_if_long column)) tables ≡ [] → ⊥
    some [] there e = cc
    some (x ∷ tables) there e = cc
