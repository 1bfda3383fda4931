-- The trees of all tables of a consistent image, and its catalog's, in the space that they share.
use Rattle.std.proofs.Common.{◌≡◌, ◌+◌, ◌≤◌, ℕ, true, false, List, [], ◌∷◌, ◌++◌, cond, Some, refl, sym, ap, subst, ◌∙◌, arith}
use Rattle.std.specs.Prelude.{◌==◌, count_by, map}
use Rattle.std.specs.List.{AllByRecursion, flat_map}
use Rattle.std.proofs.lemmas.List.Elements.{All-from_recursion}
use Rattle.std.proofs.lemmas.List.Sums.{sum_by-append}
use Rattle.catalog_grammar.specs.CatalogSteps.{Roots, has_nodes, nodes_of_catalog}
use Rattle.catalog_grammar.specs.Catalogs.{CatalogTable}
use Rattle.catalog_record.specs.CatalogTrees.{CatalogBecomes, own_pages}
use Rattle.catalog_record.specs.declared.tree.CatalogTree.{CatalogTree}
use Rattle.image_findings.specs.CatalogFindings.{table_of}
use Rattle.image_findings.specs.TableContents.{TableContents, contents_below}
use Rattle.image_opening.specs.OpenedCatalogs.{stored_roots}
use Rattle.image_opening.specs.OpenedTrees.{AreTreesBelow, EachWith, HasContents, opened_pages}
use Rattle.image_opening.specs.declared.opened.OpenedTable.{OpenedTable}
use Rattle.own_images.specs.StoredContents.{stored_of}
use Rattle.jet_catalog.specs.Catalog.{CatalogState}
use Rattle.laws_versions.specs.History.{EachTwo}
use Rattle.page_image.specs.Page.{Node}
use Rattle.page_space.specs.Frames.{Frames}
use Rattle.table_trees.specs.Pages.{copies, times_taken}
use Rattle.table_trees.specs.ShownCatalogs.{ShowsCatalog}
use Rattle.table_trees.specs.StoredTables.{StoredTable, is_table}
use Rattle.table_trees.specs.StoredTrees.{roots_by_number}
use Rattle.table_trees.specs.TableParts.{IsTable, table_pages, tree_roots}
use Rattle.table_trees.specs.TreesView.{AreTables, stored_catalog, stored_tables}
use Rattle.table_trees.specs.declared.table.Table.{Table as Trees}
use Rattle.engine_image.proofs.Building.{same_pages, stored_is}
use Rattle.engine_image.proofs.BuiltTables.{ValueLaws, built, there_once}
use Rattle.engine_image.proofs.MovedTrees.{pages_more}
use Rattle.engine_image.proofs.RisingTables.{Rises, larger}
use Rattle.engine_image.proofs.RuleNumbers.{RisesInside, secondary_differ, two_mapped}
use Rattle.engine_image.proofs.TreeRoots.{SameRoots, roots_same, same_roots}
use Rattle.engine_image.specs.MadeEngines.{IsSoundTable}
use Rattle.engine_image.specs.MadeTables.{AreMadeTables, IsMadeTable}

-- ---- what is known of each table, told, opened and made

record IsBuilt (frames new : Frames) (number : ℕ) (x : CatalogTable) (o : OpenedTable) (m : Trees) : Type 0 where
  rises : RisesInside x
  contents : HasContents new o (contents_below frames x)
  below : AreTreesBelow frames (stored_roots x) o
  made : IsMadeTable (table_of x) o m
  sound : IsSoundTable number (contents_below frames x)

abbrev AreBuilt : Frames → Frames → ℕ → List OpenedTable → List Trees → List CatalogTable → Type 0
AreBuilt frames new number [] [] [] = Unit {0}
AreBuilt frames new number [] [] (x ∷ xs) = ⊥
AreBuilt frames new number [] (m ∷ made) xs = ⊥
AreBuilt frames new number (o ∷ opened) [] xs = ⊥
AreBuilt frames new number (o ∷ opened) (m ∷ made) [] = ⊥
AreBuilt frames new number (o ∷ opened) (m ∷ made) (x ∷ xs) = IsBuilt frames new number x o m × AreBuilt frames new number opened made xs

-- The same, list by list.
pub record AreKnown (frames new : Frames) (number : ℕ) (xs : List CatalogTable) (opened : List OpenedTable) (made : List Trees) : Type 0 where
  pub rise : AllByRecursion RisesInside xs
  pub contents : EachWith (HasContents new) opened (map (contents_below frames) xs)
  pub below : EachWith (AreTreesBelow frames) (map stored_roots xs) opened
  pub are_made : AreMadeTables opened made (map table_of xs)
  pub sound : AllByRecursion (IsSoundTable number) (map (contents_below frames) xs)

are_built : (frames new : Frames) (number : ℕ) (opened : List OpenedTable) (made : List Trees) (xs : List CatalogTable) → AreKnown frames new number xs opened made → AreBuilt frames new number opened made xs
are_built frames new number [] [] [] k = tt
are_built frames new number [] [] (x ∷ xs) k = absurd k.contents
are_built frames new number [] (m ∷ made) xs k = absurd k.are_made
are_built frames new number (o ∷ opened) [] xs k = absurd k.are_made
are_built frames new number (o ∷ opened) (m ∷ made) [] k = absurd k.contents
are_built frames new number (o ∷ opened) (m ∷ made) (x ∷ xs) k = (
  record { rises = k.rise.0; contents = k.contents.0; below = k.below.0; made = k.are_made.0; sound = k.sound.0 },
  are_built frames new number opened made xs (record { rise = k.rise.1; contents = k.contents.1; below = k.below.1; are_made = k.are_made.1; sound = k.sound.1 }),
)

-- ---- each table

all_stored : (frames new : Frames) (number : ℕ) (opened : List OpenedTable) (made : List Trees) (xs : List CatalogTable) → AreBuilt frames new number opened made xs → stored_tables new made ≡ map stored_of (map (contents_below frames) xs)
all_stored frames new number [] [] [] b = refl
all_stored frames new number [] [] (x ∷ xs) b = absurd b
all_stored frames new number [] (m ∷ made) xs b = absurd b
all_stored frames new number (o ∷ opened) [] xs b = absurd b
all_stored frames new number (o ∷ opened) (m ∷ made) [] b = absurd b
all_stored frames new number (o ∷ opened) (m ∷ made) (x ∷ xs) b = λ k. stored_is new o (contents_below frames x) m b.0.contents b.0.made k ∷ all_stored frames new number opened made xs b.1 k

all_tables : ValueLaws → (frames new : Frames) (number : ℕ) (opened : List OpenedTable) (made : List Trees) (xs : List CatalogTable) → AreBuilt frames new number opened made xs
    → ((p : ℕ) → copies p (flat_map (opened_pages new) opened) ≤ times_taken new p) → AllByRecursion (IsTable new) made
all_tables laws frames new number [] [] [] b own = tt
all_tables laws frames new number [] [] (x ∷ xs) b own = absurd b
all_tables laws frames new number [] (m ∷ made) xs b own = absurd b
all_tables laws frames new number (o ∷ opened) [] xs b own = absurd b
all_tables laws frames new number (o ∷ opened) (m ∷ made) [] b own = absurd b
all_tables laws frames new number (o ∷ opened) (m ∷ made) (x ∷ xs) b own = (
  built laws new number o (contents_below frames x) m b.0.contents b.0.sound b.0.made (secondary_differ x b.0.rises)
      (λ p. let bound = own p in let more : copies p (flat_map (opened_pages new) (o ∷ opened)) ≡ copies p (opened_pages new o) + copies p (flat_map (opened_pages new) opened) = pages_more (opened_pages new) p o opened in omega (arith, bound, more)),
  all_tables laws frames new number opened made xs b.1
      (λ p. let bound = own p in let more : copies p (flat_map (opened_pages new) (o ∷ opened)) ≡ copies p (opened_pages new o) + copies p (flat_map (opened_pages new) opened) = pages_more (opened_pages new) p o opened in omega (arith, bound, more)),
)

all_pages : (frames new : Frames) (number : ℕ) (p : ℕ) (opened : List OpenedTable) (made : List Trees) (xs : List CatalogTable) → AreBuilt frames new number opened made xs → copies p (flat_map (table_pages new) made) ≡ copies p (flat_map (opened_pages new) opened)
all_pages frames new number p [] [] [] b = refl
all_pages frames new number p [] [] (x ∷ xs) b = absurd b
all_pages frames new number p [] (m ∷ made) xs b = absurd b
all_pages frames new number p (o ∷ opened) [] xs b = absurd b
all_pages frames new number p (o ∷ opened) (m ∷ made) [] b = absurd b
all_pages frames new number p (o ∷ opened) (m ∷ made) (x ∷ xs) b =
    let a : copies p (flat_map (table_pages new) (m ∷ made)) ≡ copies p (table_pages new m) + copies p (flat_map (table_pages new) made) = pages_more (table_pages new) p m made in
    let c : copies p (flat_map (opened_pages new) (o ∷ opened)) ≡ copies p (opened_pages new o) + copies p (flat_map (opened_pages new) opened) = pages_more (opened_pages new) p o opened in
    let d : copies p (table_pages new m) ≡ copies p (opened_pages new o) = same_pages new (table_of x) o m p b.0.made in
    let e : copies p (flat_map (table_pages new) made) ≡ copies p (flat_map (opened_pages new) opened) = all_pages frames new number p opened made xs b.1 in
    omega (arith, a, c, d, e)

all_roots : (frames new : Frames) (number : ℕ) (opened : List OpenedTable) (made : List Trees) (xs : List CatalogTable) → AreBuilt frames new number opened made xs → EachWith SameRoots xs made
all_roots frames new number [] [] [] b = tt
all_roots frames new number [] [] (x ∷ xs) b = absurd b
all_roots frames new number [] (m ∷ made) xs b = absurd b
all_roots frames new number (o ∷ opened) [] xs b = absurd b
all_roots frames new number (o ∷ opened) (m ∷ made) [] b = absurd b
all_roots frames new number (o ∷ opened) (m ∷ made) (x ∷ xs) b = (same_roots frames new x o m b.0.contents b.0.below b.0.made, all_roots frames new number opened made xs b.1)

-- ---- all tables

pub stored_all : (frames new : Frames) (number : ℕ) (xs : List CatalogTable) (opened : List OpenedTable) (made : List Trees) → AreKnown frames new number xs opened made → stored_tables new made ≡ map stored_of (map (contents_below frames) xs)
stored_all frames new number xs opened made k = all_stored frames new number opened made xs (are_built frames new number opened made xs k)

apart : (ts : List TableContents) → EachTwo Rises ts → EachTwo (λ (s t : TableContents). (s.table.id == t.table.id) ≡ false) ts
apart [] h = tt
apart (t ∷ ts) h = (each ts h.0, apart ts h.1)
  where
    each : (us : List TableContents) → AllByRecursion (Rises t) us → AllByRecursion (λ (u : TableContents). (t.table.id == u.table.id) ≡ false) us
    each [] a = tt
    each (u ∷ us) a = (larger t.table.id u.table.id a.0, each us a.1)

tables_once : (ts : List TableContents) (n : ℕ) → EachTwo Rises ts → count_by (is_table n) (map stored_of ts) ≤ 1
tables_once ts n rise = there_once (λ (x : StoredTable). x.number) n (map stored_of ts) (two_mapped (λ (x y : StoredTable). (x.number == y.number) ≡ false) stored_of ts (apart ts rise))

pub are_tables : ValueLaws → (frames new : Frames) (number : ℕ) (xs : List CatalogTable) (opened : List OpenedTable) (made : List Trees) (tree : CatalogTree) → AreKnown frames new number xs opened made → EachTwo Rises (map (contents_below frames) xs)
    → ((p : ℕ) → copies p (own_pages new tree ++ flat_map (opened_pages new) opened) ≡ times_taken new p) → ((list : List Node) × (old : Frames) × (was : CatalogTree) × CatalogBecomes old was new tree list) → AreTables new (record { tree = Some tree }) made
are_tables laws frames new number xs opened made tree k rise forest becomes =
    let b = are_built frames new number opened made xs k in
    let joined : (p : ℕ) (l : List ℕ) → copies p (own_pages new tree ++ l) ≡ copies p (own_pages new tree) + copies p l = λ p l. sum_by-append (λ (q : ℕ). cond (q == p) 1 0) (own_pages new tree) l in
    record {
      catalog = becomes.3.tree;
      each = All-from_recursion (IsTable new) made
          (all_tables laws frames new number opened made xs b
          (λ p. let all = forest p in let parts = joined p (flat_map (opened_pages new) opened) in omega (arith, all, parts)));
      forest = λ p.
          let all = forest p in
          let parts = joined p (flat_map (opened_pages new) opened) in
          let these = joined p (flat_map (table_pages new) made) in
          let same : copies p (flat_map (table_pages new) made) ≡ copies p (flat_map (opened_pages new) opened) = all_pages frames new number p opened made xs b in
          omega (arith, all, parts, these, same);
      once = λ n. subst (λ (l : List StoredTable). count_by (is_table n) l ≤ 1) (sym (all_stored frames new number opened made xs b)) (tables_once (map (contents_below frames) xs) n rise);
    }

-- ---- the catalog

pub shows : (frames new : Frames) (number : ℕ) (xs : List CatalogTable) (opened : List OpenedTable) (made : List Trees) (tree : CatalogTree) (catalog : CatalogState) → AreKnown frames new number xs opened made
    → ((old : Frames) × (was : CatalogTree) × CatalogBecomes old was new tree (nodes_of_catalog (roots_by_number (map stored_roots xs)) catalog)) → has_nodes (roots_by_number (map stored_roots xs)) catalog ≡ true
    → ShowsCatalog (stored_catalog new (record { tree = Some tree }) made) catalog
shows frames new number xs opened made tree catalog k becomes writable =
    let same : roots_by_number (map tree_roots made) ≡ roots_by_number (map stored_roots xs) = roots_same xs made (all_roots frames new number opened made xs (are_built frames new number opened made xs k)) in
    record {
      nodes = becomes.2.nodes ∙ ap (λ (roots : Roots). nodes_of_catalog roots catalog) (sym same);
      writable = subst (λ (roots : Roots). has_nodes roots catalog ≡ true) (sym same) writable;
    }
