-- The trees of tables stay where the catalog's tree alone changes.
use Rattle.std.proofs.Common.{◌≡◌, ℕ, zero, suc, ◌+◌, ◌<◌, ◌≤◌, inl, inr, Bool, true, false, Option, None, List, [], ◌∷◌, ◌++◌, map, refl, ap, ◌∙◌, arith}
use Rattle.std.specs.Prelude.{◌⊎◌, All, Contains, is_some, if◌then◌else◌}
use Rattle.std.specs.List.{flat_map}
use Rattle.std.proofs.lemmas.List.Elements.{All-cons, All-nil}
use Rattle.page_image.specs.Page.{Node, PageContents}
use Rattle.page_space.specs.Frames.{Frames, page_at}
use Rattle.btree_inplace.specs.Trees.{AreApart, Exchanges, IsTree, nodes_of, pages_of}
use Rattle.btree_inplace.specs.declared.Tree.{Tree}
use Rattle.catalog_record.specs.CatalogTrees.{CatalogBecomes, IsCatalogTree, own_pages}
use Rattle.catalog_record.specs.declared.tree.CatalogTree.{CatalogTree}
use Rattle.table_trees.specs.Pages.{IsForest, copies, times_taken}
use Rattle.image_findings.specs.TableContents.{TableContents}
use Rattle.image_opening.specs.OpenedTrees.{EachWith, HasContents, StayOpened, index_opened, index_pages, opened_pages}
use Rattle.image_opening.specs.declared.opened.OpenedIndex.{OpenedIndex}
use Rattle.image_opening.specs.declared.opened.OpenedTable.{OpenedTable}
use Rattle.image_opening.proofs.OnceEach.{contained, counted, once}
use Rattle.image_opening.proofs.TakenPages.{copies-append, tree_taken}

-- what a change of one tree leaves of another
abbrev pub TreeStays : Type 0
TreeStays =
    (old new : Frames) (before after : List ℕ) (tree : Tree) → Exchanges old new before after → IsTree old tree → AreApart (pages_of old tree) before → IsTree new tree × (nodes_of new tree ≡ nodes_of old tree) × (pages_of new tree ≡ pages_of old tree) × AreApart (pages_of new tree) after

-- ---- the pages of all trees

none_or_some : (n : ℕ) → (n ≡ 0) ⊎ (0 < n)
none_or_some zero = inl refl
none_or_some (suc n) = inr (omega arith)

at_most_one : (b : Bool) → (if b then 1 else 0) ≤ 1
at_most_one true = omega arith
at_most_one false = omega arith

taken_once : (frames : Frames) (p : ℕ) → is_some (page_at frames p) ≡ true → times_taken frames p ≡ 1
taken_once frames p is = ap (λ (b : Bool). if b then 1 else 0) is

free : (frames : Frames) (p : ℕ) → page_at frames p ≡ None → times_taken frames p ≡ 0
free frames p is = ap (λ (o : Option PageContents). if is_some o then 1 else 0) is

forest_stays : (old new : Frames) (was is : CatalogTree) (rest : List ℕ) → IsCatalogTree new is → Exchanges old new (own_pages old was) (own_pages new is) → IsForest old (own_pages old was ++ rest) → IsForest new (own_pages new is ++ rest)
forest_stays old new was is rest tree exchanged forest p =
    let before = own_pages old was in
    let after = own_pages new is in
    let all : copies p before + copies p rest ≡ times_taken old p = omega (arith, forest p, copies-append p before rest) in
    let few : times_taken old p ≤ 1 = at_most_one (is_some (page_at old p)) in
    let goal : copies p (after ++ rest) ≡ copies p after + copies p rest = copies-append p after rest in
    elim (none_or_some (copies p after)) [
      | inr some ↦
          let taken = taken_once new p (tree_taken is.tree.depth new is.tree.root tree.shape p some) in
          let none : copies p rest ≡ 0 = elim (exchanged.taken p (contained after p some)) [
            | inl there ↦ omega (arith, all, few, counted before p there)
            | inr gone ↦ omega (arith, all, free old p gone)
          ] in
          omega (arith, goal, taken, none, some, once after tree.once p)
      | inl none ↦
          let not_after : ¬ Contains after p = λ c. absurd (omega (arith, none, counted after p c)) in
          elim (none_or_some (copies p before)) [
            | inr some ↦ omega (arith, goal, none, all, few, some, free new p (exchanged.given_back p (contained before p some) not_after))
            | inl nowhere ↦
                let not_before : ¬ Contains before p = λ c. absurd (omega (arith, nowhere, counted before p c)) in
                let same : times_taken new p ≡ times_taken old p = ap (λ (o : Option PageContents). if is_some o then 1 else 0) (exchanged.others p not_before not_after) in
                omega (arith, goal, none, all, nowhere, same)
          ]
    ]

-- ---- trees beside the catalog's

-- no page of the catalog's tree is among these, and none is there twice
abbrev Beside : List ℕ → List ℕ → Type 0
Beside before pages = (p : ℕ) → copies p pages + copies p before ≤ 1

beside_left : (before xs ys : List ℕ) → Beside before (xs ++ ys) → Beside before xs
beside_left before xs ys h p = omega (arith, h p, copies-append p xs ys)

beside_right : (before xs ys : List ℕ) → Beside before (xs ++ ys) → Beside before ys
beside_right before xs ys h p = omega (arith, h p, copies-append p xs ys)

apart : (before pages : List ℕ) → Beside before pages → AreApart pages before
apart before pages h p c d = absurd (omega (arith, h p, counted pages p c, counted before p d))

record Stays (old new : Frames) (tree : Tree) : Type 0 where
  is_tree : IsTree new tree
  nodes : nodes_of new tree ≡ nodes_of old tree
  pages : pages_of new tree ≡ pages_of old tree

module _ (law : TreeStays) (old new : Frames) (before after : List ℕ) (exchanged : Exchanges old new before after) where
  tree_stays : (tree : Tree) → IsTree old tree → Beside before (pages_of old tree) → Stays old new tree
  tree_stays tree is beside =
      let r = law old new before after tree exchanged is (apart before (pages_of old tree) beside) in
      record { is_tree = r.0; nodes = r.1; pages = r.2 }

  record IndexesStay (items : List OpenedIndex) : Type 0 where
    trees : All (λ (x : OpenedIndex). IsTree new x.tree) items
    shown : map (index_opened new) items ≡ map (index_opened old) items
    pages : flat_map (index_pages new) items ≡ flat_map (index_pages old) items

  indexes_stay : (items : List OpenedIndex) → All (λ (x : OpenedIndex). IsTree old x.tree) items → Beside before (flat_map (index_pages old) items) → IndexesStay items
  indexes_stay [] are beside = record { trees = All-nil (λ (x : OpenedIndex). IsTree new x.tree); shown = refl; pages = refl }
  indexes_stay (x ∷ items) are beside =
      let first = tree_stays x.tree (are 0 x (omega arith)) (beside_left before (pages_of old x.tree) (flat_map (index_pages old) items) beside) in
      let others = indexes_stay items (λ k d lt. are (suc k) d (omega (arith, lt))) (beside_right before (pages_of old x.tree) (flat_map (index_pages old) items) beside) in
      record {
        trees = All-cons (λ (y : OpenedIndex). IsTree new y.tree) x items first.is_tree others.trees;
        shown = λ i. (x.index.0, first.nodes i) ∷ others.shown i;
        pages = λ i. first.pages i ++ others.pages i;
      }

  record TableStays (x : OpenedTable) (t : TableContents) : Type 0 where
    contents : HasContents new x t
    pages : opened_pages new x ≡ opened_pages old x

  table_stays : (x : OpenedTable) (t : TableContents) → HasContents old x t → Beside before (opened_pages old x) → TableStays x t
  table_stays x t has beside =
      let N = pages_of old x.nodes in
      let L = pages_of old x.long_values in
      let I = flat_map (index_pages old) x.indexes.items in
      let front = beside_left before (N ++ L) I beside in
      let rows = tree_stays x.nodes has.nodes_tree (beside_left before N L front) in
      let longs = tree_stays x.long_values has.values_tree (beside_right before N L front) in
      let indexes = indexes_stay x.indexes.items has.index_trees (beside_right before (N ++ L) I beside) in
      record {
        contents = record {
          number = has.number;
          nodes_tree = rows.is_tree;
          nodes_are = rows.nodes ∙ has.nodes_are;
          values_tree = longs.is_tree;
          values_are = longs.nodes ∙ has.values_are;
          index_trees = indexes.trees;
          indexes_are = indexes.shown ∙ has.indexes_are;
        };
        pages = λ i. (rows.pages i ++ longs.pages i) ++ indexes.pages i;
      }

  record TablesStay (opened : List OpenedTable) (shown : List TableContents) : Type 0 where
    contents : EachWith (HasContents new) opened shown
    pages : flat_map (opened_pages new) opened ≡ flat_map (opened_pages old) opened

  tables_stay : (opened : List OpenedTable) (shown : List TableContents) → EachWith (HasContents old) opened shown → Beside before (flat_map (opened_pages old) opened) → TablesStay opened shown
  tables_stay [] [] have beside = record { contents = tt; pages = refl }
  tables_stay [] (t ∷ shown) have beside = absurd have
  tables_stay (x ∷ opened) [] have beside = absurd have
  tables_stay (x ∷ opened) (t ∷ shown) have beside =
      let first = table_stays x t have.0 (beside_left before (opened_pages old x) (flat_map (opened_pages old) opened) beside) in
      let others = tables_stay opened shown have.1 (beside_right before (opened_pages old x) (flat_map (opened_pages old) opened) beside) in
      record { contents = (first.contents, others.contents); pages = λ i. first.pages i ++ others.pages i }

-- ---- what was opened stays

pub stay_opened : TreeStays → (old new : Frames) (was is : CatalogTree) (list : List Node) (opened : List OpenedTable) (shown : List TableContents) → CatalogBecomes old was new is list → IsForest old (own_pages old was ++ flat_map (opened_pages old) opened) → EachWith (HasContents old) opened shown
    → StayOpened old new is opened shown
stay_opened law old new was is list opened shown becomes forest have =
    let before = own_pages old was in
    let rest = flat_map (opened_pages old) opened in
    let beside : Beside before rest = λ p. omega (arith, forest p, copies-append p before rest, at_most_one (is_some (page_at old p))) in
    let stay = tables_stay law old new before (own_pages new is) becomes.pages opened shown have beside in
    record {
      contents = stay.contents;
      pages = stay.pages;
      forest = λ p. ap (λ (l : List ℕ). copies p (own_pages new is ++ l)) stay.pages ∙ forest_stays old new was is rest becomes.tree becomes.pages forest p;
    }
