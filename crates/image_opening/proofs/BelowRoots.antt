-- The trees below the roots of tables: what they have, which pages, and what is found first of them.
use Rattle.std.proofs.Common.{◌≡◌, ℕ, zero, suc, ◌+◌, ◌<◌, Bool, true, false, Option, Some, None, List, [], ◌∷◌, ◌++◌, map, refl, sym, ap, subst, ◌∙◌, arith}
use Rattle.std.specs.Prelude.{◌&&◌, All, is_some, not, if◌then◌else◌}
use Rattle.std.specs.List.{AllByRecursion, flat_map}
use Rattle.std.specs.Option.{option_map, option_or}
use Rattle.std.proofs.lemmas.Grind.{flat_map-append}
use Rattle.std.proofs.lemmas.List.Elements.{All-from_recursion}
use Rattle.btree_inplace.specs.Trees.{IsTree}
use Rattle.index_derive.specs.declared.rules.IndexRule.{IndexRule}
use Rattle.page_image.specs.Page.{Node}
use Rattle.page_space.specs.Frames.{Frames}
use Rattle.catalog_grammar.specs.Catalogs.{CatalogTable}
use Rattle.table_trees.specs.Pages.{IsForest}
use Rattle.table_trees.specs.StoredTrees.{StoredRoots}
use Rattle.tree_check.specs.Marks.{copies, is_marked}
use Rattle.image_findings.specs.CatalogFindings.{CatalogTold, roots_of, rooted_indexes}
use Rattle.image_findings.specs.Findings.{roots_told}
use Rattle.image_findings.specs.Images.{Finding}
use Rattle.image_findings.specs.Images.Finding.{Pages}
use Rattle.image_findings.specs.TableContents.{contents_below}
use Rattle.image_findings.specs.TreeFindings.{marks_after, nodes_below, pages_below, trees_finding, unowned_from}
use Rattle.image_opening.specs.MarkedPages.{unmarked_from}
use Rattle.image_opening.specs.OpenedCatalogs.{IsFirstFinding, root_told, roots_of_told, stored_roots}
use Rattle.image_opening.specs.OpenedTrees.{AreOpened, AreTreesBelow, EachWith, HasContents, IsIndexBelow, index_opened, index_pages, index_shown, opened_pages, roots_walked}
use Rattle.image_opening.specs.WalkedTrees.{AreMarked, AreTaken, AreWalked, IsTreeBelow, forest_finding, walked_pages}
use Rattle.image_opening.specs.declared.opened.OpenedIndex.{OpenedIndex}
use Rattle.image_opening.specs.declared.opened.OpenedTable.{OpenedTable}
use Rattle.image_opening.specs.declared.fault.OpenFault.{OpenFault}
use Rattle.image_opening.proofs.ManyWalks.{first_stays}
use Rattle.image_opening.proofs.MarkedForest.{each_once}
use Rattle.image_opening.proofs.TakenPages.{both_taken, copies-append}

-- ---- two lists, place by place

pub each_one : {X Y : Type 0} (R : X → Y → Type 0) (xs : List X) (ys : List Y) (x : X) (y : Y) → EachWith R xs ys → R x y → EachWith R (xs ++ x ∷ []) (ys ++ y ∷ [])
each_one R [] [] x y h r = (r, tt)
each_one R [] (b ∷ ys) x y h r = absurd h
each_one R (a ∷ xs) [] x y h r = absurd h
each_one R (a ∷ xs) (b ∷ ys) x y h r = (h.0, each_one R xs ys x y h.1 r)

-- ---- what a table has

indexes_are_trees : (frames : Frames) (roots : List (ℕ × ℕ)) (opened : List OpenedIndex) → EachWith (IsIndexBelow frames) roots opened → AllByRecursion (λ (x : OpenedIndex). IsTree frames x.tree) opened
indexes_are_trees frames [] [] h = tt
indexes_are_trees frames [] (x ∷ opened) h = absurd h
indexes_are_trees frames (root ∷ roots) [] h = absurd h
indexes_are_trees frames (root ∷ roots) (x ∷ opened) h = (h.0.1.is_tree, indexes_are_trees frames roots opened h.1)

indexes_same : (frames : Frames) (rooted : List (ℕ × IndexRule)) (opened : List OpenedIndex) → EachWith (IsIndexBelow frames) (map root_told rooted) opened
    → map (index_opened frames) opened ≡ map index_shown (map (λ (index : ℕ × IndexRule). (index.1, nodes_below frames index.0)) rooted)
indexes_same frames [] [] h = refl
indexes_same frames [] (x ∷ opened) h = absurd h
indexes_same frames (index ∷ rooted) [] h = absurd h
indexes_same frames (index ∷ rooted) (x ∷ opened) h =
    let rest = indexes_same frames rooted opened h.1 in
    λ i. (h.0.0 i, h.0.1.nodes i) ∷ rest i

has_contents : (frames : Frames) (x : CatalogTable) (opened : OpenedTable) → AreTreesBelow frames (stored_roots x) opened → HasContents frames opened (contents_below frames x)
has_contents frames x opened h = record {
  number = h.number;
  nodes_tree = h.nodes.is_tree;
  nodes_are = h.nodes.nodes;
  values_tree = h.long_values.is_tree;
  values_are = h.long_values.nodes;
  index_trees = All-from_recursion (λ (y : OpenedIndex). IsTree frames y.tree) opened.indexes.items (indexes_are_trees frames (map root_told (rooted_indexes x)) opened.indexes.items h.indexes);
  indexes_are = indexes_same frames (rooted_indexes x) opened.indexes.items h.indexes;
}

each_has_contents : (frames : Frames) (tables : List CatalogTable) (opened : List OpenedTable) → EachWith (AreTreesBelow frames) (map stored_roots tables) opened → EachWith (HasContents frames) opened (map (contents_below frames) tables)
each_has_contents frames [] [] h = tt
each_has_contents frames [] (y ∷ opened) h = absurd h
each_has_contents frames (x ∷ tables) [] h = absurd h
each_has_contents frames (x ∷ tables) (y ∷ opened) h = (has_contents frames x y h.0, each_has_contents frames tables opened h.1)

-- ---- the root pages

index_roots : (rooted : List (ℕ × IndexRule)) → map (λ (x : ℕ × ℕ). x.1) (map root_told rooted) ≡ map (λ (index : ℕ × IndexRule). index.0) rooted
index_roots [] = refl
index_roots (index ∷ rooted) = ap (λ (l : List ℕ). index.0 ∷ l) (index_roots rooted)

roots_of_one : (x : CatalogTable) → roots_walked (stored_roots x) ≡ roots_of x
roots_of_one x = ap (λ (l : List ℕ). x.table.records ∷ (l ++ x.table.long_values ∷ [])) (index_roots (rooted_indexes x))

roots_of_all : (tables : List CatalogTable) → flat_map roots_walked (map stored_roots tables) ≡ flat_map roots_of tables
roots_of_all [] = refl
roots_of_all (x ∷ tables) =
    let one = roots_of_one x in
    let rest = roots_of_all tables in
    λ i. one i ++ rest i

pub same_roots : (told : CatalogTold) (roots : List StoredRoots) → roots ≡ roots_of_told told → flat_map roots_walked roots ≡ roots_told told
same_roots told roots e = ap (flat_map roots_walked) e ∙ roots_of_all told.tables

-- ---- pages

pages_of_indexes : (frames : Frames) (roots : List (ℕ × ℕ)) (opened : List OpenedIndex) → EachWith (IsIndexBelow frames) roots opened → flat_map (index_pages frames) opened ≡ walked_pages frames (map (λ (x : ℕ × ℕ). x.1) roots)
pages_of_indexes frames [] [] h = refl
pages_of_indexes frames [] (x ∷ opened) h = absurd h
pages_of_indexes frames (root ∷ roots) [] h = absurd h
pages_of_indexes frames (root ∷ roots) (x ∷ opened) h =
    let rest = pages_of_indexes frames roots opened h.1 in
    λ i. h.0.1.pages i ++ rest i

same_copies : (p : ℕ) (nodes values indexes walked : List ℕ) → walked ≡ indexes ++ (values ++ []) → copies p ((nodes ++ values) ++ indexes) ≡ copies p (nodes ++ walked)
same_copies p nodes values indexes walked e =
    omega (arith, copies-append p (nodes ++ values) indexes, copies-append p nodes values, copies-append p nodes walked, ap (copies p) e, copies-append p indexes (values ++ []), copies-append p values [])

copies_of_one : (frames : Frames) (roots : StoredRoots) (opened : OpenedTable) (p : ℕ) → AreTreesBelow frames roots opened → copies p (opened_pages frames opened) ≡ copies p (walked_pages frames (roots_walked roots))
copies_of_one frames roots opened p h =
    let indexes = pages_of_indexes frames roots.indexes opened.indexes.items h.indexes in
    let own : opened_pages frames opened ≡ (pages_below frames roots.records ++ pages_below frames roots.long_values) ++ walked_pages frames (map (λ (x : ℕ × ℕ). x.1) roots.indexes) =
    λ i. (h.nodes.pages i ++ h.long_values.pages i) ++ indexes i in
    ap (copies p) own
    ∙ same_copies p (pages_below frames roots.records) (pages_below frames roots.long_values) (walked_pages frames (map (λ (x : ℕ × ℕ). x.1) roots.indexes)) (walked_pages frames (map (λ (x : ℕ × ℕ). x.1) roots.indexes ++ roots.long_values ∷ []))
    (flat_map-append (pages_below frames) (map (λ (x : ℕ × ℕ). x.1) roots.indexes) (roots.long_values ∷ []))

copies_of_all : (frames : Frames) (roots : List StoredRoots) (opened : List OpenedTable) (p : ℕ) → EachWith (AreTreesBelow frames) roots opened → copies p (flat_map (opened_pages frames) opened) ≡ copies p (walked_pages frames (flat_map roots_walked roots))
copies_of_all frames [] [] p h = refl
copies_of_all frames [] (y ∷ opened) p h = absurd h
copies_of_all frames (x ∷ roots) [] p h = absurd h
copies_of_all frames (x ∷ roots) (y ∷ opened) p h =
    omega (
      arith,
      copies-append p (opened_pages frames y) (flat_map (opened_pages frames) opened),
      copies_of_one frames x y p h.0,
      copies_of_all frames roots opened p h.1,
      ap (copies p) (flat_map-append (pages_below frames) (roots_walked x) (flat_map roots_walked roots)),
      copies-append p (walked_pages frames (roots_walked x)) (walked_pages frames (flat_map roots_walked roots)),
    )

is_forest : (frames : Frames) (roots : List StoredRoots) (opened : List OpenedTable) (old new : List Bool) (pages : List ℕ) → EachWith (AreTreesBelow frames) roots opened → AreWalked frames (flat_map roots_walked roots) old new → unmarked_from 0 frames new ≡ None → AreMarked frames pages old
    → IsForest frames (pages ++ flat_map (opened_pages frames) opened)
is_forest frames roots opened old new pages h walked none marked =
    each_once frames (pages ++ flat_map (opened_pages frames) opened) new
    (λ p. omega (arith, marked.own p, walked.own p, copies_of_all frames roots opened p h, copies-append p pages (flat_map (opened_pages frames) opened)))
    (both_taken frames pages (flat_map (opened_pages frames) opened) marked.taken (λ p some. walked.taken p (omega (arith, some, copies_of_all frames roots opened p h))))
    none

-- ---- pages that no tree has

nil_marked : (i : ℕ) → is_marked [] i ≡ true
nil_marked zero = refl
nil_marked (suc i) = refl

none_left : (number : ℕ) (frames : Frames) → unowned_from number frames [] ≡ None
none_left number [] = refl
none_left number (o ∷ frames) = refl

taken_step : (taken marked : Bool) (number : ℕ) (found : Option Finding) (page : Option ℕ) → found ≡ option_map Pages page → (if taken then (if marked then found else Some (Pages number)) else found) ≡ option_map Pages (if taken && not marked then Some number else page)
taken_step true true number found page e = e
taken_step true false number found page e = refl
taken_step false true number found page e = e
taken_step false false number found page e = e

next_place : (n i : ℕ) → n + suc i ≡ suc n + i
next_place n i = omega arith

this_place : (n : ℕ) → n ≡ n + 0
this_place n = omega arith

unowned_is : (number : ℕ) (frames : Frames) (rest marks : List Bool) → ((i : ℕ) → is_marked rest i ≡ is_marked marks (number + i)) → unowned_from number frames rest ≡ option_map Pages (unmarked_from number frames marks)
unowned_is number [] rest marks h = refl
unowned_is number (o ∷ frames) [] marks h =
    let here : is_marked marks number ≡ true = ap (is_marked marks) (this_place number) ∙ sym (h 0) in
    let later = unowned_is (suc number) frames [] marks (λ i. nil_marked i ∙ h (suc i) ∙ ap (is_marked marks) (next_place number i)) in
    sym (none_left (suc number) frames) ∙ later ∙ sym (ap (λ (b : Bool). option_map Pages (if is_some o && not b then Some number else unmarked_from (suc number) frames marks)) here ∙ no_page (is_some o) (unmarked_from (suc number) frames marks))
  where
    no_page : (b : Bool) (page : Option ℕ) → option_map Pages (if b && false then Some number else page) ≡ option_map Pages page
    no_page true page = refl
    no_page false page = refl
unowned_is number (o ∷ frames) (m ∷ rest) marks h =
    let here : is_marked marks number ≡ m = ap (is_marked marks) (this_place number) ∙ sym (h 0) in
    let later = unowned_is (suc number) frames rest marks (λ i. h (suc i) ∙ ap (is_marked marks) (next_place number i)) in
    taken_step (is_some o) m number (unowned_from (suc number) frames rest) (unmarked_from (suc number) frames marks) later
    ∙ ap (λ (b : Bool). option_map Pages (if is_some o && not b then Some number else unmarked_from (suc number) frames marks)) (sym here)

from_zero : (n : ℕ) → n ≡ 0 + n
from_zero n = omega arith

pub unowned_page : (frames : Frames) (marks : List Bool) (page : Option ℕ) → page ≡ unmarked_from 0 frames marks → unowned_from 0 frames marks ≡ option_map Pages page
unowned_page frames marks page e = unowned_is 0 frames marks marks (λ i. ap (is_marked marks) (from_zero i)) ∙ ap (option_map Pages) (sym e)

-- ---- all trees

pub forest_found : (frames : Frames) (roots : List ℕ) (old new : List Bool) → AreWalked frames roots old new → forest_finding frames old roots ≡ unowned_from 0 frames new
forest_found frames roots old new walked =
    ap (λ (o : Option Finding). option_or o (unowned_from 0 frames (marks_after frames roots old))) walked.none ∙ ap (unowned_from 0 frames) (sym walked.marks)

pub opened_all : (frames : Frames) (old new : List Bool) (told : CatalogTold) (roots : List StoredRoots) (opened : List OpenedTable) → roots ≡ roots_of_told told → EachWith (AreTreesBelow frames) roots opened → AreWalked frames (flat_map roots_walked roots) old new
    → None ≡ unmarked_from 0 frames new → AreOpened frames old new told opened
opened_all frames old new told roots opened e h walked none =
    let all = subst (λ (l : List ℕ). AreWalked frames l old new) (same_roots told roots e) walked in
    record {
      contents = each_has_contents frames told.tables opened (subst (λ (l : List StoredRoots). EachWith (AreTreesBelow frames) l opened) e h);
      none = all.none;
      marks = all.marks;
      owned = unowned_page frames new None none;
      forest = λ pages marked. is_forest frames roots opened old new pages h walked (sym none) marked;
    }

pub forest_failed : (frames : Frames) (old : List Bool) (told : CatalogTold) (roots : List StoredRoots) (why : OpenFault) → roots ≡ roots_of_told told → IsFirstFinding (trees_finding frames (flat_map roots_walked roots) old) why → IsFirstFinding (forest_finding frames old (roots_told told)) why
forest_failed frames old told roots why e h =
    first_stays (trees_finding frames (roots_told told) old) (unowned_from 0 frames (marks_after frames (roots_told told) old)) why
    (subst (λ (l : List ℕ). IsFirstFinding (trees_finding frames l old) why) (same_roots told roots e) h)

pub page_found : (frames : Frames) (old new : List Bool) (told : CatalogTold) (roots : List StoredRoots) (page : ℕ) → roots ≡ roots_of_told told → AreWalked frames (flat_map roots_walked roots) old new → Some page ≡ unmarked_from 0 frames new
    → forest_finding frames old (roots_told told) ≡ Some (Pages page)
page_found frames old new told roots page e walked found =
    forest_found frames (roots_told told) old new (subst (λ (l : List ℕ). AreWalked frames l old new) (same_roots told roots e) walked) ∙ unowned_page frames new (Some page) found
