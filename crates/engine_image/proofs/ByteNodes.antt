-- What each node of the pages of an image has, each node of its trees has.
use Rattle.std.proofs.Common.{◌≡◌, ◌+◌, ◌<◌, ◌≤◌, ℕ, zero, suc, List, [], ◌∷◌, length, get_or, take, Option, Some, None, subst, arith}
use Rattle.std.specs.Prelude.{map, slice_index_or, unwrap_or, IfSome}
use Rattle.std.specs.List.{AllByRecursion}
use Rattle.std.proofs.lemmas.List.Elements.{recursion_from_All}
use Rattle.btree_inplace.specs.Shape.{child_of, entries, page_in}
use Rattle.btree_inplace.specs.Trees.{IsTree, nodes_of}
use Rattle.btree_inplace.specs.declared.Tree.{Tree}
use Rattle.catalog_grammar.specs.Catalogs.{CatalogTable}
use Rattle.column_set.specs.NumberReading.{IsBytes}
use Rattle.common_lemmas.proofs.Lists.{all_each, all_map, all_weaker}
use Rattle.image_findings.specs.CatalogFindings.{rooted_indexes}
use Rattle.image_findings.specs.Findings.{contents_in, told_in}
use Rattle.image_findings.specs.ImageBytes.{IsOfBytes, IsPageOfBytes}
use Rattle.image_findings.specs.Images.{ImageContents}
use Rattle.image_findings.specs.TableContents.{TableContents, contents_below}
use Rattle.image_findings.specs.TreeFindings.{nodes_below}
use Rattle.image_opening.specs.OpenedTrees.{EachWith, HasContents, index_opened, index_shown}
use Rattle.image_opening.specs.declared.opened.OpenedIndex.{OpenedIndex}
use Rattle.image_opening.specs.declared.opened.OpenedTable.{OpenedTable}
use Rattle.own_images.specs.StoredContents.{AreTreeNodes, HaveTreeNodes}
use Rattle.index_derive.specs.declared.rules.IndexRule.{IndexRule}
use Rattle.laws_versions.proofs.IndexLemmas.Members.{all_flat}
use Rattle.page_image.specs.Page.{HasRisingKeys, Node, PageContents}
use Rattle.page_space.specs.Frames.{Frames, empty_page, page_at}
use Rattle.tree_check.specs.Walks.{tree_depth}
use Rattle.engine_image.proofs.RisingTables.{all_both}
use Rattle.engine_image.specs.MadeEngines.{HasByteNodes, HaveByteNodes}

abbrev HasByteKey : Node → Type 0
HasByteKey n = IsBytes n.key

-- ---- from pages to trees

at_page : (frames : Frames) → HaveByteNodes frames → (page : ℕ) → IfSome (slice_index_or frames page None) HasByteNodes
at_page [] all page = tt
at_page (o ∷ frames) all zero = all.0
at_page (o ∷ frames) all (suc page) = at_page frames all.1 page

on_page : (frames : Frames) → HaveByteNodes frames → (page : ℕ) → AllByRecursion HasByteKey (page_in frames page).nodes
on_page frames all page = by (page_at frames page) (at_page frames all page)
  where
    by : (o : Option PageContents) → IfSome o HasByteNodes → AllByRecursion HasByteKey (unwrap_or o (empty_page page)).nodes
    by None h = tt
    by (Some p) h = h.keys

below : (frames : Frames) → HaveByteNodes frames → (depth page : ℕ) → AllByRecursion HasByteKey (entries depth frames page)
below frames all zero page = on_page frames all page
below frames all (suc depth) page =
    all_flat HasByteKey (λ n. entries depth frames (child_of n)) (page_in frames page).nodes (all_each (λ n. AllByRecursion HasByteKey (entries depth frames (child_of n))) (λ n. below frames all depth (child_of n)) (page_in frames page).nodes)

-- ---- the pages of an image

if_some : {X : Type 0} (P Q : X → Type 0) → ((x : X) → P x → Q x) → (o : Option X) → IfSome o P → IfSome o Q
if_some P Q f None h = tt
if_some P Q f (Some x) h = f x h

pub of_bytes : (image : ImageContents) → HaveByteNodes image.pages → IsBytes image.live → IsOfBytes image
of_bytes image nodes live = record { pages = all_weaker (λ o. IfSome o HasByteNodes) (λ o. IfSome o IsPageOfBytes) (λ o h. if_some HasByteNodes IsPageOfBytes (λ p is. is.page) o h) image.pages nodes; live = live }

-- ---- the trees of a table

abbrev pub RiseLaw : Type 0
RiseLaw = (frames : Frames) (tree : Tree) → IsTree frames tree → HasRisingKeys (nodes_of frames tree)

unmapped : {X Y : Type 0} (P : Y → Type 0) (f : X → Y) (xs : List X) → AllByRecursion P (map f xs) → AllByRecursion (λ x. P (f x)) xs
unmapped P f [] h = tt
unmapped P f (x ∷ xs) h = (h.0, unmapped P f xs h.1)

-- the keys of the nodes of each index rise
rising_indexes : RiseLaw → (frames : Frames) (o : OpenedTable) (t : TableContents) → HasContents frames o t → AllByRecursion (λ (index : IndexRule × List Node). HasRisingKeys index.1) t.indexes
rising_indexes law frames o t has =
    unmapped (λ (p : ℕ × List Node). HasRisingKeys p.1) index_shown t.indexes
    (subst (λ (l : List (ℕ × List Node)). AllByRecursion (λ (p : ℕ × List Node). HasRisingKeys p.1) l) has.indexes_are
    (all_map (λ (p : ℕ × List Node). HasRisingKeys p.1) (index_opened frames) o.indexes.items
    (all_weaker (λ (x : OpenedIndex). IsTree frames x.tree) (λ (x : OpenedIndex). HasRisingKeys (nodes_of frames x.tree)) (λ x is. law frames x.tree is) o.indexes.items
    (recursion_from_All (λ (x : OpenedIndex). IsTree frames x.tree) o.indexes.items has.index_trees))))

tree_nodes : RiseLaw → (frames : Frames) → HaveByteNodes frames → (x : CatalogTable) (o : OpenedTable) → HasContents frames o (contents_below frames x) → HaveTreeNodes (contents_below frames x)
tree_nodes law frames all x o has =
    let t = contents_below frames x in
    record {
      records = record { rising = subst HasRisingKeys has.nodes_are (law frames o.nodes has.nodes_tree); keys = below frames all (tree_depth frames x.table.records) x.table.records };
      indexes = all_both (λ (index : IndexRule × List Node). HasRisingKeys index.1) (λ (index : IndexRule × List Node). AllByRecursion HasByteKey index.1) (λ (index : IndexRule × List Node). AreTreeNodes index.1)
          (λ index rising keys. record { rising = rising; keys = keys }) t.indexes (rising_indexes law frames o t has)
          (all_map (λ (index : IndexRule × List Node). AllByRecursion HasByteKey index.1) (λ (index : ℕ × IndexRule). (index.1, nodes_below frames index.0)) (rooted_indexes x)
          (all_each (λ (index : ℕ × IndexRule). AllByRecursion HasByteKey (nodes_below frames index.0)) (λ index. below frames all (tree_depth frames index.0) index.0) (rooted_indexes x)));
    }

each_tree_nodes : RiseLaw → (frames : Frames) → HaveByteNodes frames → (xs : List CatalogTable) (opened : List OpenedTable) → EachWith (HasContents frames) opened (map (contents_below frames) xs) → AllByRecursion HaveTreeNodes (map (contents_below frames) xs)
each_tree_nodes law frames all [] [] h = tt
each_tree_nodes law frames all [] (o ∷ opened) h = absurd h
each_tree_nodes law frames all (x ∷ xs) [] h = absurd h
each_tree_nodes law frames all (x ∷ xs) (o ∷ opened) h = (tree_nodes law frames all x o h.0, each_tree_nodes law frames all xs opened h.1)

pub have_tree_nodes : RiseLaw → (image : ImageContents) (opened : List OpenedTable) → HaveByteNodes image.pages → EachWith (HasContents image.pages) opened (contents_in image) → AllByRecursion HaveTreeNodes (contents_in image)
have_tree_nodes law image opened all h = each_tree_nodes law image.pages all (told_in image).tables opened h

-- ---- page by page

taken_more : {X : Type 0} (P : X → Type 0) (xs : List X) (i : ℕ) (x : X) → AllByRecursion P (take i xs) → i < length xs → x ≡ get_or xs i x → P x → AllByRecursion P (take (suc i) xs)
taken_more P [] i x h lt e p = absurd (omega (arith, lt))
taken_more P (y ∷ ys) zero x h lt e p = (subst P e p, tt)
taken_more P (y ∷ ys) (suc i) x h lt e p = (h.0, taken_more P ys i x h.1 (omega (arith, lt)) e p)

pub taken_next : {X : Type 0} (P : X → Type 0) (xs : List X) (i : ℕ) (x : X) → AllByRecursion P (take i xs) → i < length xs → x ≡ get_or xs i x → P x → AllByRecursion P (take (i + 1) xs)
taken_next P xs i x h lt e p = let more : suc i ≡ i + 1 = omega arith in subst (λ (n : ℕ). AllByRecursion P (take n xs)) more (taken_more P xs i x h lt e p)

pub taken_all : {X : Type 0} (P : X → Type 0) (xs : List X) (i : ℕ) → AllByRecursion P (take i xs) → length xs ≤ i → AllByRecursion P xs
taken_all P [] i h le = tt
taken_all P (y ∷ ys) zero h le = absurd (omega (arith, le))
taken_all P (y ∷ ys) (suc i) h le = (h.0, taken_all P ys i h.1 (omega (arith, le)))
