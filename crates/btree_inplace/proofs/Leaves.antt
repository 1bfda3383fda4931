-- A node put into a leaf, widened or taken out of it.
use Rattle.std.proofs.Common.{◌≡◌, ◌≢◌, ℕ, zero, suc, ◌+◌, ◌<◌, ◌≤◌, inl, inr, Bool, true, false, Some, List, [], ◌∷◌, ◌++◌, length, get_or, set, cond, map, refl, sym, ap, subst, ◌∙◌, arith}
use Rattle.std.specs.Prelude.{All, AllPairs, Contains, insert, if◌then◌else◌}
use Rattle.std.specs.Ordering.{nat_cmp, ordering_reverse, is_lt}
use Rattle.std.specs.declared.cmp.Ordering.{Ordering}
use Rattle.std.specs.declared.cmp.Ordering.TheVariants.{Less, Equal, Greater}
use Rattle.std.specs.Cmp.Lexicographic.{slice_cmp}
use Rattle.std.proofs.lemmas.Bool.{cases_eq, cases_lt}
use Rattle.std.proofs.lemmas.Cmp.{nat_list_cmp_total}
use Rattle.std.proofs.lemmas.List.{get_or_default, get_or-map, get_or-set_same, get_or-set_other, length-map, length-set, map-append, same_lists}
use Rattle.std.proofs.lemmas.List.Edits.{length-insert}
use Rattle.std.proofs.lemmas.List.Elements.{All-set, All-tail}
use Rattle.page_image.specs.Page.{Node, PageContents, HasRisingKeys, IsBelow, IsInsertPlace, IsPage, no_node, node_at, with_extent}
use Rattle.common_lemmas.proofs.Edits.{All-insert}
use Rattle.page_space.specs.Frames.{Frames, page_at}
use Rattle.btree_inplace.specs.Alterations.{Altered, AlteredTree, Swaps, copies}
use Rattle.btree_inplace.specs.Changes.{Changed, IsLocal, IsOldKey, StayBut, inserted, with_extent_at}
use Rattle.btree_inplace.specs.Order.{has_key}
use Rattle.btree_inplace.specs.Shape.{IsSubtree, IsTreeNode, page_in}
use Rattle.btree_inplace.specs.Trees.{Exchanges, IsTree, nodes_of, pages_of}
use Rattle.btree_inplace.specs.declared.Tree.{Tree}
use Rattle.btree_inplace.proofs.Altering.{same_keys}
use Rattle.btree_inplace.proofs.Below.{has_key-itself, other_above, other_below}
use Rattle.btree_inplace.proofs.Changing.{map-fixed, set-stays}
use Rattle.btree_inplace.proofs.Counting.{AllPairs-copies, copies-itself, copies-one}
use Rattle.btree_inplace.proofs.Splitting.{nodes_written, written}
use Rattle.btree_inplace.proofs.Swapping.{swaps-exchanges}
use Rattle.btree_inplace.proofs.Writes.{wrote}

-- a tree after a change
pub altered_is_tree : (change : List Node → List Node) (old new : Frames) (tree tree' : Tree) → AlteredTree change old tree new tree' → IsTree new tree'
altered_is_tree change old new tree tree' a = record { shape = a.shape; once = AllPairs-copies (pages_of new tree') a.swaps.once; deep = a.deep }

pub altered_exchanges : (change : List Node → List Node) (old new : Frames) (tree tree' : Tree) → AlteredTree change old tree new tree' → Exchanges old new (pages_of old tree) (pages_of new tree')
altered_exchanges change old new tree tree' a = swaps-exchanges old new (pages_of old tree) (pages_of new tree') a.swaps

-- one page that changes
pub swaps_one : (old new : Frames) (page : ℕ) → StayBut old new page → Swaps old new (page ∷ []) (page ∷ [])
swaps_one old new page stay = record {
  once = λ p. copies-one p page;
  taken = λ p h. inl h;
  given_back = λ p h none. absurd (omega arith);
  others = λ p h none. stay p (λ e. absurd (omega (arith, ap (λ q. copies q (page ∷ [])) e, copies-itself page)));
}

less : (r : Ordering) → r ≡ Less → is_lt r ≡ true
less Less e = refl
less Equal e = cc
less Greater e = cc

not_less : (r : Ordering) → ordering_reverse r ≡ Less → is_lt r ≡ false
not_less Less e = cc
not_less Equal e = refl
not_less Greater e = refl

goes_before : (n : Node) (key : List ℕ) → IsBelow n.key key → is_lt (slice_cmp nat_cmp n.key key) ≡ true
goes_before n key h = less (slice_cmp nat_cmp n.key key) h

goes_behind : (n : Node) (key : List ℕ) → IsBelow key n.key → is_lt (slice_cmp nat_cmp n.key key) ≡ false
goes_behind n key h = not_less (slice_cmp nat_cmp n.key key) (sym (nat_list_cmp_total.antisymm key n.key) ∙ h)

-- a new node at its place among those of a page
inserted-place : (nodes : List Node) (n : Node) (i : ℕ) → IsInsertPlace nodes n.key i → insert nodes i n ≡ inserted nodes n
inserted-place [] n zero place = refl
inserted-place [] n (suc i) place = absurd (omega (arith, place.within))
inserted-place (x ∷ xs) n zero place = sym (ap (λ b. cond b (x ∷ inserted xs n) (n ∷ x ∷ xs)) (goes_behind x n.key (place.above 0 (omega arith) (omega arith))))
inserted-place (x ∷ xs) n (suc i) place =
    ap (λ (l : List Node). x ∷ l) (inserted-place xs n i (record {
      within = omega (arith, place.within);
      below = λ k lt. place.below (suc k) (omega arith);
      above = λ k from l. place.above (suc k) (omega arith) (omega arith);
    }))
    ∙ sym (ap (λ b. cond b (x ∷ inserted xs n) (n ∷ x ∷ xs)) (goes_before x n.key (place.below 0 (omega arith))))

inserted-before : (n : Node) (c : List Node) → All (λ e. IsBelow n.key e.key) c → inserted c n ≡ n ∷ c
inserted-before n [] high = refl
inserted-before n (x ∷ xs) high = ap (λ b. cond b (x ∷ inserted xs n) (n ∷ x ∷ xs)) (goes_behind x n.key (high 0 x (omega arith)))

inserted-front : (n : Node) (b c : List Node) → All (λ e. IsBelow n.key e.key) c → inserted (b ++ c) n ≡ inserted b n ++ c
inserted-front n [] c high = inserted-before n c high
inserted-front n (x ∷ b) c high = by_test (is_lt (slice_cmp nat_cmp x.key n.key)) (inserted-front n b c high)
  where
    by_test : (t : Bool) → inserted (b ++ c) n ≡ inserted b n ++ c → cond t (x ∷ inserted (b ++ c) n) (n ∷ x ∷ (b ++ c)) ≡ cond t (x ∷ inserted b n) (n ∷ x ∷ b) ++ c
    by_test true rest = ap (λ (l : List Node). x ∷ l) rest
    by_test false rest = refl

pub inserted-local : (n : Node) → IsLocal (λ nodes. inserted nodes n) n.key
inserted-local n [] b c low high = inserted-front n b c high
inserted-local n (x ∷ a) b c low high =
    ap (λ t. cond t (x ∷ inserted (a ++ (b ++ c)) n) (n ∷ x ∷ (a ++ (b ++ c)))) (goes_before x n.key (low 0 x (omega arith)))
    ∙ ap (λ (l : List Node). x ∷ l) (inserted-local n a b c (All-tail (λ e. IsBelow e.key n.key) x a low) high)

pub leaf-insert : (old new : Frames) (leaf i : ℕ) (n : Node) → IsSubtree zero old leaf → IsInsertPlace (page_in old leaf).nodes n.key i → IsTreeNode n → StayBut old new leaf → page_at new leaf ≡ Some (record (page_in old leaf) { nodes = insert (page_in old leaf).nodes i n }) → IsPage (record (page_in old leaf) { nodes = insert (page_in old leaf).nodes i n }) → Altered (λ nodes. inserted nodes n) n.key zero old new leaf
leaf-insert old new leaf i n tree place is_node stay now page =
    let nodes = (page_in old leaf).nodes in
    let more : PageContents = record (page_in old leaf) { nodes = insert nodes i n } in
    let list : (page_in new leaf).nodes ≡ insert nodes i n = nodes_written new leaf more now in
    let old_keys = same_keys n.key nodes nodes refl in
    record {
      shape = written new leaf 1 more now tree.number tree.kind page (All-insert IsTreeNode nodes i n is_node tree.small);
      nodes = list ∙ inserted-place nodes n i place;
      swaps = swaps_one old new leaf stay;
      keys = subst (λ (ns : List Node). All (IsOldKey n.key nodes) ns) (sym list) (All-insert (IsOldKey n.key nodes) nodes i n (inl refl) old_keys);
      some = λ _. omega (arith, ap (λ (ns : List Node). length ns) list, length-insert nodes i n place.within);
    }

-- the extent of one key
pub with_extent_at-local : (key : List ℕ) (extent : ℕ) → IsLocal (λ ns. with_extent_at ns key extent) key
with_extent_at-local key wide a b c low high =
    let f : Node → Node = λ n. if has_key key n then record n { extent = wide } else n in
    let before : map f a ≡ a = map-fixed f a (λ k d h. ap (λ t. if t then record (get_or a k d) { extent = wide } else get_or a k d) (other_below (get_or a k d) key (low k d h))) in
    let behind : map f c ≡ c = map-fixed f c (λ k d h. ap (λ t. if t then record (get_or c k d) { extent = wide } else get_or c k d) (other_above (get_or c k d) key (high k d h))) in
    map-append f a (b ++ c) ∙ ap (λ (x : List Node). x ++ map f (b ++ c)) before ∙ ap (λ (x : List Node). a ++ x) (map-append f b c ∙ ap (λ (x : List Node). map f b ++ x) behind)

-- a node's extent written at its place is the extent written at its key
with_extent-place : (nodes : List Node) (key : List ℕ) (wide i : ℕ) → HasRisingKeys nodes → i < length nodes → (node_at nodes i).key ≡ key → with_extent nodes i wide ≡ with_extent_at nodes key wide
with_extent-place nodes key wide i rising h here =
    let f : Node → Node = λ n. if has_key key n then record n { extent = wide } else n in
    let m : Node = record (node_at nodes i) { extent = wide } in
    same_lists (set nodes i m) (map f nodes) (length-set nodes i m ∙ sym (length-map nodes f))
    (λ k d lt.
    let within : k < length nodes = omega (arith, length-set nodes i m) in
    elim (cases_eq k i) [
      | inl at ↦
          ap (λ j. get_or (set nodes i m) j d) at ∙ get_or-set_same nodes i m d h
          ∙ ap (λ t. if t then record (node_at nodes i) { extent = wide } else node_at nodes i) (sym (has_key-itself (node_at nodes i) key here))
          ∙ sym (get_or-map f nodes i no_node d h) ∙ ap (λ j. get_or (map f nodes) j d) (sym at)
      | inr ne ↦
          let other : has_key key (node_at nodes k) ≡ false = elim (cases_lt k i) [
            | inl low ↦ other_below (node_at nodes k) key (subst (λ (x : List ℕ). IsBelow (node_at nodes k).key x) here (rising k i no_node low h))
            | inr up ↦ other_above (node_at nodes k) key (subst (λ (x : List ℕ). IsBelow x (node_at nodes k).key) here (rising i k no_node (omega arith) within))
          ] in
          get_or-set_other nodes i k m d ne ∙ get_or_default nodes k d no_node within
          ∙ ap (λ t. if t then record (node_at nodes k) { extent = wide } else node_at nodes k) (sym other)
          ∙ sym (get_or-map f nodes k no_node d within)
    ])

pub leaf-widen : (old new : Frames) (leaf i : ℕ) (key : List ℕ) (wide : ℕ) → IsSubtree zero old leaf → i < length (page_in old leaf).nodes → (node_at (page_in old leaf).nodes i).key ≡ key → 6 + length key + wide ≤ 2032 → StayBut old new leaf → page_at new leaf ≡ Some (record (page_in old leaf) { nodes = with_extent (page_in old leaf).nodes i wide }) → IsPage (record (page_in old leaf) { nodes = with_extent (page_in old leaf).nodes i wide }) → Altered (λ ns. with_extent_at ns key wide) key zero old new leaf
leaf-widen old new leaf i key wide tree h here small stay now page =
    let nodes = (page_in old leaf).nodes in
    let m : Node = record (node_at nodes i) { extent = wide } in
    let more : PageContents = record (page_in old leaf) { nodes = set nodes i m } in
    let list : (page_in new leaf).nodes ≡ set nodes i m = nodes_written new leaf more now in
    let node : IsTreeNode m = record { size = omega (arith, ap (λ (k : List ℕ). length k) here); key = (tree.small i no_node h).key } in
    let old_keys = same_keys key nodes nodes refl in
    record {
      shape = written new leaf 1 more now tree.number tree.kind page (All-set IsTreeNode nodes i m node tree.small);
      nodes = list ∙ with_extent-place nodes key wide i tree.page.rising h here;
      swaps = swaps_one old new leaf stay;
      keys = subst (λ (ns : List Node). All (IsOldKey key nodes) ns) (sym list) (All-set (IsOldKey key nodes) nodes i m (inl here) old_keys);
      some = λ _. omega (arith, ap (λ (ns : List Node). length ns) list, length-set nodes i m);
    }

inserted-some : (nodes : List Node) (n : Node) → 0 < length (inserted nodes n)
inserted-some [] n = omega arith
inserted-some (x ∷ xs) n = by_test (is_lt (slice_cmp nat_cmp x.key n.key))
  where
    by_test : (t : Bool) → 0 < length (cond t (x ∷ inserted xs n) (n ∷ x ∷ xs))
    by_test true = omega arith
    by_test false = omega arith

-- a leaf that takes a node keeps its page
pub leaf-takes : (old new : Frames) (leaf i : ℕ) (n : Node) → IsSubtree zero old leaf → IsInsertPlace (page_in old leaf).nodes n.key i → IsTreeNode n → StayBut old new leaf → page_at new leaf ≡ Some (record (page_in old leaf) { nodes = insert (page_in old leaf).nodes i n }) → IsPage (record (page_in old leaf) { nodes = insert (page_in old leaf).nodes i n }) → Changed (λ nodes. inserted nodes n) n.key zero old new leaf
leaf-takes old new leaf i n tree place is_node stay now page =
    let altered = leaf-insert old new leaf i n tree place is_node stay now page in
    record {
      shape = altered.shape;
      nodes = altered.nodes;
      same = refl;
      keys = altered.keys;
      some = subst (λ (ns : List Node). 0 < length ns) (sym altered.nodes) (inserted-some (page_in old leaf).nodes n);
    }

pub same_exchanges : (frames : Frames) (list : List ℕ) → Exchanges frames frames list list
same_exchanges frames list = record {
  taken = λ p h. inl h;
  given_back = λ p h not. absurd (not h);
  others = λ p h not. refl;
}

-- a tree that keeps its pages, of which one was written
pub one_page_changes : (old new : Frames) (before after : List ℕ) (page : ℕ) → after ≡ before → Contains before page → StayBut old new page → Exchanges old new before after
one_page_changes old new before after page same own stay = record {
  taken = λ p h. inl (subst (λ (l : List ℕ). Contains l p) same h);
  given_back = λ p h not. absurd (not (subst (λ (l : List ℕ). Contains l p) (sym same) h));
  others = λ p h not. stay p (λ e. h (subst (Contains before) (sym e) own));
}

-- a tree of which one leaf takes a node
pub leaf_taken : (frames : Frames) (tree : Tree) (leaf i : ℕ) (n : Node) (x : PageContents) → IsTree frames tree → IsSubtree zero frames leaf → Contains (pages_of frames tree) leaf
    → ((change : List Node → List Node) (new : Frames) → IsLocal change n.key → StayBut frames new leaf → Changed change n.key zero frames new leaf → Changed change n.key tree.depth frames new tree.root)
    → IsInsertPlace (page_in frames leaf).nodes n.key i → IsTreeNode n → x ≡ record (page_in frames leaf) { nodes = insert (page_in frames leaf).nodes i n } → IsPage x
    → IsTree (set frames leaf (Some x)) tree × (nodes_of (set frames leaf (Some x)) tree ≡ inserted (nodes_of frames tree) n) × Exchanges frames (set frames leaf (Some x)) (pages_of frames tree) (pages_of (set frames leaf (Some x)) tree)
leaf_taken frames tree leaf i n x is shape own lifts place is_node value page =
    let new = set frames leaf (Some x) in
    let stay = set-stays frames leaf (Some x) in
    let changed = lifts (λ nodes. inserted nodes n) new (inserted-local n) stay
    (leaf-takes frames new leaf i n shape place is_node stay (wrote frames leaf x shape.taken ∙ ap Some value) (subst IsPage value page)) in (
      record { shape = changed.shape; once = subst (λ (l : List ℕ). AllPairs (λ p q. p ≢ q) l) (sym changed.same) is.once; deep = is.deep },
      changed.nodes,
      one_page_changes frames new (pages_of frames tree) (pages_of new tree) leaf changed.same own stay,
    )
