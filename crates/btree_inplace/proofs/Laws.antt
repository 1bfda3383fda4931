-- What a change says of the pages of a space.
use Rattle.std.proofs.Common.{◌≡◌, ◌≢◌, ℕ, zero, suc, ◌<◌, ◌⊎◌, inl, inr, None, List, [], ◌∷◌, length, get_or, sym, subst, arith}
use Rattle.std.specs.Prelude.{AllPairs, Contains}
use Rattle.std.specs.List.{flat_map}
use Rattle.std.proofs.lemmas.Bool.{cases_lt}
use Rattle.std.proofs.lemmas.List.{get_or_default}
use Rattle.page_image.specs.Page.{Node, no_node, node_at}
use Rattle.page_space.specs.Frames.{Frames, IsTaken, Takes, page_at}
use Rattle.btree_inplace.specs.Alterations.{copies}
use Rattle.btree_inplace.specs.Shape.{IsSubtree, child_of, entries, page_in, pages}
use Rattle.btree_inplace.specs.Trees.{AreApart, Exchanges, IsTree, Stay, nodes_of, pages_of}
use Rattle.btree_inplace.specs.declared.Tree.{Tree}
use Rattle.btree_inplace.proofs.Counting.{Contains-copies, copies-Contains, copies-cons, copies-flat_map, copies-is}
use Rattle.btree_inplace.proofs.Parts.{pages_taken}
use Rattle.btree_inplace.proofs.Swapping.{taken_not_free}
use Rattle.btree_inplace.proofs.Staying.{same_entries, same_pages, same_tree}
use Rattle.btree_inplace.proofs.Writes.{taken_same, takes_free, takes_other}

decides : (list : List ℕ) (p : ℕ) → Contains list p ⊎ (¬ Contains list p)
decides list p = elim (cases_lt 0 (copies p list)) [
  | inl there ↦ inl (Contains-copies list p there)
  | inr none ↦ inr (λ h. absurd (omega (arith, copies-Contains list p h)))
]

pub own_is_taken : (frames : Frames) (tree : Tree) (p : ℕ) → IsTree frames tree → Contains (pages_of frames tree) p → IsTaken frames p
own_is_taken frames tree p is there = pages_taken tree.depth frames tree.root is.shape p (copies-Contains (pages_of frames tree) p there)

still_apart : (old new : Frames) (before after : List ℕ) (tree : Tree) → Exchanges old new before after → IsTree old tree → AreApart (pages_of old tree) before → AreApart (pages_of old tree) after
still_apart old new before after tree e is apart p there now = elim (e.taken p now) [
  | inl was ↦ apart p there was
  | inr free ↦ taken_not_free old p (own_is_taken old tree p is there) free
]

-- A tree whose pages stay is the same tree.
same_tree_of : (old new : Frames) (tree : Tree) → IsTree old tree → Stay old new (pages_of old tree) → IsTree new tree
same_tree_of old new tree is stay = record {
  shape = same_tree tree.depth old new tree.root stay is.shape;
  once = subst (λ (l : List ℕ). AllPairs (λ p q. p ≢ q) l) (sym (same_pages tree.depth old new tree.root stay)) is.once;
  deep = is.deep;
}

pub other_stays : (old new : Frames) (before after : List ℕ) (tree : Tree) → Exchanges old new before after → IsTree old tree → AreApart (pages_of old tree) before
    → IsTree new tree × (nodes_of new tree ≡ nodes_of old tree) × (pages_of new tree ≡ pages_of old tree) × AreApart (pages_of new tree) after
other_stays old new before after tree e is apart =
    let still = still_apart old new before after tree e is apart in
    let stay : Stay old new (pages_of old tree) = λ p there. e.others p (apart p there) (still p there) in
    let pages = same_pages tree.depth old new tree.root stay in
    (same_tree_of old new tree is stay, same_entries tree.depth old new tree.root stay, pages, λ p there. still p (subst (λ (l : List ℕ). Contains l p) pages there))

pub taken_then : (old new : Frames) (before after : List ℕ) → Exchanges old new before after → (p : ℕ) → IsTaken new p → Contains after p ⊎ (IsTaken old p × (¬ Contains before p))
taken_then old new before after e p taken = elim (decides after p) [
  | inl own ↦ inl own
  | inr not ↦ elim (decides before p) [
    | inl was ↦ absurd (taken_not_free new p taken (e.given_back p was not))
    | inr other ↦ inr (taken_same new old p (sym (e.others p other not)) taken, other)
  ]
]

pub taken_from : (old new : Frames) (before : List ℕ) (tree : Tree) → IsTree new tree → Exchanges old new before (pages_of new tree) → (p : ℕ) → Contains (pages_of new tree) p ⊎ (IsTaken old p × (¬ Contains before p)) → IsTaken new p
taken_from old new before tree is e p (inl own) = own_is_taken new tree p is own
taken_from old new before tree is e p (inr other) = elim (decides (pages_of new tree) p) [
  | inl own ↦ own_is_taken new tree p is own
  | inr not ↦ taken_same old new p (e.others p other.1 not) other.0
]

-- a page that was taken
only_page : (page p k : ℕ) → k < 1 → get_or (page ∷ []) k p ≡ p → page ≡ p
only_page page p zero lt e = e
only_page page p (suc k) lt e = absurd (omega arith)

pub takes_one : (old : Frames) (page : ℕ) (new : Frames) → Takes old page new → Exchanges old new [] (page ∷ [])
takes_one old page new t = record {
  taken = λ p there. inr (subst (λ q. page_at old q ≡ None) (only_page page p there.0 there.1 there.2) (takes_free old page new t));
  given_back = λ p there not. absurd (omega (arith, there.1));
  others = λ p none not. takes_other old page new t p (λ e. not (0, omega arith, sym e));
}

-- No page is empty where a node is below it.
pub used : (depth : ℕ) (frames : Frames) (page : ℕ) → IsSubtree depth frames page → 0 < length (entries depth frames page) → (p : ℕ) → 0 < copies p (pages depth frames page) → 0 < length (page_in frames p).nodes
used zero frames page tree some p h = subst (λ q. 0 < length (page_in frames q).nodes) (copies-is p page h) some
used (suc depth) frames page tree some p h =
    let nodes = (page_in frames page).nodes in
    let g : Node → List ℕ = λ n. pages depth frames (child_of n) in
    elim (cases_lt 0 (copies p (page ∷ []))) [
      | inl here ↦ subst (λ q. 0 < length (page_in frames q).nodes) (copies-is p page here) tree.1.some
      | inr none ↦ copies-flat_map {P = 0 < length (page_in frames p).nodes} g nodes p
          (λ k d lt there. used depth frames (child_of (node_at nodes k)) (tree.2 k lt) (tree.3 k lt).some p (subst (λ (n : Node). 0 < copies p (g n)) (get_or_default nodes k d no_node lt) there))
          (omega (arith, copies-cons p page (flat_map g nodes)))
    ]
