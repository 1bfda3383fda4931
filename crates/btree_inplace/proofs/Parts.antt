-- The children of an inner page, each by itself and in their order.
use Rattle.std.proofs.Common.{◌≡◌, ◌≢◌, ℕ, zero, suc, ◌+◌, ◌<◌, ◌≤◌, inl, inr, List, [], ◌∷◌, length, get_or, sym, ap, subst, arith}
use Rattle.std.specs.Prelude.{All, AllPairs}
use Rattle.std.specs.List.{flat_map}
use Rattle.std.proofs.lemmas.Bool.{cases_lt, cases_eq}
use Rattle.std.proofs.lemmas.Cmp.{nat_list_cmp_total}
use Rattle.std.proofs.lemmas.List.{get_or_default}
use Rattle.std.proofs.lemmas.List.Elements.{All-from_get_or}
use Rattle.page_image.specs.Page.{Node, IsBelow, no_node, node_at}
use Rattle.page_space.specs.Frames.{Frames, IsTaken}
use Rattle.btree_inplace.specs.Alterations.{copies}
use Rattle.btree_inplace.specs.Shape.{IsSubtree, IsTreeNode, IsTreePage, child_of, entries, page_in, pages}
use Rattle.btree_inplace.specs.Trees.{Stay}
use Rattle.btree_inplace.proofs.Counting.{copies-append, copies-cons, copies-flat_map, copies-is}
use Rattle.btree_inplace.proofs.Staying.{same_entries, same_tree}

-- a child: its tree has a node, and none below its key
pub record IsPart (depth : ℕ) (frames : Frames) (n : Node) : Type 0 where
  pub node : IsTreeNode n
  pub width : length n.data ≡ 4
  pub extent : n.extent ≡ 4
  pub tree : IsSubtree depth frames (child_of n)
  pub some : 0 < length (entries depth frames (child_of n))
  pub lower : All (λ e. ¬ IsBelow e.key n.key) (entries depth frames (child_of n))

-- the nodes of a child are below the key of a later one
abbrev pub Before : ℕ → Frames → Node → Node → Type 0
Before depth frames a b = All (λ e. IsBelow e.key b.key) (entries depth frames (child_of a))

pub record Parts (depth : ℕ) (frames : Frames) (nodes : List Node) : Type 0 where
  pub some : 0 < length nodes
  pub first : (node_at nodes 0).key ≡ []
  pub each : All (IsPart depth frames) nodes
  pub order : AllPairs (Before depth frames) nodes

pub pairs_from : {X : Type 0} (R : X → X → Type 0) (xs : List X) (z : X) → ((i j : ℕ) → i < j → j < length xs → R (get_or xs i z) (get_or xs j z)) → AllPairs R xs
pairs_from R xs z pairs i j d lt h =
    subst (λ x. R x (get_or xs j d)) (sym (get_or_default xs i d z (omega arith)))
    (subst (λ x. R (get_or xs i z) x) (sym (get_or_default xs j d z h)) (pairs i j lt h))

pub tree_parts : (depth : ℕ) (frames : Frames) (page : ℕ) → IsSubtree (suc depth) frames page → Parts depth frames (page_in frames page).nodes
tree_parts depth frames page tree =
    let nodes = (page_in frames page).nodes in
    record {
      some = tree.1.some;
      first = tree.1.first;
      each = All-from_get_or (IsPart depth frames) nodes no_node (λ k h. record {
        node = tree.0.small k no_node h;
        width = tree.1.children k no_node h;
        extent = tree.1.extents k no_node h;
        tree = tree.2 k h;
        some = (tree.3 k h).some;
        lower = (tree.3 k h).lower;
      });
      order = pairs_from (Before depth frames) nodes no_node (λ i j lt h k d g.
          let e = get_or (entries depth frames (child_of (node_at nodes i))) k d in
          let next : IsBelow e.key (node_at nodes (i + 1)).key = (tree.3 i (omega arith)).upper (omega arith) k d g in
          elim (cases_eq (i + 1) j) [
            | inl at ↦ subst (λ n. IsBelow e.key (node_at nodes n).key) at next
            | inr other ↦ nat_list_cmp_total.trans e.key (node_at nodes (i + 1)).key (node_at nodes j).key next (tree.0.page.rising (i + 1) j no_node (omega arith) h)
          ]);
    }

pub parts_tree : (depth : ℕ) (frames : Frames) (page : ℕ) → IsTreePage frames page 2 → Parts depth frames (page_in frames page).nodes → IsSubtree (suc depth) frames page
parts_tree depth frames page is parts = (
  is,
  record { some = parts.some; first = parts.first; children = λ k d h. (parts.each k d h).width; extents = λ k d h. (parts.each k d h).extent },
  λ i h. (parts.each i no_node h).tree,
  λ i h. record {
    some = (parts.each i no_node h).some;
    lower = (parts.each i no_node h).lower;
    upper = λ more. parts.order i (i + 1) no_node (omega arith) more;
  },
)

-- a child whose pages stay
pub part_stays : (depth : ℕ) (old new : Frames) (n : Node) → Stay old new (pages depth old (child_of n)) → IsPart depth old n → IsPart depth new n
part_stays depth old new n stay part =
    let same = sym (same_entries depth old new (child_of n) stay) in
    record {
      node = part.node;
      width = part.width;
      extent = part.extent;
      tree = same_tree depth old new (child_of n) stay part.tree;
      some = subst (λ (es : List Node). 0 < length es) same part.some;
      lower = subst (λ (es : List Node). All (λ e. ¬ IsBelow e.key n.key) es) same part.lower;
    }

-- All pages of a tree are taken.
pub pages_taken : (depth : ℕ) (frames : Frames) (page : ℕ) → IsSubtree depth frames page → (p : ℕ) → 0 < copies p (pages depth frames page) → IsTaken frames p
pages_taken zero frames page tree p h = subst (IsTaken frames) (copies-is p page h) tree.taken
pages_taken (suc depth) frames page tree p h =
    let nodes = (page_in frames page).nodes in
    let g : Node → List ℕ = λ n. pages depth frames (child_of n) in
    elim (cases_lt 0 (copies p (page ∷ []))) [
      | inl here ↦ subst (IsTaken frames) (copies-is p page here) tree.0.taken
      | inr none ↦ copies-flat_map {P = IsTaken frames p} g nodes p
          (λ k d lt there. pages_taken depth frames (child_of (node_at nodes k)) (tree.2 k lt) p (subst (λ (n : Node). 0 < copies p (g n)) (get_or_default nodes k d no_node lt) there))
          (omega (arith, copies-cons p page (flat_map g nodes)))
    ]

-- the pages of one child, and of two
pub part_le : (g : Node → List ℕ) (xs : List Node) (p k : ℕ) → k < length xs → copies p (g (node_at xs k)) ≤ copies p (flat_map g xs)
part_le g [] p k h = absurd (omega arith)
part_le g (x ∷ xs) p zero h = omega (arith, copies-append p (g x) (flat_map g xs))
part_le g (x ∷ xs) p (suc k) h = omega (arith, part_le g xs p k (omega arith), copies-append p (g x) (flat_map g xs))

pub two_parts : (g : Node → List ℕ) (xs : List Node) (p k i : ℕ) → k ≢ i → k < length xs → i < length xs → copies p (g (node_at xs k)) + copies p (g (node_at xs i)) ≤ copies p (flat_map g xs)
two_parts g [] p k i ne h l = absurd (omega arith)
two_parts g (x ∷ xs) p zero zero ne h l = absurd (omega arith)
two_parts g (x ∷ xs) p zero (suc i) ne h l = omega (arith, part_le g xs p i (omega arith), copies-append p (g x) (flat_map g xs))
two_parts g (x ∷ xs) p (suc k) zero ne h l = omega (arith, part_le g xs p k (omega arith), copies-append p (g x) (flat_map g xs))
two_parts g (x ∷ xs) p (suc k) (suc i) ne h l =
    omega (arith, two_parts g xs p k i (λ e. ne (ap suc e)) (omega arith) (omega arith), copies-append p (g x) (flat_map g xs))
