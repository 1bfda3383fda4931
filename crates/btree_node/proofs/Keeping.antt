-- A cut of nodes with a new one among them, and the nodes that are there.
use Rattle.std.proofs.Common.{◌≡◌, ℕ, zero, suc, ◌+◌, ◌-◌, ◌<◌, ◌≤◌, inl, inr, max, List, [], ◌∷◌, length, map, sum, sum_by, take, drop, get_or, refl, ap, subst, ◌∙◌, arith}
use Rattle.std.specs.Prelude.{All}
use Rattle.std.proofs.lemmas.Bool.{cases_lt}
use Rattle.std.proofs.lemmas.List.{drop_all, length-map}
use Rattle.std.proofs.lemmas.List.Sums.{sum_by-cons, sum_by-take-drop}
use Rattle.common_lemmas.proofs.Edits.{sum-take-insert, take-insert}
use Rattle.page_image.specs.Page.{Node, no_node, node_at, node_size, page_size}
use Rattle.btree_node.specs.Cut.{IsCut, PartsNodes, sizes_with}
use Rattle.btree_node.specs.Parts.{larger_part}
use Rattle.btree_node.proofs.Sizes.{length-sizes_with, size_above, size_at, sizes_small, sum-parts, sum-sizes_with, sum-take-more, sum-take-rises}

-- A page that a small node does not fit has two nodes.
pub two_nodes : (nodes : List Node) (need : ℕ) → 4096 < page_size nodes + need → need ≤ 2032 → All (λ n. node_size n ≤ 2032) nodes → 1 < length nodes
two_nodes [] need full small all = absurd (omega arith)
two_nodes (x ∷ []) need full small all = absurd (omega (arith, sum_by-cons node_size x [], all 0 no_node (omega arith)))
two_nodes (x ∷ y ∷ nodes) need full small all = omega arith

-- ---- room for the new node

sum-take-map : (nodes : List Node) (k : ℕ) → sum (take k (map node_size nodes)) ≡ sum_by node_size (take k nodes)
sum-take-map nodes zero = refl
sum-take-map [] (suc k) = refl
sum-take-map (n ∷ nodes) (suc k) = omega (arith, sum-take-map nodes k, sum_by-cons (λ x. x) (node_size n) (take k (map node_size nodes)), sum_by-cons node_size n (take k nodes))

pub room_before : (nodes : List Node) (i need m : ℕ) → i ≤ length nodes → IsCut nodes i need m → i < m → page_size (take (m - 1) nodes) + need ≤ 4096
room_before nodes i need zero place cut low = absurd (omega arith)
room_before nodes i need (suc k) place cut low =
    let less : suc k - 1 ≡ k = omega arith in
    omega (arith, cut.left, sum-take-insert (λ x. x) (map node_size nodes) i k need (omega arith), sum-take-map nodes k, ap (λ j. page_size (take j nodes)) less)

pub room_behind : (nodes : List Node) (i need m : ℕ) → i ≤ length nodes → IsCut nodes i need m → m ≤ i → page_size (drop m nodes) + need ≤ 4096
room_behind nodes i need m place cut high =
    omega (arith, cut.right, sum-parts (sizes_with nodes i need) m, sum-sizes_with nodes i need, ap sum (take-insert (map node_size nodes) i m need high (omega (arith, length-map nodes node_size))), sum-take-map nodes m, sum_by-take-drop node_size nodes m)

-- ---- a new node behind all others

pub cut_rising : (nodes : List Node) (i need m : ℕ) → m + 1 ≡ i → i ≡ length nodes → 1 < length nodes → need ≤ 2032 → All (λ n. node_size n ≤ 2032) nodes → page_size nodes ≤ 4096 → IsCut nodes i need m
cut_rising nodes i need m m_is i_is two small all size =
    let sizes = sizes_with nodes i need in
    let place : i ≤ length nodes = omega arith in
    let long = length-sizes_with nodes i need place in
    let more = sum-take-more sizes m (omega arith) in
    let most = sum-take-more sizes (m + 1) (omega arith) in
    let new : get_or sizes (m + 1) 0 ≡ need = ap (λ k. get_or sizes k 0) m_is ∙ size_at nodes i need place in
    let none : sum (drop (m + 1 + 1) sizes) ≡ 0 = ap sum (drop_all (m + 1 + 1) sizes (omega arith)) in
    let last = sizes_small nodes i need place small all m (omega arith) in
    record {
      first = omega arith;
      last = omega arith;
      left = omega (arith, size, sum-sizes_with nodes i need, more, most, new, none, sum-parts sizes (m + 1 + 1));
      right = omega (arith, sum-parts sizes m, more, most, new, none, sum-parts sizes (m + 1 + 1), last);
    }

-- ---- a new node before all others

-- the first node goes along with it
pub with_first : (P : ℕ → Type 0) (m : ℕ) → 0 < m → (1 < m → P m) → (m ≡ 1 → P 2) → P (max m 2)
with_first P m some high low = elim (cases_lt 1 m) [
  | inl more ↦ let same : m ≡ max m 2 = omega arith in subst P same (high more)
  | inr one ↦ let same : 2 ≡ max m 2 = omega arith in subst P same (low (omega arith))
]

pub cut_second : (nodes : List Node) (need : ℕ) → 1 < length nodes → need ≤ 2032 → All (λ n. node_size n ≤ 2032) nodes → IsCut nodes 0 need 1 → IsCut nodes 0 need 2
cut_second nodes need two small all cut =
    let sizes = sizes_with nodes 0 need in
    let more = sum-take-more sizes 1 (omega (arith, length-sizes_with nodes 0 need (omega arith))) in
    let least = sum-take-more sizes 0 (omega (arith, length-sizes_with nodes 0 need (omega arith))) in
    let first = sizes_small nodes 0 need (omega arith) small all 0 (omega arith) in
    let second = sizes_small nodes 0 need (omega arith) small all 1 (omega arith) in
    record {
      first = omega arith;
      last = omega arith;
      left = omega (arith, more, least, first, second);
      right = omega (arith, cut.right, sum-parts sizes 1, sum-parts sizes 2, more);
    }

pub even_second : (nodes : List Node) (need : ℕ) → 0 < length nodes → ((k : ℕ) → larger_part (sizes_with nodes 0 need) 1 ≤ larger_part (sizes_with nodes 0 need) k) → (k : ℕ) → PartsNodes nodes 0 k → larger_part (sizes_with nodes 0 need) 2 ≤ larger_part (sizes_with nodes 0 need) k
even_second nodes need some least k parts =
    let sizes = sizes_with nodes 0 need in
    let more = sum-take-more sizes 1 (omega (arith, length-sizes_with nodes 0 need (omega arith))) in
    let one : get_or sizes (0 + 1) 0 ≡ node_size (node_at nodes 0) = size_above nodes 0 need 0 (omega arith) (omega arith) some in
    omega (arith, sum-parts sizes 1, sum-parts sizes 2, sum-parts sizes k, more, one, sum-take-rises sizes 2 k (parts.first_other parts.first), least 2)

pub first_cut : (nodes : List Node) (i need m : ℕ) → i ≡ 0 → 1 < length nodes → need ≤ 2032 → All (λ n. node_size n ≤ 2032) nodes → IsCut nodes i need m → IsCut nodes i need (max m 2)
first_cut nodes zero need m e two small all cut = with_first (IsCut nodes 0 need) m cut.first (λ _. cut) (λ one. cut_second nodes need two small all (subst (IsCut nodes 0 need) one cut))
first_cut nodes (suc i) need m e two small all cut = absurd (omega arith)

pub first_even : (nodes : List Node) (i need m : ℕ) → i ≡ 0 → 0 < length nodes → 0 < m → ((k : ℕ) → larger_part (sizes_with nodes i need) m ≤ larger_part (sizes_with nodes i need) k)
    → (k : ℕ) → PartsNodes nodes i k → larger_part (sizes_with nodes i need) (max m 2) ≤ larger_part (sizes_with nodes i need) k
first_even nodes zero need m e some first least k parts =
    let sizes = sizes_with nodes 0 need in
    with_first (λ r. larger_part sizes r ≤ larger_part sizes k) m first (λ _. least k)
    (λ one. even_second nodes need some (λ j. subst (λ r. larger_part sizes r ≤ larger_part sizes j) one (least j)) k parts)
first_even nodes (suc i) need m e some first least k parts = absurd (omega arith)
