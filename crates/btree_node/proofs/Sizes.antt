-- The sizes of nodes with a new one among them.
use Rattle.std.proofs.Common.{◌≡◌, ℕ, zero, suc, ◌+◌, ◌-◌, ◌*◌, ◌<◌, ◌≤◌, inl, inr, List, [], ◌∷◌, length, map, sum, take, drop, get_or, refl, sym, ap, ◌∙◌, arith, add-one}
use Rattle.std.specs.Prelude.{sum_by, insert, All}
use Rattle.std.proofs.lemmas.List.{take-append-drop, drop_all, get_or-map, length-map}
use Rattle.std.proofs.lemmas.List.Edits.{length-insert, get_or-insert_below, get_or-insert_at, get_or-insert_above}
use Rattle.std.proofs.lemmas.List.Sums.{sum_by-cons, sum_by-append, sum_by_more}
use Rattle.std.proofs.lemmas.Bool.{cases_lt, cases_eq}
use Rattle.page_image.specs.Page.{Node, no_node, node_at, node_size, page_size}
use Rattle.btree_node.specs.Cut.{IsCut, sizes_with}
use Rattle.btree_node.specs.Parts.{larger_part}

pub length-sizes_with : (nodes : List Node) (i need : ℕ) → i ≤ length nodes → length (sizes_with nodes i need) ≡ length nodes + 1
length-sizes_with nodes i need h = omega (arith, length-insert (map node_size nodes) i need (omega (arith, length-map nodes node_size)), length-map nodes node_size)

-- the new node, those before it, and those behind it
pub size_at : (nodes : List Node) (i need : ℕ) → i ≤ length nodes → get_or (sizes_with nodes i need) i 0 ≡ need
size_at nodes i need h = get_or-insert_at (map node_size nodes) i need 0 (omega (arith, length-map nodes node_size))

pub size_below : (nodes : List Node) (i need m : ℕ) → i ≤ length nodes → m < i → get_or (sizes_with nodes i need) m 0 ≡ node_size (node_at nodes m)
size_below nodes i need m h lt = get_or-insert_below (map node_size nodes) i need 0 m lt (omega (arith, length-map nodes node_size)) ∙ get_or-map node_size nodes m no_node 0 (omega arith)

pub size_above : (nodes : List Node) (i need m : ℕ) → i ≤ length nodes → i ≤ m → m < length nodes → get_or (sizes_with nodes i need) (m + 1) 0 ≡ node_size (node_at nodes m)
size_above nodes i need m h le lt = get_or-insert_above (map node_size nodes) i need 0 m le (omega (arith, length-map nodes node_size)) ∙ get_or-map node_size nodes m no_node 0 lt

pub sum-map : (nodes : List Node) → sum (map node_size nodes) ≡ sum_by node_size nodes
sum-map [] = refl
sum-map (n ∷ nodes) = omega (arith, sum-map nodes, sum_by-cons (λ x. x) (node_size n) (map node_size nodes), sum_by-cons node_size n nodes)

pub sum-insert : (xs : List ℕ) (i y : ℕ) → sum (insert xs i y) ≡ sum xs + y
sum-insert xs zero y = omega (arith, sum_by-cons (λ x. x) y xs)
sum-insert [] (suc i) y = omega (arith, sum_by-cons (λ x. x) y [])
sum-insert (x ∷ xs) (suc i) y = omega (arith, sum-insert xs i y, sum_by-cons (λ x. x) x (insert xs i y), sum_by-cons (λ x. x) x xs)

pub sum-sizes_with : (nodes : List Node) (i need : ℕ) → sum (sizes_with nodes i need) ≡ sum_by node_size nodes + need
sum-sizes_with nodes i need = sum-insert (map node_size nodes) i need ∙ ap (λ k. k + need) (sum-map nodes)

-- no node takes more than 2,032 bytes
pub sizes_small : (nodes : List Node) (i need : ℕ) → i ≤ length nodes → need ≤ 2032 → All (λ n. node_size n ≤ 2032) nodes → (m : ℕ) → m ≤ length nodes → get_or (sizes_with nodes i need) m 0 ≤ 2032
sizes_small nodes i need h small all zero le = elim (cases_eq 0 i) [
  | inl at ↦ omega (arith, ap (λ k. get_or (sizes_with nodes i need) k 0) at, size_at nodes i need h)
  | inr other ↦ omega (arith, size_below nodes i need 0 h (omega arith), all 0 no_node (omega arith))
]
sizes_small nodes i need h small all (suc m) le = elim (cases_lt (suc m) i) [
  | inl before ↦ omega (arith, size_below nodes i need (suc m) h before, all (suc m) no_node (omega arith))
  | inr after ↦ elim (cases_eq (suc m) i) [
    | inl at ↦ omega (arith, ap (λ k. get_or (sizes_with nodes i need) k 0) at, size_at nodes i need h)
    | inr other ↦ omega (arith, ap (λ k. get_or (sizes_with nodes i need) k 0) (add-one m), size_above nodes i need m h (omega arith) (omega arith), all m no_node (omega arith))
  ]
]

pub sum-parts : (xs : List ℕ) (m : ℕ) → sum (take m xs) + sum (drop m xs) ≡ sum xs
sum-parts xs m = sym (sum_by-append (λ x. x) (take m xs) (drop m xs)) ∙ ap sum (take-append-drop m xs)

pub sum-take-more : (xs : List ℕ) (m : ℕ) → m < length xs → sum (take (m + 1) xs) ≡ sum (take m xs) + get_or xs m 0
sum-take-more xs m h = sum_by_more (λ x. x) xs m 0 h

-- A page that a small node does not fit has a node.
pub nodes_are_some : (nodes : List Node) (need : ℕ) → 4096 < page_size nodes + need → need ≤ 2032 → 0 < length nodes
nodes_are_some [] need full small = absurd (omega arith)
nodes_are_some (n ∷ nodes) need full small = omega arith

-- a cut before the last node
pub cut_last : (nodes : List Node) (i need m before : ℕ) → i ≤ length nodes → need ≤ 2032 → All (λ n. node_size n ≤ 2032) nodes → 0 < length nodes → m ≡ length nodes → before ≡ sum (take m (sizes_with nodes i need)) → before ≤ 4064 → IsCut nodes i need m
cut_last nodes i need m before place small all some m_is before_is left =
    let sizes = sizes_with nodes i need in
    let long = length-sizes_with nodes i need place in
    let none : sum (drop (m + 1) sizes) ≡ 0 = ap sum (drop_all (m + 1) sizes (omega arith)) in
    record {
      first = omega arith;
      last = omega arith;
      left = omega arith;
      right = omega (arith, sum-parts sizes m, sum-parts sizes (m + 1), none, sum-take-more sizes m (omega arith), sizes_small nodes i need place small all m (omega arith));
    }

-- a cut where the next node would make the first part the larger one by more
pub cut_here : (nodes : List Node) (i need m before size whole : ℕ) → i ≤ length nodes → need ≤ 2032 → All (λ n. node_size n ≤ 2032) nodes → m < length nodes → before ≡ sum (take m (sizes_with nodes i need)) → before ≤ 4064 → size ≡ get_or (sizes_with nodes i need) m 0 → whole ≡ sum_by node_size nodes + need → whole < 2 * before + size → 4064 < whole → whole ≤ 6096 → IsCut nodes i need m
cut_here nodes i need m before size whole place small all within before_is left size_is whole_is more full most =
    let sizes = sizes_with nodes i need in
    let least = sizes_small nodes i need place small all m (omega arith) in
    record {
      first = first m before_is;
      last = omega arith;
      left = omega arith;
      right = omega (arith, sum-parts sizes m, sum-sizes_with nodes i need, least);
    }
  where
    first : (m : ℕ) → before ≡ sum (take m (sizes_with nodes i need)) → 0 < m
    first zero none = absurd (omega (arith, sizes_small nodes i need place small all m (omega arith)))
    first (suc m) some = omega arith

-- more nodes take more
pub sum-take-rises : (xs : List ℕ) (j k : ℕ) → j ≤ k → sum (take j xs) ≤ sum (take k xs)
sum-take-rises xs zero k h = omega arith
sum-take-rises [] (suc j) k h = omega arith
sum-take-rises (x ∷ xs) (suc j) zero h = absurd (omega arith)
sum-take-rises (x ∷ xs) (suc j) (suc k) h = omega (arith, sum-take-rises xs j k (omega arith), sum_by-cons (λ x. x) x (take j xs), sum_by-cons (λ x. x) x (take k xs))

-- A cut is as even as can be where a node more in the first part makes it the larger one by more, and a node less the other.
pub larger_part-least : (sizes : List ℕ) (m k : ℕ) → ((j : ℕ) → j + 1 ≡ m → sum (take j sizes) + sum (take m sizes) ≤ sum sizes) → sum sizes ≤ sum (take m sizes) + sum (take (m + 1) sizes) → larger_part sizes m ≤ larger_part sizes k
larger_part-least sizes m k less more = elim (cases_lt k m) [
  | inl below ↦ omega (arith, sum-parts sizes m, sum-parts sizes k, sum-take-rises sizes k (m - 1) (omega arith), sum-take-rises sizes k m (omega arith), less (m - 1) (omega arith))
  | inr from ↦ elim (cases_eq k m) [
    | inl same ↦ omega (arith, ap (larger_part sizes) same)
    | inr other ↦ omega (arith, sum-parts sizes m, sum-parts sizes k, sum-take-rises sizes m k (omega arith), sum-take-rises sizes (m + 1) k (omega arith), more)
  ]
]

-- all but the last node are before the last cut
pub sum-take-all : (nodes : List Node) (i need m : ℕ) → i ≤ length nodes → m ≡ length nodes → sum (take (m + 1) (sizes_with nodes i need)) ≡ sum (sizes_with nodes i need)
sum-take-all nodes i need m place is =
    let sizes = sizes_with nodes i need in
    let none : sum (drop (m + 1) sizes) ≡ 0 = ap sum (drop_all (m + 1) sizes (omega (arith, length-sizes_with nodes i need place))) in
    omega (arith, sum-parts sizes (m + 1), none)
