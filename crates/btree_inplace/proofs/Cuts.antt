-- Where a page is cut, and what room the parts have.
use Rattle.std.proofs.Common.{◌≡◌, ℕ, ◌+◌, ◌<◌, ◌≤◌, inl, inr, true, false, Option, Some, None, Result, Ok, Err, List, [], ◌∷◌, length, take, drop, refl, sym, ap, subst, ◌∙◌, arith, eq-eqb}
use Rattle.std.specs.Prelude.{All, find, insert, remove, nat_eq, IsOk, MatchOption, OnOk}
use Rattle.std.proofs.lemmas.Bool.{cases_eq, ne_eqb}
use Rattle.std.proofs.lemmas.List.Edits.{get_or-remove_above, length-remove}
use Rattle.std.proofs.lemmas.List.Sums.{sum_by-drop_more, sum_by-take-drop}
use Rattle.page_image.specs.Page.{Node, HasRisingKeys, IsBelow, IsInsertPlace, no_node, node_at, node_size, page_size}
use Rattle.common_lemmas.proofs.Orders.{less-asymmetric, less-irreflexive}
use Rattle.btree_inplace.specs.Alterations.{HasRoom, IsParted, Needs, cleared, separator}
use Rattle.btree_inplace.specs.Order.{has_key}
use Rattle.btree_inplace.proofs.Below.{found_at}

pub parted_at : (nodes : List Node) (at : ℕ) → HasRisingKeys nodes → 0 < at → at < length nodes → IsParted nodes at (node_at nodes at).key
parted_at nodes at rising some within = record {
  first = some;
  last = within;
  low = λ k lt. rising k at no_node lt within;
  high = λ k from l. elim (cases_eq at k) [
    | inl same ↦ subst (λ j. ¬ IsBelow (node_at nodes j).key (node_at nodes at).key) same (less-irreflexive (node_at nodes at).key)
    | inr ne ↦ less-asymmetric (node_at nodes at).key (node_at nodes k).key (rising at k no_node (omega arith) l)
  ];
}

pub parted_by : (nodes : List Node) (key : List ℕ) (i : ℕ) → IsInsertPlace nodes key i → 0 < i → i < length nodes → IsParted nodes i key
parted_by nodes key i place some within = record {
  first = some;
  last = within;
  low = place.below;
  high = λ k from l. less-asymmetric key (node_at nodes k).key (place.above k from l);
}

pub needs_small : (need : ℕ) (o : Option Node) → MatchOption o (need ≤ 2032) (λ n. node_size n + need ≤ 2032) → need ≤ 2032
needs_small need None h = h
needs_small need (Some n) h = omega arith

needs_found : (need : ℕ) (o : Option Node) (n : Node) → o ≡ Some n → MatchOption o (need ≤ 2032) (λ n. node_size n + need ≤ 2032) → node_size n + need ≤ 2032
needs_found need o n e h = subst (λ r. MatchOption r (need ≤ 2032) (λ n. node_size n + need ≤ 2032)) e h

-- the part behind the half
pub behind_half : (nodes : List Node) (h : ℕ) → page_size nodes ≤ 4096 → 2064 < page_size (take (h + 1) nodes) → page_size (drop (h + 1) nodes) < 2064
behind_half nodes h size more = omega (arith, sum_by-take-drop node_size nodes (h + 1))

pub from_half : (nodes : List Node) (h : ℕ) → h < length nodes → page_size (drop h nodes) ≡ page_size (drop (h + 1) nodes) + node_size (node_at nodes h)
from_half nodes h within = omega (arith, sum_by-drop_more node_size nodes h no_node within)

-- a new key, which stands in the first part
pub room_before : (nodes : List Node) (key : List ℕ) (i at need : ℕ) → IsInsertPlace nodes key i → i ≤ at → at < length nodes → page_size (take at nodes) + need ≤ 4096 → HasRoom nodes key need at (node_at nodes at).key
room_before nodes key i at need place le within room = record {
  left = λ _. room;
  right = λ not. absurd (not (place.above at le within));
}

-- and one which stands in the second part, at its front or behind
pub parted_behind : (nodes : List Node) (key : List ℕ) (i at : ℕ) → HasRisingKeys nodes → IsInsertPlace nodes key i → at ≤ i → 0 < at → at < length nodes → IsParted nodes at (separator nodes key at (nat_eq i at))
parted_behind nodes key i at rising place le some within = elim (cases_eq i at) [
  | inl same ↦ subst (λ b. IsParted nodes at (separator nodes key at b)) (sym (eq-eqb i at same)) (parted_by nodes key at (subst (IsInsertPlace nodes key) same place) some within)
  | inr ne ↦ subst (λ b. IsParted nodes at (separator nodes key at b)) (sym (ne_eqb i at ne)) (parted_at nodes at rising some within)
]

pub room_behind : (nodes : List Node) (key : List ℕ) (i at need : ℕ) → IsInsertPlace nodes key i → at ≤ i → page_size (drop at nodes) + need ≤ 4096 → HasRoom nodes key need at (separator nodes key at (nat_eq i at))
room_behind nodes key i at need place le room = record {
  left = λ b. absurd (elim (cases_eq i at) [
    | inl same ↦ less-irreflexive key (subst (λ t. IsBelow key (separator nodes key at t)) (eq-eqb i at same) b)
    | inr ne ↦ less-asymmetric (node_at nodes at).key key (place.below at (omega arith)) (subst (λ t. IsBelow key (separator nodes key at t)) (ne_eqb i at ne) b)
  ]);
  right = λ _. room;
}

-- a key that is there, up to the half
pub room_at_before : (nodes : List Node) (key : List ℕ) (i h need : ℕ) → HasRisingKeys nodes → (node_at nodes i).key ≡ key → i ≤ h → h < length nodes → page_size nodes ≤ 4096 → page_size (take h nodes) ≤ 2064 → 2064 < page_size (take (h + 1) nodes) → Needs key need nodes → HasRoom nodes key need h (node_at nodes h).key
room_at_before nodes key i h need rising here le within size half more needs =
    let small = needs_small need (find (has_key key) nodes) needs in
    let found : node_size (node_at nodes i) + need ≤ 2032 = needs_found need (find (has_key key) nodes) (node_at nodes i) (found_at nodes key i rising (omega arith) here) needs in
    record {
      left = λ _. omega arith;
      right = λ not. elim (cases_eq i h) [
        | inl at ↦ omega (arith, behind_half nodes h size more, from_half nodes h within, subst (λ j. node_size (node_at nodes j) + need ≤ 2032) at found)
        | inr ne ↦ absurd (not (subst (λ (x : List ℕ). IsBelow x (node_at nodes h).key) here (rising i h no_node (omega arith) within)))
      ];
    }

-- and behind it
pub room_at_behind : (nodes : List Node) (key : List ℕ) (i h need : ℕ) → HasRisingKeys nodes → (node_at nodes i).key ≡ key → h < i → i < length nodes → page_size nodes ≤ 4096 → 2064 < page_size (take (h + 1) nodes) → need ≤ 2032 → HasRoom nodes key need (h + 1) (node_at nodes (h + 1)).key
room_at_behind nodes key i h need rising here lt within size more needs = record {
  left = λ b. absurd ((parted_at nodes (h + 1) rising (omega arith) (omega arith)).high i (omega arith) within (subst (λ (x : List ℕ). IsBelow x (node_at nodes (h + 1)).key) (sym here) b));
  right = λ _. omega (arith, behind_half nodes h size more);
}

-- an inner page, whose nodes are small
pub inner_right : (nodes : List Node) (h : ℕ) → All (λ n. node_size n ≤ 765) nodes → h < length nodes → page_size nodes ≤ 4096 → 2064 < page_size (take (h + 1) nodes) → page_size (drop h nodes) + 765 ≤ 4096
inner_right nodes h small within size more = omega (arith, behind_half nodes h size more, from_half nodes h within, small h no_node within)

-- an empty key stands before all keys behind the first
above_nil : (a b : List ℕ) → IsBelow a b → IsBelow [] b
above_nil [] [] h = cc
above_nil (x ∷ xs) [] h = cc
above_nil a (y ∷ ys) h = refl

pub first_place : (nodes : List Node) → HasRisingKeys nodes → 0 < length nodes → IsInsertPlace (remove nodes 0) [] 0
first_place nodes rising some = record {
  within = omega arith;
  below = λ k lt. absurd (omega arith);
  above = λ k from l.
      let within : k + 1 < length nodes = omega (arith, length-remove nodes 0 some) in
      subst (λ (n : Node). IsBelow [] n.key) (sym (get_or-remove_above nodes 0 no_node k from some)) (above_nil (node_at nodes 0).key (node_at nodes (k + 1)).key (rising 0 (k + 1) no_node (omega arith) within));
}

pub first_cleared : (nodes : List Node) (bytes : List ℕ) → 0 < length nodes → (node_at nodes 0).extent ≡ 4 → bytes ≡ (node_at nodes 0).data → insert (remove nodes 0) 0 (record { key = []; extent = 4; «data» = bytes }) ≡ cleared nodes
first_cleared [] bytes some extent same = absurd (omega arith)
first_cleared (x ∷ xs) bytes some extent same = ap (λ (e : ℕ). record { key = []; extent = e; «data» = bytes } ∷ xs) (sym extent) ∙ ap (λ (b : List ℕ). record { key = []; extent = x.extent; «data» = b } ∷ xs) same

pub when_ok : {A B : Type 0} (r : Result A B) (P : Type 0) → IsOk r → OnOk r P → P
when_ok (Ok x) P is p = p
when_ok (Err e) P is p = absurd (never is)
  where
    never : false ≡ true → ⊥
    never e = cc
