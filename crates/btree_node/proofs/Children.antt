-- The child that a key belongs to.
use Rattle.std.proofs.Common.{◌≡◌, ℕ, zero, suc, ◌+◌, ◌-◌, ◌<◌, ◌≤◌, List, [], length, subst, arith}
use Rattle.common_lemmas.proofs.Orders.{less-asymmetric, less-irreflexive, none_less}
use Rattle.page_image.specs.Page.{Node, no_node, node_at, IsBelow, IsInsertPlace, HasRisingKeys}
use Rattle.btree_node.specs.Cut.{IsChildPlace}

-- Where the first key is empty, no new key stands before it.
pub not_first : (nodes : List Node) (key : List ℕ) (i : ℕ) → 0 < length nodes → (node_at nodes 0).key ≡ [] → IsInsertPlace nodes key i → 1 ≤ i
not_first nodes key zero some first place = absurd (none_less key (subst (λ (x : List ℕ). IsBelow key x) first (place.above 0 (omega arith) some)))
not_first nodes key (suc i) some first place = omega arith

pub child_at : (nodes : List Node) (key : List ℕ) (i : ℕ) → HasRisingKeys nodes → i < length nodes → (node_at nodes i).key ≡ key → IsChildPlace nodes key i
child_at nodes key i rising within here = record {
  within = within;
  lower = λ h. less-irreflexive key (subst (λ (x : List ℕ). IsBelow key x) here h);
  upper = λ more. subst (λ (x : List ℕ). IsBelow x (node_at nodes (i + 1)).key) here (rising i (i + 1) no_node (omega arith) more);
}

pub child_before : (nodes : List Node) (key : List ℕ) (i : ℕ) → 1 ≤ i → IsInsertPlace nodes key i → IsChildPlace nodes key (i - 1)
child_before nodes key i some place = record {
  within = omega (arith, place.within);
  lower = less-asymmetric (node_at nodes (i - 1)).key key (place.below (i - 1) (omega arith));
  upper = λ more. place.above (i - 1 + 1) (omega arith) more;
}
