-- The order of keys.
use Rattle.std.proofs.Common.{◌≡◌, ℕ, ◌+◌, ◌<◌, ◌≤◌, inl, inr, List, length, ap, ◌∙◌, arith}
use Rattle.std.specs.Ordering.{nat_cmp, ordering_reverse}
use Rattle.std.specs.declared.cmp.Ordering.TheVariants.{Equal, Greater}
use Rattle.std.specs.Cmp.Lexicographic.{slice_cmp}
use Rattle.std.specs.FinMap.{slice_cmp-IsAntisymmetric, nat_cmp-IsAntisymmetric}
use Rattle.std.proofs.lemmas.Cmp.{nat_list_cmp_total}
use Rattle.std.proofs.lemmas.Bool.{cases_lt}
use Rattle.page_image.specs.Page.{Node, IsBelow, HasRisingKeys, no_node, node_at}

pub IsBelow-trans : (a b c : List ℕ) → IsBelow a b → IsBelow b c → IsBelow a c
IsBelow-trans a b c p q = nat_list_cmp_total.trans a b c p q

pub IsBelow-from_greater : (a b : List ℕ) → slice_cmp nat_cmp a b ≡ Greater → IsBelow b a
IsBelow-from_greater a b g = nat_list_cmp_total.antisymm b a ∙ ap ordering_reverse g

pub same_key : (a b : List ℕ) → slice_cmp nat_cmp a b ≡ Equal → a ≡ b
same_key a b e = slice_cmp-IsAntisymmetric nat_cmp-IsAntisymmetric a b e

-- the nodes up to one whose key is below
pub below_upto : (nodes : List Node) (m : ℕ) (key : List ℕ) → HasRisingKeys nodes → m < length nodes → IsBelow (node_at nodes m).key key → (k : ℕ) → k < m + 1 → IsBelow (node_at nodes k).key key
below_upto nodes m key rising within here k h = elim (cases_lt k m) [
  | inl before ↦ IsBelow-trans (node_at nodes k).key (node_at nodes m).key key (rising k m no_node before within) here
  | inr at ↦ let same : k ≡ m = omega arith in rw same here
]

-- the nodes from one on whose key is above
pub above_from : (nodes : List Node) (m : ℕ) (key : List ℕ) → HasRisingKeys nodes → IsBelow key (node_at nodes m).key → (k : ℕ) → m ≤ k → k < length nodes → IsBelow key (node_at nodes k).key
above_from nodes m key rising here k from h = elim (cases_lt m k) [
  | inl after ↦ IsBelow-trans key (node_at nodes m).key (node_at nodes k).key here (rising m k no_node after h)
  | inr at ↦ let same : k ≡ m = omega arith in rw same here
]
