-- Entries that are put in their places are in order, whether or not some stand twice.
use Rattle.std.proofs.Common.{◌≡◌, true, false, cond, List, [], ◌∷◌, refl, ap, true≢false}
use Rattle.std.specs.List.{AllByRecursion}
use Rattle.std.specs.declared.cmp.Ordering.{Ordering}
use Rattle.std.specs.declared.cmp.Ordering.TheVariants.{Less, Equal, Greater}
use Rattle.std.specs.Ordering.{is_le, is_gt}
use Rattle.std.specs.Cmp.{upto}
use Rattle.cursor_nav.specs.Places.{Pair}
use Rattle.index_derive.specs.Entries.{insert_entry, sorted_entries}
use Rattle.laws_versions.proofs.IndexLemmas.PairOrder.{pair_cmp, pairs_total}
use Rattle.laws_versions.proofs.IndexLemmas.Members.{all_insert}
use Rattle.laws_versions.proofs.IndexLemmas.Rising.{turned}

abbrev pub IsNotAbove : Pair → Pair → Type 0
IsNotAbove x y = is_gt (pair_cmp x y) ≡ false

abbrev pub AreInOrder : List Pair → Type 0
AreInOrder [] = Unit {0}
AreInOrder (e ∷ es) = AllByRecursion (IsNotAbove e) es × AreInOrder es

pub not_above_all : (x e : Pair) (es : List Pair) → IsNotAbove x e → AllByRecursion (IsNotAbove e) es → AllByRecursion (IsNotAbove x) es
not_above_all x e [] p h = tt
not_above_all x e (y ∷ ys) p h = (upto pairs_total x e y p h.0, not_above_all x e ys p h.1)

in_order_insert : (x : Pair) (es : List Pair) → AreInOrder es → AreInOrder (insert_entry x es)
in_order_insert x [] h = (tt, tt)
in_order_insert x (e ∷ es) h = elim (pair_cmp x e) as (λ r. pair_cmp x e ≡ r → AreInOrder (cond (is_le r) (x ∷ e ∷ es) (e ∷ insert_entry x es))) [
  | Less ↦ λ p. ((ap is_gt p, not_above_all x e es (ap is_gt p) h.0), h)
  | Equal ↦ λ p. ((ap is_gt p, not_above_all x e es (ap is_gt p) h.0), h)
  | Greater ↦ λ p. (all_insert (IsNotAbove e) x es (ap is_gt (turned x e Greater p)) h.0, in_order_insert x es h.1)
] refl

pub in_order_sorted : (es : List Pair) → AreInOrder (sorted_entries es)
in_order_sorted [] = tt
in_order_sorted (e ∷ es) = in_order_insert e (sorted_entries es) (in_order_sorted es)

le_from_not : (r : Ordering) → is_gt r ≡ false → is_le r ≡ true
le_from_not Less h = refl
le_from_not Equal h = refl
le_from_not Greater h = absurd (true≢false h)

-- an entry that is above none of the others comes first
pub insert_first : (x : Pair) (es : List Pair) → AllByRecursion (IsNotAbove x) es → insert_entry x es ≡ x ∷ es
insert_first x [] h = refl
insert_first x (e ∷ es) h = ap (λ b. cond b (x ∷ e ∷ es) (e ∷ insert_entry x es)) (le_from_not (pair_cmp x e) h.0)
