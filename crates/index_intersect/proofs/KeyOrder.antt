-- The order of keys and of entries, and what places and limits make of it.
use Rattle.std.proofs.Common.{◌≡◌, ℕ, Bool, true, false, not, ◌&&◌, ◌||◌, if◌then◌else◌, List, [], ◌∷◌, Option, Some, None, refl, sym, ap, subst, ◌∙◌, true≢false}
use Rattle.std.specs.declared.cmp.Ordering.{Ordering}
use Rattle.std.specs.declared.cmp.Ordering.TheVariants.{Less, Equal, Greater}
use Rattle.std.specs.Ordering.{nat_cmp, is_lt, is_le, ordering_then, ordering_reverse, on, then_cmp}
use Rattle.std.specs.Cmp.{IsTotalOrder, then_total, on_total, tied_itself}
use Rattle.std.specs.Cmp.Lexicographic.{slice_cmp, nat_list_cmp_total, texts_ties}
use Rattle.std.specs.List.{list_all}
use Rattle.std.proofs.lemmas.Bool.{not-false, not-true}
use Rattle.common_lemmas.proofs.Orders.{is_less, less_then}
use Rattle.common_lemmas.proofs.Booleans.{and_left, and_right, by_test}
use Rattle.column_set.specs.RecordValues.{bytes_lt, bytes_le}
use Rattle.index_derive.specs.declared.entries.Place.{Place}
use Rattle.index_derive.specs.declared.entries.Place.TheVariants.{Before, After, On, Gap}
use Rattle.cursor_nav.specs.Places.{Pair, pair_lt, are_sorted, is_beyond, is_within_upper}
use Rattle.index_intersect.specs.declared.ranges.Limit.{Limit}
use Rattle.index_intersect.specs.Intersection.{upper_range}
use Rattle.index_intersect.proofs.InOrder.{IsStrict, Always, InOrder}

-- ---- a total order is strict

from_not_by : {K : Type 0} {R : K → K → Ordering} (o : IsTotalOrder R) → (x y z : K) (r : Ordering) → R x y ≡ r → is_lt r ≡ false → is_lt (R x z) ≡ true → is_lt (R y z) ≡ true
from_not_by o x y z Less e h k = absurd (true≢false h)
from_not_by o x y z Equal e h k = ap is_lt (sym (o.congr x y z e)) ∙ k
from_not_by {R = R} o x y z Greater e h k = ap is_lt (o.trans y x z (o.antisymm y x ∙ ap ordering_reverse e) (is_less (R x z) k))

strict_from_total : {K : Type 0} {R : K → K → Ordering} → IsTotalOrder R → IsStrict (λ x y. is_lt (R x y))
strict_from_total {R = R} o = record {
  trans = λ x y z h k. ap is_lt (o.trans x y z (is_less (R x y) h) (is_less (R y z) k));
  asym = λ x y h. ap is_lt (o.antisymm y x ∙ ap ordering_reverse (is_less (R x y) h));
  irrefl = λ x. ap is_lt (tied_itself o x);
  from_not = λ x y z h k. from_not_by o x y z (R x y) refl h k;
}

strict_keys : IsStrict bytes_lt
strict_keys = strict_from_total nat_list_cmp_total

-- ---- entries

pair_cmp : Pair → Pair → Ordering
pair_cmp = then_cmp (on (λ p. p.0) (slice_cmp nat_cmp)) (on (λ p. p.1) (slice_cmp nat_cmp))

pair_lt_is : (a b : Pair) → is_lt (pair_cmp a b) ≡ pair_lt a b
unfolding pair_cmp
pair_lt_is a b =
    sym (less_then (slice_cmp nat_cmp a.0 b.0) (slice_cmp nat_cmp a.1 b.1))
    ∙ sym (ap (λ e. bytes_lt a.0 b.0 || (e && bytes_lt a.1 b.1)) (texts_ties a.0 b.0))

pair_total : IsTotalOrder pair_cmp
unfolding pair_cmp
pair_total = then_total (on_total (λ p. p.0) nat_list_cmp_total) (on_total (λ p. p.1) nat_list_cmp_total)

pub strict_pairs : IsStrict pair_lt
strict_pairs = subst IsStrict (λ i a b. pair_lt_is a b i) (strict_from_total pair_total)

always_from_all : {X : Type 0} (p : X → Bool) (xs : List X) → list_all p xs ≡ true → Always p true xs
always_from_all p [] h = tt
always_from_all p (x ∷ xs) h = (and_left (p x) (list_all p xs) h, always_from_all p xs (and_right (p x) (list_all p xs) h))

-- entries that are sorted are in order
pub in_order : (es : List Pair) → are_sorted es ≡ true → InOrder pair_lt es
in_order [] h = tt
in_order (x ∷ xs) h =
    (always_from_all (pair_lt x) xs (and_left (list_all (pair_lt x) xs) (are_sorted xs) h), in_order xs (and_right (list_all (pair_lt x) xs) (are_sorted xs) h))

-- the key of an entry is not above the keys of entries that follow
key_not_above_by : (r q : Ordering) → is_lt (ordering_then r q) ≡ true → is_lt (ordering_reverse r) ≡ false
key_not_above_by Less q h = refl
key_not_above_by Equal q h = refl
key_not_above_by Greater q h = absurd (true≢false (sym h))

key_not_above : (a b : Pair) → pair_lt a b ≡ true → bytes_lt b.0 a.0 ≡ false
unfolding pair_cmp
key_not_above a b h =
    ap is_lt (nat_list_cmp_total.antisymm b.0 a.0)
    ∙ key_not_above_by (slice_cmp nat_cmp a.0 b.0) (slice_cmp nat_cmp a.1 b.1) (pair_lt_is a b ∙ h)

-- ---- keys

le_not_by : (r : Ordering) → is_le r ≡ not (is_lt (ordering_reverse r))
le_not_by Less = refl
le_not_by Equal = refl
le_not_by Greater = refl

le_not : (a b : List ℕ) → bytes_le a b ≡ not (bytes_lt b a)
le_not a b = le_not_by (slice_cmp nat_cmp a b) ∙ ap (λ r. not (is_lt r)) (sym (nat_list_cmp_total.antisymm b a))

-- below, and then not above
lt_le : (x y z : List ℕ) → bytes_lt x y ≡ true → bytes_lt z y ≡ false → bytes_lt x z ≡ true
lt_le x y z h k = by_test (bytes_lt x z) (λ t. t) (λ t. absurd (true≢false (sym (strict_keys.from_not x z y t h) ∙ k)))

-- not above, and then not below
le_not_lt : (x y z : List ℕ) → bytes_lt y x ≡ false → bytes_lt x z ≡ false → bytes_lt y z ≡ false
le_not_lt x y z h k = by_test (bytes_lt y z) (λ t. absurd (true≢false (sym (strict_keys.from_not y x z h t) ∙ k))) (λ t. t)

-- ---- what lies beyond a place, and within a limit

upper_falls : (inclusive : Bool) (limit x y : List ℕ) → bytes_lt y x ≡ false → (if inclusive then bytes_le x limit else bytes_lt x limit) ≡ false → (if inclusive then bytes_le y limit else bytes_lt y limit) ≡ false
upper_falls true limit x y h k = le_not y limit ∙ ap not (lt_le limit x y (not-false (bytes_lt limit x) (sym (le_not x limit) ∙ k)) h)
upper_falls false limit x y h k = le_not_lt x y limit h k

pub within_falls : (limit : Option Limit) (x y : Pair) → pair_lt x y ≡ true → is_within_upper (upper_range limit) x.0 ≡ false → is_within_upper (upper_range limit) y.0 ≡ false
within_falls None x y h k = k
within_falls (Some limit) x y h k = upper_falls limit.inclusive limit.key x.0 y.0 (key_not_above x y h) k

gap_rises : (above : Bool) (key x y : List ℕ) → bytes_lt y x ≡ false → (if above then bytes_lt key x else bytes_le key x) ≡ true → (if above then bytes_lt key y else bytes_le key y) ≡ true
gap_rises true key x y h k = lt_le key x y k h
gap_rises false key x y h k = le_not key y ∙ ap not (le_not_lt x y key h (not-true (bytes_lt x key) (sym (le_not key x) ∙ k)))

pub beyond_rises : (place : Place) (x y : Pair) → pair_lt x y ≡ true → is_beyond place x ≡ true → is_beyond place y ≡ true
beyond_rises Before x y h k = refl
beyond_rises After x y h k = k
beyond_rises (On key bookmark) x y h k = strict_pairs.trans (key, bookmark) x y k h
beyond_rises (Gap key above) x y h k = gap_rises above key x.0 y.0 (key_not_above x y h) k
