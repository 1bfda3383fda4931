-- The order of entries, and what lies beyond a place and before it.
use Rattle.std.proofs.Common.{◌≡◌, ℕ, Bool, true, false, ◌&&◌, ◌||◌, ◌⊎◌, inl, inr, List, refl, sym, ap, subst, ◌∙◌, bytes_eq}
use Rattle.std.specs.declared.cmp.Ordering.{Ordering}
use Rattle.std.specs.declared.cmp.Ordering.TheVariants.{Less, Equal, Greater}
use Rattle.std.specs.Ordering.{nat_cmp, is_eq, is_le, is_lt, ordering_reverse}
use Rattle.std.specs.Cmp.Lexicographic.{slice_cmp, nat_list_cmp_total, texts_ties}
use Rattle.std.proofs.lemmas.Map.Lookups.{exact_bytes}
use Rattle.std.proofs.lemmas.Bool.{false_from_ne_true}
use Rattle.common_lemmas.proofs.Orders.{is_less}
use Rattle.common_lemmas.proofs.Booleans.{and_left, impossible}
use Rattle.common_lemmas.proofs.Numbers.{equal_bytes, same_bytes}
use Rattle.index_derive.specs.declared.entries.Place.{Place}
use Rattle.index_derive.specs.declared.entries.Place.TheVariants.{Before, After, On, Gap}
use Rattle.column_set.specs.RecordValues.{bytes_le, bytes_lt}
use Rattle.cursor_nav.specs.Places.{Pair, is_beyond, is_short_of, pair_lt}
use Rattle.laws_versions.proofs.IndexLemmas.PairOrder.{pair_cmp, pair_lt-is, pairs_total}

-- ---- entries

less_of : (x y : Pair) → pair_lt x y ≡ true → pair_cmp x y ≡ Less
less_of x y h = is_less (pair_cmp x y) (sym (pair_lt-is x y) ∙ h)

pub lt_trans : (x y z : Pair) → pair_lt x y ≡ true → pair_lt y z ≡ true → pair_lt x z ≡ true
lt_trans x y z h g = pair_lt-is x z ∙ ap is_lt (pairs_total.trans x y z (less_of x y h) (less_of y z g))

pub not_back : (x y : Pair) → pair_lt x y ≡ true → pair_lt y x ≡ false
not_back x y h = pair_lt-is y x ∙ ap is_lt (pairs_total.antisymm y x ∙ ap ordering_reverse (less_of x y h))

pub not_itself : (x : Pair) → pair_lt x x ≡ false
not_itself x = false_from_ne_true (pair_lt x x) (λ h. impossible (sym (not_back x x h) ∙ h))

-- ---- keys

lt_of : (a b : List ℕ) → slice_cmp nat_cmp a b ≡ Less → bytes_lt a b ≡ true
lt_of a b h = ap is_lt h

le_of_lt : (a b : List ℕ) → bytes_lt a b ≡ true → bytes_le a b ≡ true
le_of_lt a b h = ap is_le (is_less (slice_cmp nat_cmp a b) h)

pub lt_lt : (a b c : List ℕ) → bytes_lt a b ≡ true → bytes_lt b c ≡ true → bytes_lt a c ≡ true
lt_lt a b c h g = lt_of a c (nat_list_cmp_total.trans a b c (is_less (slice_cmp nat_cmp a b) h) (is_less (slice_cmp nat_cmp b c) g))

pub lt_le : (a b c : List ℕ) → bytes_lt a b ≡ true → bytes_le b c ≡ true → bytes_lt a c ≡ true
lt_le a b c h g = by (slice_cmp nat_cmp b c) refl g
  where
    by : (r : Ordering) → slice_cmp nat_cmp b c ≡ r → is_le r ≡ true → bytes_lt a c ≡ true
    by Less e g = lt_of a c (nat_list_cmp_total.trans a b c (is_less (slice_cmp nat_cmp a b) h) e)
    by Equal e g = let P : List ℕ → Type 0 = λ k. bytes_lt a k ≡ true in subst P (exact_bytes b c e) h
    by Greater e g = impossible g

le_lt : (a b c : List ℕ) → bytes_le a b ≡ true → bytes_lt b c ≡ true → bytes_lt a c ≡ true
le_lt a b c h g = by (slice_cmp nat_cmp a b) refl h
  where
    by : (r : Ordering) → slice_cmp nat_cmp a b ≡ r → is_le r ≡ true → bytes_lt a c ≡ true
    by Less e h = lt_of a c (nat_list_cmp_total.trans a b c e (is_less (slice_cmp nat_cmp b c) g))
    by Equal e h = let P : List ℕ → Type 0 = λ k. bytes_lt k c ≡ true in subst P (sym (exact_bytes a b e)) g
    by Greater e h = impossible h

pub le_itself : (a : List ℕ) → bytes_le a a ≡ true
le_itself a = ap is_le (self_cmp (slice_cmp nat_cmp a a) (sym (texts_ties a a) ∙ equal_bytes a a refl))
  where
    self_cmp : (r : Ordering) → is_eq r ≡ true → r ≡ Equal
    self_cmp Less e = impossible e
    self_cmp Equal e = refl
    self_cmp Greater e = impossible e

pub not_below_itself : (a : List ℕ) → bytes_lt a a ≡ true → ⊥
not_below_itself a h = no (sym (not_itself (a, a)) ∙ ap (λ b. b || (bytes_eq a a && bytes_lt a a)) h)
  where
    no : false ≡ true → ⊥
    no e = cc

-- the key of the lower of two entries is below the other's, or is the same
pub keys_of : (x y : Pair) → pair_lt x y ≡ true → (bytes_lt x.0 y.0 ≡ true) ⊎ (x.0 ≡ y.0)
keys_of x y h = by (bytes_lt x.0 y.0) refl h
  where
    by : (b : Bool) → bytes_lt x.0 y.0 ≡ b → (b || (bytes_eq x.0 y.0 && bytes_lt x.1 y.1)) ≡ true → (bytes_lt x.0 y.0 ≡ true) ⊎ (x.0 ≡ y.0)
    by true e h = inl e
    by false e h = inr (same_bytes x.0 y.0 (and_left (bytes_eq x.0 y.0) _ h))

-- ---- places

-- what lies above an entry beyond a place lies beyond it
pub beyond_more : (place : Place) (x y : Pair) → is_beyond place x ≡ true → pair_lt x y ≡ true → is_beyond place y ≡ true
beyond_more Before x y h g = refl
beyond_more After x y h g = impossible h
beyond_more (On key bookmark) x y h g = lt_trans (key, bookmark) x y h g
beyond_more (Gap key true) x y h g = elim (keys_of x y g) [
  | inl low ↦ lt_lt key x.0 y.0 h low
  | inr same ↦ let P : List ℕ → Type 0 = λ k. bytes_lt key k ≡ true in subst P same h
]
beyond_more (Gap key false) x y h g = elim (keys_of x y g) [
  | inl low ↦ le_of_lt key y.0 (le_lt key x.0 y.0 h low)
  | inr same ↦ let P : List ℕ → Type 0 = λ k. bytes_le key k ≡ true in subst P same h
]

-- what lies below an entry before a place lies before it
pub short_more : (place : Place) (x y : Pair) → is_short_of place y ≡ true → pair_lt x y ≡ true → is_short_of place x ≡ true
short_more Before x y h g = impossible h
short_more After x y h g = refl
short_more (On key bookmark) x y h g = lt_trans x y (key, bookmark) g h
short_more (Gap key true) x y h g = elim (keys_of x y g) [
  | inl low ↦ le_of_lt x.0 key (lt_le x.0 y.0 key low h)
  | inr same ↦ let P : List ℕ → Type 0 = λ k. bytes_le k key ≡ true in subst P (sym same) h
]
short_more (Gap key false) x y h g = elim (keys_of x y g) [
  | inl low ↦ lt_lt x.0 y.0 key low h
  | inr same ↦ let P : List ℕ → Type 0 = λ k. bytes_lt k key ≡ true in subst P (sym same) h
]
