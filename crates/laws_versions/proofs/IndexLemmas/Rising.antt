-- Entries in order stay so as further ones are put in their places, and there is one such list of the same entries.
use Rattle.std.proofs.Common.{◌≡◌, ℕ, Bool, false, cond, List, [], ◌∷◌, refl, sym, ap, ◌∙◌, true≢false}
use Rattle.std.specs.List.{list_any, AllByRecursion}
use Rattle.std.specs.List.Sorted.{IsStrictlySortedBy}
use Rattle.std.specs.declared.cmp.Ordering.{Ordering}
use Rattle.std.specs.declared.cmp.Ordering.TheVariants.{Less, Equal, Greater}
use Rattle.std.specs.Ordering.{is_eq, is_le, ordering_then, ordering_reverse}
use Rattle.std.specs.Cmp.Lexicographic.{nat_list_cmp_total}
use Rattle.std.specs.BTreeSet.{BTreeSet}
use Rattle.std.proofs.lemmas.Map.Lookups.{btree_set_from_contains}
use Rattle.cursor_nav.specs.Places.{Pair}
use Rattle.index_derive.specs.Entries.{insert_entry, sorted_entries}
use Rattle.index_derive.specs.RisingKeys.{AreRisingKeys, key_cmp}
use Rattle.laws_versions.specs.KeptEntries.{with_entries}
use Rattle.laws_versions.proofs.IndexLemmas.PairOrder.{pair_cmp, pairs_total, exact_pairs, IsRising}
use Rattle.laws_versions.proofs.IndexLemmas.Members.{all_insert, all_sorted}

-- two entries that are not one
abbrev pub IsApart : Pair → Pair → Type 0
IsApart x y = is_eq (pair_cmp x y) ≡ false

abbrev pub IsFresh : Pair → List Pair → Type 0
IsFresh x es = AllByRecursion (IsApart x) es

abbrev pub AreDistinct : List Pair → Type 0
AreDistinct [] = Unit {0}
AreDistinct (e ∷ es) = IsFresh e es × AreDistinct es

pub turned : (x y : Pair) (o : Ordering) → pair_cmp x y ≡ o → pair_cmp y x ≡ ordering_reverse o
turned x y o e = pairs_total.antisymm y x ∙ ap ordering_reverse e

all_after : (x e : Pair) (es : List Pair) → pair_cmp x e ≡ Less → AllByRecursion (λ y. pair_cmp e y ≡ Less) es → AllByRecursion (λ y. pair_cmp x y ≡ Less) es
all_after x e [] p h = tt
all_after x e (y ∷ ys) p h = (pairs_total.trans x e y p h.0, all_after x e ys p h.1)

pub rising_insert : (x : Pair) (es : List Pair) → IsRising es → IsFresh x es → IsRising (insert_entry x es)
unfolding IsStrictlySortedBy
rising_insert x [] h fresh = (tt, tt)
rising_insert x (e ∷ es) h fresh = elim (pair_cmp x e) as (λ r. pair_cmp x e ≡ r → IsRising (cond (is_le r) (x ∷ e ∷ es) (e ∷ insert_entry x es))) [
  | Less ↦ λ p. ((p, all_after x e es p h.0), h)
  | Equal ↦ λ p. absurd (true≢false (sym (ap is_eq p) ∙ fresh.0))
  | Greater ↦ λ p. (all_insert (λ y. pair_cmp e y ≡ Less) x es (turned x e Greater p) h.0, rising_insert x es h.1 fresh.1)
] refl

pub rising_sorted : (es : List Pair) → AreDistinct es → IsRising (sorted_entries es)
unfolding IsStrictlySortedBy
rising_sorted [] h = tt
rising_sorted (e ∷ es) h = rising_insert e (sorted_entries es) (rising_sorted es h.1) (all_sorted (IsApart e) es h.0)

-- ---- the entries of rising keys

not_equal : (r q : Ordering) → r ≡ Greater → is_eq (ordering_then r q) ≡ false
not_equal Less q h = refl
not_equal Equal q h = absurd (true≢false (ap is_eq h))
not_equal Greater q h = refl

-- a greater key is another one
apart_above : (key k bookmark : List ℕ) → key_cmp key k ≡ Less → IsApart (k, bookmark) (key, bookmark)
apart_above key k bookmark h =
    not_equal (key_cmp k key) (key_cmp bookmark bookmark) (nat_list_cmp_total.antisymm k key ∙ ap ordering_reverse h)

fresh_after : (key bookmark : List ℕ) (ks : List (List ℕ)) (es : List Pair) → AllByRecursion (λ k. key_cmp key k ≡ Less) ks
    → AllByRecursion (λ k. IsFresh (k, bookmark) es) ks → AllByRecursion (λ k. IsFresh (k, bookmark) (insert_entry (key, bookmark) es)) ks
fresh_after key bookmark [] es h f = tt
fresh_after key bookmark (k ∷ ks) es h f =
    (all_insert (IsApart (k, bookmark)) (key, bookmark) es (apart_above key k bookmark h.0) f.0, fresh_after key bookmark ks es h.1 f.1)

pub rising_with : (keys : List (List ℕ)) (bookmark : List ℕ) (es : List Pair) → AreRisingKeys keys → IsRising es
    → AllByRecursion (λ k. IsFresh (k, bookmark) es) keys → IsRising (with_entries keys bookmark es)
unfolding IsStrictlySortedBy
rising_with [] bookmark es ks h f = h
rising_with (key ∷ keys) bookmark es ks h f =
    rising_with keys bookmark (insert_entry (key, bookmark) es) ks.1 (rising_insert (key, bookmark) es h f.0) (fresh_after key bookmark keys es ks.0 f.1)

-- ---- one list of these entries

pub same_rising : (xs ys : List Pair) → IsRising xs → IsRising ys → ((p : Pair → Bool) → list_any p xs ≡ list_any p ys) → xs ≡ ys
same_rising xs ys a b h =
    let s : BTreeSet Pair = record { keys = xs } in
    let t : BTreeSet Pair = record { keys = ys } in
    btree_set_from_contains pairs_total s t a b (λ q. h (λ k. is_eq (pair_cmp q k))) exact_pairs
