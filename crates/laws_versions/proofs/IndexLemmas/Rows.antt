-- Records by rising bookmarks, and the entries of all of them in turn.
use Rattle.std.proofs.Common.{◌≡◌, ℕ, Bool, true, false, ◌||◌, cond, List, [], ◌∷◌, ◌++◌, map, flat_map, Option, Some, None, refl, sym, ap, ◌∙◌, true≢false, is_none}
use Rattle.std.specs.List.{list_any, list_all, AllByRecursion}
use Rattle.std.specs.List.Sorted.{IsStrictlySortedBy}
use Rattle.std.specs.declared.cmp.Ordering.{Ordering}
use Rattle.std.specs.declared.cmp.Ordering.TheVariants.{Less, Equal, Greater}
use Rattle.std.specs.Ordering.{is_lt, is_eq, ordering_then}
use Rattle.std.specs.Cmp.Lexicographic.{nat_list_cmp_total}
use Rattle.std.specs.FinMap.Entries.{by_order}
use Rattle.std.proofs.lemmas.List.Folds.{list_any-append}
use Rattle.common_lemmas.proofs.Booleans.{and_left, and_right, or_swap}
use Rattle.common_lemmas.proofs.Lists.{all_append}
use Rattle.column_set.specs.RecordValues.{lookup_by_key, put_by_key}
use Rattle.index_derive.specs.Entries.{own_order}
use Rattle.index_derive.specs.RisingKeys.{AreRisingKeys, key_cmp, turned_keys}
use Rattle.cursor_nav.specs.Places.{Pair, pair_lt, are_sorted}
use Rattle.laws_versions.proofs.IndexLemmas.PairOrder.{pair_lt-is}
use Rattle.laws_versions.proofs.IndexLemmas.Rising.{IsApart, IsFresh, AreDistinct}

-- the entries of keys that a record has under its bookmark
abbrev pub entries_of : List ℕ → List (List ℕ) → List Pair
entries_of bookmark keys = map (λ key. (key, bookmark)) keys

-- the entries of all records, one record after the other
abbrev pub all_entries : {X : Type 0} → (X → List (List ℕ)) → List (List ℕ × X) → List Pair
all_entries keys rows = flat_map (λ place. entries_of place.0 (keys place.1)) rows

-- the bookmark comes before those of all the rows
abbrev pub IsBelow : {X : Type 0} → List ℕ → List (List ℕ × X) → Type 0
IsBelow bookmark rows = AllByRecursion (λ place. key_cmp bookmark place.0 ≡ Less) rows

abbrev pub RowsRise : {X : Type 0} → List (List ℕ × X) → Type 0
RowsRise [] = Unit {0}
RowsRise (place ∷ rows) = IsBelow place.0 rows × RowsRise rows

-- ---- rows whose own order is sorted

both_less : (r : Ordering) → is_lt (ordering_then r r) ≡ true → r ≡ Less
both_less Less h = refl
both_less Equal h = absurd (true≢false (sym h))
both_less Greater h = absurd (true≢false (sym h))

below_all : {X : Type 0} (bookmark : List ℕ) (rows : List (List ℕ × X)) → list_all (pair_lt (bookmark, bookmark)) (own_order rows) ≡ true → IsBelow bookmark rows
below_all bookmark [] h = tt
below_all bookmark (place ∷ rows) h =
    let first = and_left (pair_lt (bookmark, bookmark) (place.0, place.0)) _ h in
    (both_less (key_cmp bookmark place.0) (sym (pair_lt-is (bookmark, bookmark) (place.0, place.0)) ∙ first), below_all bookmark rows (and_right (pair_lt (bookmark, bookmark) (place.0, place.0)) _ h))

pub rise-sorted : {X : Type 0} (rows : List (List ℕ × X)) → are_sorted (own_order rows) ≡ true → RowsRise rows
rise-sorted [] h = tt
rise-sorted (place ∷ rows) h =
    (below_all place.0 rows (and_left (list_all (pair_lt (place.0, place.0)) (own_order rows)) _ h), rise-sorted rows (and_right (list_all (pair_lt (place.0, place.0)) (own_order rows)) _ h))

-- ---- no two entries are one

apart_keys : (r q : Ordering) → r ≡ Less → is_eq (ordering_then r q) ≡ false
apart_keys Less q h = refl
apart_keys Equal q h = absurd (true≢false (ap is_eq h))
apart_keys Greater q h = refl

apart_bookmarks : (r q : Ordering) → is_eq q ≡ false → is_eq (ordering_then r q) ≡ false
apart_bookmarks Less q h = refl
apart_bookmarks Equal q h = h
apart_bookmarks Greater q h = refl

-- entries of two bookmarks are two
pub apart_records : (x y : Pair) → is_eq (key_cmp x.1 y.1) ≡ false → IsApart x y
apart_records x y h = apart_bookmarks (key_cmp x.0 y.0) (key_cmp x.1 y.1) h

fresh_keys : (key bookmark : List ℕ) (keys : List (List ℕ)) → AllByRecursion (λ k. key_cmp key k ≡ Less) keys → IsFresh (key, bookmark) (entries_of bookmark keys)
fresh_keys key bookmark [] h = tt
fresh_keys key bookmark (k ∷ keys) h = (apart_keys (key_cmp key k) (key_cmp bookmark bookmark) h.0, fresh_keys key bookmark keys h.1)

distinct_keys : (bookmark : List ℕ) (keys : List (List ℕ)) → AreRisingKeys keys → AreDistinct (entries_of bookmark keys)
unfolding IsStrictlySortedBy
distinct_keys bookmark [] h = tt
distinct_keys bookmark (key ∷ keys) h = (fresh_keys key bookmark keys h.0, distinct_keys bookmark keys h.1)

distinct_both : (xs ys : List Pair) → AreDistinct xs → AreDistinct ys → AllByRecursion (λ x. IsFresh x ys) xs → AreDistinct (xs ++ ys)
distinct_both [] ys h k apart = k
distinct_both (x ∷ xs) ys h k apart = (all_append (IsApart x) xs ys h.0 apart.0, distinct_both xs ys h.1 k apart.1)

-- an entry of a bookmark that no row has is none of theirs
pub fresh_entries : {X : Type 0} (keys : X → List (List ℕ)) (x : Pair) (rows : List (List ℕ × X)) → AllByRecursion (λ place. is_eq (key_cmp x.1 place.0) ≡ false) rows → IsFresh x (all_entries keys rows)
fresh_entries keys x [] h = tt
fresh_entries keys x (place ∷ rows) h =
    all_append (IsApart x) (entries_of place.0 (keys place.1)) (all_entries keys rows) (each (keys place.1)) (fresh_entries keys x rows h.1)
  where
    each : (ks : List (List ℕ)) → IsFresh x (entries_of place.0 ks)
    each [] = tt
    each (k ∷ ks) = (apart_records x (k, place.0) h.0, each ks)

pub not_equal_below : {X : Type 0} (bookmark : List ℕ) (rows : List (List ℕ × X)) → IsBelow bookmark rows → AllByRecursion (λ place. is_eq (key_cmp bookmark place.0) ≡ false) rows
not_equal_below bookmark [] h = tt
not_equal_below bookmark (place ∷ rows) h = (ap is_eq h.0, not_equal_below bookmark rows h.1)

pub distinct_entries : {X : Type 0} (keys : X → List (List ℕ)) → ((x : X) → AreRisingKeys (keys x)) → (rows : List (List ℕ × X)) → RowsRise rows → AreDistinct (all_entries keys rows)
distinct_entries keys rising [] h = tt
distinct_entries keys rising (place ∷ rows) h =
    distinct_both (entries_of place.0 (keys place.1)) (all_entries keys rows) (distinct_keys place.0 (keys place.1) (rising place.1)) (distinct_entries keys rising rows h.1) (each (keys place.1))
  where
    each : (ks : List (List ℕ)) → AllByRecursion (λ x. IsFresh x (all_entries keys rows)) (entries_of place.0 ks)
    each [] = tt
    each (k ∷ ks) = (fresh_entries keys (k, place.0) rows (not_equal_below place.0 rows h.0), each ks)

-- ---- a row that is put

below_put : {X : Type 0} (bookmark key : List ℕ) (x : X) (rows : List (List ℕ × X)) → key_cmp bookmark key ≡ Less → IsBelow bookmark rows → IsBelow bookmark (put_by_key key x rows)
below_put bookmark key x [] p h = (p, tt)
below_put bookmark key x (place ∷ rows) p h = elim (key_cmp key place.0) as (λ r. IsBelow bookmark (by_order r ((key, x) ∷ place ∷ rows) ((place.0, x) ∷ rows) (place ∷ put_by_key key x rows))) [
  | Less ↦ (p, h)
  | Equal ↦ h
  | Greater ↦ (h.0, below_put bookmark key x rows p h.1)
]

pub below_after : {X : Type 0} (bookmark key : List ℕ) (rows : List (List ℕ × X)) → key_cmp bookmark key ≡ Less → IsBelow key rows → IsBelow bookmark rows
below_after bookmark key [] p h = tt
below_after bookmark key (place ∷ rows) p h = (nat_list_cmp_total.trans bookmark key place.0 p h.0, below_after bookmark key rows p h.1)

pub rise-put : {X : Type 0} (key : List ℕ) (x : X) (rows : List (List ℕ × X)) → RowsRise rows → RowsRise (put_by_key key x rows)
rise-put key x [] h = (tt, tt)
rise-put key x (place ∷ rows) h = elim (key_cmp key place.0) as (λ r. key_cmp key place.0 ≡ r → RowsRise (by_order r ((key, x) ∷ place ∷ rows) ((place.0, x) ∷ rows) (place ∷ put_by_key key x rows))) [
  | Less ↦ λ p. ((p, below_after key place.0 rows p h.0), h)
  | Equal ↦ λ p. h
  | Greater ↦ λ p. (below_put place.0 key x rows (turned_keys key place.0 Greater p) h.0, rise-put key x rows h.1)
] refl

-- ---- a bookmark without a row

missed_first : {X : Type 0} (b : Bool) (x : X) (o : Option X) → cond b (Some x) o ≡ None → (b ≡ false) × (o ≡ None)
missed_first true x o h = absurd (true≢false (sym (ap is_none h)))
missed_first false x o h = (refl, h)

pub not_equal_missed : {X : Type 0} (bookmark : List ℕ) (rows : List (List ℕ × X)) → lookup_by_key bookmark rows ≡ None → AllByRecursion (λ place. is_eq (key_cmp bookmark place.0) ≡ false) rows
not_equal_missed bookmark [] h = tt
not_equal_missed bookmark (place ∷ rows) h =
    let rest = missed_first (is_eq (key_cmp bookmark place.0)) place.1 (lookup_by_key bookmark rows) h in
    (rest.0, not_equal_missed bookmark rows rest.1)

pub missed-not_equal : {X : Type 0} (bookmark : List ℕ) (rows : List (List ℕ × X)) → AllByRecursion (λ place. is_eq (key_cmp bookmark place.0) ≡ false) rows → lookup_by_key bookmark rows ≡ None
missed-not_equal bookmark [] h = refl
missed-not_equal bookmark (place ∷ rows) h = ap (λ b. cond b (Some place.1) (lookup_by_key bookmark rows)) h.0 ∙ missed-not_equal bookmark rows h.1

pub any_put : {X : Type 0} (keys : X → List (List ℕ)) (p : Pair → Bool) (bookmark : List ℕ) (x : X) (rows : List (List ℕ × X)) → lookup_by_key bookmark rows ≡ None
    → list_any p (all_entries keys (put_by_key bookmark x rows)) ≡ (list_any p (entries_of bookmark (keys x)) || list_any p (all_entries keys rows))
any_put keys p bookmark x [] h = list_any-append p (entries_of bookmark (keys x)) []
any_put keys p bookmark x (place ∷ rows) h =
    let new = entries_of bookmark (keys x) in
    let here = entries_of place.0 (keys place.1) in
    let rest = all_entries keys rows in
    let missed = missed_first (is_eq (key_cmp bookmark place.0)) place.1 (lookup_by_key bookmark rows) h in
    elim (key_cmp bookmark place.0) as (λ r. is_eq r ≡ false → list_any p (all_entries keys (by_order r ((bookmark, x) ∷ place ∷ rows) ((place.0, x) ∷ rows) (place ∷ put_by_key bookmark x rows))) ≡ (list_any p new || list_any p (here ++ rest))) [
      | Less ↦ λ e. list_any-append p new (here ++ rest)
      | Equal ↦ λ e. absurd (true≢false e)
      | Greater ↦ λ e.
          list_any-append p here (all_entries keys (put_by_key bookmark x rows))
          ∙ ap (λ b. list_any p here || b) (any_put keys p bookmark x rows missed.1)
          ∙ or_swap (list_any p here) (list_any p new) (list_any p rest)
          ∙ ap (λ b. list_any p new || b) (sym (list_any-append p here rest))
    ] missed.0
