-- The order of entries, and what limits make of it.
use Rattle.std.proofs.Common.{◌≡◌, ℕ, suc, Bool, true, false, not, ◌&&◌, ◌||◌, if◌then◌else◌, List, [], ◌∷◌, length, filter, find, Option, Some, None, refl, sym, ap, subst, ◌∙◌, true≢false, bytes_eq}
use Rattle.std.specs.declared.cmp.Ordering.{Ordering}
use Rattle.std.specs.declared.cmp.Ordering.TheVariants.{Less, Equal, Greater}
use Rattle.std.specs.Ordering.{nat_cmp, is_lt, is_le, is_eq, ordering_then, ordering_reverse, on, then_cmp}
use Rattle.std.specs.Cmp.{IsTotalOrder, then_total, on_total, tied_itself}
use Rattle.std.specs.Cmp.Lexicographic.{slice_cmp, nat_list_cmp_total, texts_ties}
use Rattle.std.specs.List.{list_any, list_all, last_or}
use Rattle.std.proofs.lemmas.Bool.{not-false, not-true}
use Rattle.common_lemmas.proofs.Orders.{is_less, less_then}
use Rattle.common_lemmas.proofs.Booleans.{by_test}
use Rattle.column_set.specs.RecordValues.{bytes_lt, bytes_le}
use Rattle.index_derive.specs.declared.entries.Place.{Place}
use Rattle.index_derive.specs.declared.entries.Place.TheVariants.{Before, After, On, Gap}
use Rattle.cursor_nav.specs.Places.{Pair, KeyRange, pair_lt, are_sorted, is_on, place_pair, entry_after, entry_before, is_within, is_within_upper, entries_from}
use Rattle.cursor_nav.specs.Steps.{only_equal, reaches_from, nearest_entry}
use Rattle.cursor_nav.proofs.InOrder.{IsStrict, Always, InOrder, IsIn, after_found, before_list, holds, rest_len, only_passing, first_not_below, all_not_above, any_not_below, any_not_above, count_up, count_step, count_stop, find_narrower}

-- ---- a total order is strict

from_not_by : {K : Type 0} {R : K → K → Ordering} (o : IsTotalOrder R) → (x y z : K) (r : Ordering) → R x y ≡ r → is_lt r ≡ false → is_lt (R x z) ≡ true → is_lt (R y z) ≡ true
from_not_by o x y z Less e h k = absurd (true≢false h)
from_not_by o x y z Equal e h k = ap is_lt (sym (o.congr x y z e)) ∙ k
from_not_by {R = R} o x y z Greater e h k = ap is_lt (o.trans y x z (o.antisymm y x ∙ ap ordering_reverse e) (is_less (R x z) k))

strict_from_total : {K : Type 0} {R : K → K → Ordering} → IsTotalOrder R → IsStrict (λ x y. is_lt (R x y))
strict_from_total {R = R} o = record {
  trans = λ x y z h k. ap is_lt (o.trans x y z (is_less (R x y) h) (is_less (R y z) k));
  asym = λ x y h. ap is_lt (o.antisymm y x ∙ ap ordering_reverse (is_less (R x y) h));
  irrefl = λ x. ap is_lt (tied_itself o x);
  from_not = λ x y z h k. from_not_by o x y z (R x y) refl h k;
}

pub strict_bytes : IsStrict bytes_lt
strict_bytes = strict_from_total nat_list_cmp_total

-- ---- entries

pair_cmp : Pair → Pair → Ordering
pair_cmp = then_cmp (on (λ p. p.0) (slice_cmp nat_cmp)) (on (λ p. p.1) (slice_cmp nat_cmp))

pair_lt_is : (a b : Pair) → is_lt (pair_cmp a b) ≡ pair_lt a b
unfolding pair_cmp
pair_lt_is a b =
    sym (less_then (slice_cmp nat_cmp a.0 b.0) (slice_cmp nat_cmp a.1 b.1))
    ∙ sym (ap (λ e. bytes_lt a.0 b.0 || (e && bytes_lt a.1 b.1)) (texts_ties a.0 b.0))

pair_total : IsTotalOrder pair_cmp
unfolding pair_cmp
pair_total = then_total (on_total (λ p. p.0) nat_list_cmp_total) (on_total (λ p. p.1) nat_list_cmp_total)

pub strict_pairs : IsStrict pair_lt
strict_pairs = subst IsStrict (λ i a b. pair_lt_is a b i) (strict_from_total pair_total)

always_from_all : {X : Type 0} (p : X → Bool) (xs : List X) → list_all p xs ≡ true → Always p true xs
always_from_all p [] h = tt
always_from_all p (x ∷ xs) h =
    by_test (p x)
    (λ t. (t, always_from_all p xs (rw t at h)))
    (λ t. absurd (true≢false (sym (rw t at h))))

-- entries that are sorted are in order
pub in_order : (es : List Pair) → are_sorted es ≡ true → InOrder pair_lt es
in_order [] h = tt
in_order (x ∷ xs) h =
    by_test (list_all (pair_lt x) xs)
    (λ t. (always_from_all (pair_lt x) xs t, in_order xs (rw t at h)))
    (λ t. absurd (true≢false (sym (rw t at h))))

-- the key of an entry is not above the keys of entries that follow
key_not_above_by : (r q : Ordering) → is_lt (ordering_then r q) ≡ true → is_lt (ordering_reverse r) ≡ false
key_not_above_by Less q h = refl
key_not_above_by Equal q h = refl
key_not_above_by Greater q h = absurd (true≢false (sym h))

key_not_above : (a b : Pair) → pair_lt a b ≡ true → bytes_lt b.0 a.0 ≡ false
unfolding pair_cmp
key_not_above a b h =
    ap is_lt (nat_list_cmp_total.antisymm b.0 a.0)
    ∙ key_not_above_by (slice_cmp nat_cmp a.0 b.0) (slice_cmp nat_cmp a.1 b.1) (pair_lt_is a b ∙ h)

-- ---- limits

le_not_by : (r : Ordering) → is_le r ≡ not (is_lt (ordering_reverse r))
le_not_by Less = refl
le_not_by Equal = refl
le_not_by Greater = refl

le_not : (a b : List ℕ) → bytes_le a b ≡ not (bytes_lt b a)
le_not a b = le_not_by (slice_cmp nat_cmp a b) ∙ ap (λ r. not (is_lt r)) (sym (nat_list_cmp_total.antisymm b a))

-- below, and then not above
lt_le : (x y z : List ℕ) → bytes_lt x y ≡ true → bytes_lt z y ≡ false → bytes_lt x z ≡ true
lt_le x y z h k = by_test (bytes_lt x z) (λ t. t) (λ t. absurd (true≢false (sym (strict_bytes.from_not x z y t h) ∙ k)))

-- not above, and then not below
le_not_lt : (x y z : List ℕ) → bytes_lt y x ≡ false → bytes_lt x z ≡ false → bytes_lt y z ≡ false
le_not_lt x y z h k = by_test (bytes_lt y z) (λ t. absurd (true≢false (sym (strict_bytes.from_not y x z h t) ∙ k))) (λ t. t)

upper_test : Bool → List ℕ → List ℕ → Bool
upper_test inclusive limit key = if inclusive then bytes_le key limit else bytes_lt key limit

upper_falls : (inclusive : Bool) (limit x y : List ℕ) → bytes_lt y x ≡ false → upper_test inclusive limit x ≡ false → upper_test inclusive limit y ≡ false
unfolding upper_test
upper_falls true limit x y h k =
    le_not y limit ∙ ap not (lt_le limit x y (not-false (bytes_lt limit x) (sym (le_not x limit) ∙ k)) h)
upper_falls false limit x y h k = le_not_lt x y limit h k

lower_test : Bool → List ℕ → List ℕ → Bool
lower_test inclusive limit key = if inclusive then bytes_le limit key else bytes_lt limit key

lower_rises : (inclusive : Bool) (limit x y : List ℕ) → bytes_lt y x ≡ false → lower_test inclusive limit x ≡ true → lower_test inclusive limit y ≡ true
unfolding lower_test
lower_rises true limit x y h k = le_not limit y ∙ ap not (le_not_lt x y limit h (not-true (bytes_lt x limit) (sym (le_not limit x) ∙ k)))
lower_rises false limit x y h k = lt_le limit x y k h

within_falls : (range : KeyRange) → range.upper ≡ true → (x y : Pair) → pair_lt x y ≡ true → is_within range x.0 ≡ false → is_within range y.0 ≡ false
unfolding upper_test
within_falls range u x y h = rw u (upper_falls range.inclusive range.limit x.0 y.0 (key_not_above x y h))

within_rises : (range : KeyRange) → range.upper ≡ false → (x y : Pair) → pair_lt x y ≡ true → is_within range x.0 ≡ true → is_within range y.0 ≡ true
unfolding lower_test
within_rises range u x y h = rw u (lower_rises range.inclusive range.limit x.0 y.0 (key_not_above x y h))

or_right : (a b : Bool) → (not a || b) ≡ false → b ≡ false
or_right true b h = h
or_right false b h = absurd (true≢false h)

pub within_upper_falls : (range : Option KeyRange) (x y : Pair) → pair_lt x y ≡ true → is_within_upper range x.0 ≡ false → is_within_upper range y.0 ≡ false
within_upper_falls None x y h k = k
within_upper_falls (Some range) x y h k =
    by_test range.upper
    (λ u i. not (u i) || within_falls range u x y h (or_right range.upper (is_within range x.0) k) i)
    (λ u. absurd (true≢false (rw u at k)))

-- ---- places

-- the entry beyond an entry that was found, or else the first
abbrev pub entry_beyond : Option Pair → List Pair → Option Pair
entry_beyond None entries = entry_after Before entries
entry_beyond (Some pair) entries = entry_after (On pair.0 pair.1) entries

-- the entry before an entry that was found, or else the last
abbrev pub entry_short_of : Option Pair → List Pair → Option Pair
entry_short_of None entries = entry_before After entries
entry_short_of (Some pair) entries = entry_before (On pair.0 pair.1) entries

beyond_is : (found : Option Pair) (es : List Pair) → entry_beyond found es ≡ after_found pair_lt found es
beyond_is None es = refl
beyond_is (Some pair) es = refl

short_of_is : (found : Option Pair) (es : List Pair) → entry_short_of found es ≡ last_or None (before_list pair_lt found es)
short_of_is None es = refl
short_of_is (Some pair) es = refl

pub not_below_by_neighbour : (place : Place) (es : List Pair) → is_on place ≡ true → are_sorted es ≡ true
    → entry_beyond (entry_before place es) es ≡ find (λ entry. not (pair_lt entry (place_pair place))) es
not_below_by_neighbour (On key bookmark) es h s =
    beyond_is (entry_before (On key bookmark) es) es ∙ first_not_below pair_lt strict_pairs (key, bookmark) None es tt (in_order es s)
not_below_by_neighbour Before es h s = absurd (true≢false (sym h))
not_below_by_neighbour After es h s = absurd (true≢false (sym h))
not_below_by_neighbour (Gap key above) es h s = absurd (true≢false (sym h))

pub not_above_by_neighbour : (place : Place) (es : List Pair) → is_on place ≡ true → are_sorted es ≡ true
    → entry_short_of (entry_after place es) es ≡ last_or None (filter (λ entry. not (pair_lt (place_pair place) entry)) es)
not_above_by_neighbour (On key bookmark) es h s =
    short_of_is (entry_after (On key bookmark) es) es ∙ ap (last_or None) (all_not_above pair_lt strict_pairs (key, bookmark) es (in_order es s))
not_above_by_neighbour Before es h s = absurd (true≢false (sym h))
not_above_by_neighbour After es h s = absurd (true≢false (sym h))
not_above_by_neighbour (Gap key above) es h s = absurd (true≢false (sym h))

-- ---- ranges

reaches_by : (range : KeyRange) (from : Pair) (es : List Pair) → are_sorted es ≡ true → (upper : Bool) → range.upper ≡ upper
    → list_any (λ entry. is_within range entry.0 && not (if upper then pair_lt entry from else pair_lt from entry)) es ≡ holds (λ entry. is_within range entry.0) (nearest_entry upper from es)
reaches_by range from es s true u = any_not_below pair_lt strict_pairs from (λ entry. is_within range entry.0) (within_falls range u) es (in_order es s)
reaches_by range from es s false u = any_not_above pair_lt strict_pairs from (λ entry. is_within range entry.0) (within_rises range u) es (in_order es s)

-- whether the limit is reached, by the nearest entry alone
pub reaches_by_nearest : (place : Place) (range : KeyRange) (es : List Pair) → is_on place ≡ true → are_sorted es ≡ true
    → reaches_from place range es ≡ holds (λ entry. is_within range entry.0) (nearest_entry range.upper (place_pair place) es)
reaches_by_nearest (On key bookmark) range es h s = reaches_by range (key, bookmark) es s range.upper refl
reaches_by_nearest Before range es h s = absurd (true≢false (sym h))
reaches_by_nearest After range es h s = absurd (true≢false (sym h))
reaches_by_nearest (Gap key above) range es h s = absurd (true≢false (sym h))

pub reaches_nowhere : (place : Place) (range : KeyRange) (es : List Pair) → is_on place ≡ false → reaches_from place range es ≡ false
reaches_nowhere (On key bookmark) range es h = absurd (true≢false h)
reaches_nowhere Before range es h = refl
reaches_nowhere After range es h = refl
reaches_nowhere (Gap key above) range es h = refl

-- ---- seeks

not_equal_by : (r : Ordering) → is_eq r ≡ true → is_le (ordering_reverse r) ≡ true
not_equal_by Less h = absurd (true≢false (sym h))
not_equal_by Equal h = refl
not_equal_by Greater h = absurd (true≢false (sym h))

equal_is_not_below : (key : List ℕ) (x : Pair) → bytes_eq x.0 key ≡ true → bytes_le key x.0 ≡ true
equal_is_not_below key x h =
    ap is_le (nat_list_cmp_total.antisymm key x.0) ∙ not_equal_by (slice_cmp nat_cmp x.0 key) (sym (texts_ties x.0 key) ∙ h)

above_by : (r : Ordering) → is_le (ordering_reverse r) ≡ true → is_eq r ≡ false → r ≡ Greater
above_by Less h k = absurd (true≢false (sym h))
above_by Equal h k = absurd (true≢false k)
above_by Greater h k = refl

greater_is_not_equal : (r : Ordering) → is_lt (ordering_reverse r) ≡ true → is_eq r ≡ false
greater_is_not_equal Less h = absurd (true≢false (sym h))
greater_is_not_equal Equal h = absurd (true≢false (sym h))
greater_is_not_equal Greater h = refl

later_is_not_equal : (key : List ℕ) (x y : Pair) → pair_lt x y ≡ true → bytes_le key x.0 ≡ true → bytes_eq x.0 key ≡ false → bytes_eq y.0 key ≡ false
later_is_not_equal key x y h u v =
    let r : slice_cmp nat_cmp x.0 key ≡ Greater = above_by (slice_cmp nat_cmp x.0 key) (ap is_le (sym (nat_list_cmp_total.antisymm key x.0)) ∙ u) (sym (texts_ties x.0 key) ∙ v) in
    let less : bytes_lt key x.0 ≡ true = ap is_lt (nat_list_cmp_total.antisymm key x.0 ∙ ap ordering_reverse r) in
    let above : bytes_lt key y.0 ≡ true = lt_le key x.0 y.0 less (key_not_above x y h) in
    texts_ties y.0 key ∙ greater_is_not_equal (slice_cmp nat_cmp y.0 key) (ap is_lt (sym (nat_list_cmp_total.antisymm key y.0)) ∙ above)

only_is : (key : List ℕ) (found : Option Pair) → only_passing (λ entry. bytes_eq entry.0 key) found ≡ only_equal key found
only_is key None = refl
only_is key (Some entry) = refl

-- the first entry with the key is the first not below it, or none is
pub first_equal : (key : List ℕ) (es : List Pair) → are_sorted es ≡ true
    → only_equal key (entry_after (Gap key false) es) ≡ find (λ entry. bytes_eq entry.0 key) es
first_equal key es s =
    sym (find_narrower pair_lt (λ entry. bytes_eq entry.0 key) (λ entry. bytes_le key entry.0) (equal_is_not_below key) (later_is_not_equal key) es (in_order es s)
    ∙ only_is key (find (λ entry. bytes_le key entry.0) es))

-- ---- counts

-- how many entries are not below one that was found, within an upper limit
abbrev pub count_at : Option KeyRange → Option Pair → List Pair → ℕ
count_at range found es = rest_len pair_lt (λ entry. is_within_upper range entry.0) found es

pub count_from_first : (range : Option KeyRange) (from : Pair) (es : List Pair) → are_sorted es ≡ true
    → length (entries_from from range es) ≡ count_at range (find (λ entry. not (pair_lt entry from)) es) es
count_from_first range from es s =
    count_up pair_lt strict_pairs (λ entry. not (pair_lt entry from)) (λ entry. is_within_upper range entry.0)
    (λ x y h t. ap not (strict_pairs.asym from y (strict_pairs.from_not x from y (not-true (pair_lt x from) t) h)))
    es (in_order es s)

pub count_one_more : (range : Option KeyRange) (e : Pair) (es : List Pair) → IsIn e es → are_sorted es ≡ true → is_within_upper range e.0 ≡ true
    → count_at range (Some e) es ≡ suc (count_at range (entry_after (On e.0 e.1) es) es)
count_one_more range e es m s v = count_step pair_lt strict_pairs (λ entry. is_within_upper range entry.0) (within_upper_falls range) e es m (in_order es s) v

pub count_no_more : (range : Option KeyRange) (e : Pair) (es : List Pair) → IsIn e es → are_sorted es ≡ true → is_within_upper range e.0 ≡ false
    → count_at range (Some e) es ≡ 0
count_no_more range e es m s v = count_stop pair_lt strict_pairs (λ entry. is_within_upper range entry.0) (within_upper_falls range) e es m (in_order es s) v
