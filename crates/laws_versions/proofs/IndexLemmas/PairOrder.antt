-- Entries are in a total order, which tells each from every other.
use Rattle.std.proofs.Common.{◌≡◌, true, ◌&&◌, ◌||◌, List, [], ◌∷◌, refl, sym, ap, ◌∙◌, true≢false}
use Rattle.std.specs.List.{list_all, AllByRecursion}
use Rattle.std.specs.List.Sorted.{IsStrictlySortedBy}
use Rattle.std.specs.declared.cmp.Ordering.{Ordering}
use Rattle.std.specs.declared.cmp.Ordering.TheVariants.{Less, Equal, Greater}
use Rattle.std.specs.Ordering.{is_lt, is_eq, ordering_then}
use Rattle.std.specs.Cmp.{IsTotalOrder, then_total, on_total}
use Rattle.std.specs.Cmp.Lexicographic.{nat_list_cmp_total, texts_ties}
use Rattle.std.proofs.lemmas.Map.Lookups.{exact_bytes}
use Rattle.std.proofs.lemmas.Bool.{and_from}
use Rattle.common_lemmas.proofs.Orders.{is_less, less_then}
use Rattle.common_lemmas.proofs.Booleans.{and_left, and_right}
use Rattle.column_set.specs.RecordValues.{bytes_lt}
use Rattle.cursor_nav.specs.Places.{Pair, pair_lt, are_sorted}
use Rattle.index_derive.specs.RisingKeys.{key_cmp}

abbrev pub pair_cmp : Pair → Pair → Ordering
pair_cmp x y = ordering_then (key_cmp x.0 y.0) (key_cmp x.1 y.1)

pub pairs_total : IsTotalOrder pair_cmp
pairs_total = then_total (on_total (λ p. p.0) nat_list_cmp_total) (on_total (λ p. p.1) nat_list_cmp_total)

abbrev pub IsRising : List Pair → Type 0
IsRising entries = IsStrictlySortedBy pair_cmp entries

-- ---- entries that tie are one

both_equal : (r q : Ordering) → ordering_then r q ≡ Equal → (r ≡ Equal) × (q ≡ Equal)
both_equal Less q h = absurd (true≢false (sym (ap is_eq h)))
both_equal Equal q h = (refl, h)
both_equal Greater q h = absurd (true≢false (sym (ap is_eq h)))

pub exact_pairs : (x y : Pair) → pair_cmp x y ≡ Equal → x ≡ y
exact_pairs x y e =
    let both = both_equal (key_cmp x.0 y.0) (key_cmp x.1 y.1) e in
    let keys : x.0 ≡ y.0 = exact_bytes x.0 y.0 both.0 in
    let bookmarks : x.1 ≡ y.1 = exact_bytes x.1 y.1 both.1 in
    λ i. (keys i, bookmarks i)

-- ---- the test of the order

pub pair_lt-is : (x y : Pair) → pair_lt x y ≡ is_lt (pair_cmp x y)
pair_lt-is x y =
    ap (λ e. bytes_lt x.0 y.0 || (e && bytes_lt x.1 y.1)) (texts_ties x.0 y.0)
    ∙ less_then (key_cmp x.0 y.0) (key_cmp x.1 y.1)

all_less : (x : Pair) (ys : List Pair) → list_all (pair_lt x) ys ≡ true → AllByRecursion (λ y. pair_cmp x y ≡ Less) ys
all_less x [] h = tt
all_less x (y ∷ ys) h =
    (is_less (pair_cmp x y) (sym (pair_lt-is x y) ∙ and_left (pair_lt x y) _ h), all_less x ys (and_right (pair_lt x y) _ h))

less_all : (x : Pair) (ys : List Pair) → AllByRecursion (λ y. pair_cmp x y ≡ Less) ys → list_all (pair_lt x) ys ≡ true
less_all x [] h = refl
less_all x (y ∷ ys) h = and_from (pair_lt x y) _ (pair_lt-is x y ∙ ap is_lt h.0) (less_all x ys h.1)

pub rising-sorted : (es : List Pair) → are_sorted es ≡ true → IsRising es
unfolding IsStrictlySortedBy
rising-sorted [] h = tt
rising-sorted (e ∷ es) h = (all_less e es (and_left (list_all (pair_lt e) es) _ h), rising-sorted es (and_right (list_all (pair_lt e) es) _ h))

pub sorted-rising : (es : List Pair) → IsRising es → are_sorted es ≡ true
unfolding IsStrictlySortedBy
sorted-rising [] h = refl
sorted-rising (e ∷ es) h = and_from (list_all (pair_lt e) es) _ (less_all e es h.0) (sorted-rising es h.1)
