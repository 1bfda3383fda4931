-- A plain list of entries as pairs.
use Rattle.std.proofs.Common.{◌≡◌, ℕ, bytes_eq, Bool, true, ◌&&◌, List, [], ◌∷◌, map, filter, find, Option, Some, None, refl, sym, ap, ◌∙◌, true≢false}
use Rattle.std.specs.List.{last_or, list_all}
use Rattle.common_lemmas.proofs.Finding.{find_reverse}
use Rattle.common_lemmas.proofs.Booleans.{and_false, by_test}
use Rattle.index_derive.specs.declared.entries.IndexEntry.{IndexEntry}
use Rattle.index_derive.specs.declared.entries.Place.{Place}
use Rattle.cursor_nav.specs.Places.{Pair, pair_lt, pair_of, found_pair, are_sorted, is_beyond, is_short_of, entry_after, entry_before, least_entry_of}
use Rattle.cursor_nav.specs.Steps.{is_below_first, first_beyond, last_before, first_of}
use Rattle.cursor_nav.proofs.PairOrder.{strict_pairs}

find_pairs : (p : Pair → Bool) (es : List IndexEntry) → find p (map pair_of es) ≡ found_pair (find (λ e. p (pair_of e)) es)
find_pairs p [] = refl
find_pairs p (e ∷ es) = by_test (p (pair_of e)) (λ t. rw t refl) (λ t. rw t (find_pairs p es))

last_pairs_from : (p : Pair → Bool) (o : Option IndexEntry) (es : List IndexEntry) → last_or (found_pair o) (filter p (map pair_of es)) ≡ found_pair (last_or o (filter (λ e. p (pair_of e)) es))
last_pairs_from p o [] = refl
last_pairs_from p o (e ∷ es) = by_test (p (pair_of e)) (λ t. rw t (last_pairs_from p (Some e) es)) (λ t. rw t (last_pairs_from p o es))

pub last_pairs : (place : Place) (es : List IndexEntry) → found_pair (last_before place es) ≡ entry_before place (map pair_of es)
last_pairs place es = ap found_pair (find_reverse (λ e. is_short_of place (pair_of e)) es) ∙ sym (last_pairs_from (is_short_of place) None es)

pub first_pairs : (place : Place) (es : List IndexEntry) → found_pair (first_beyond place es) ≡ entry_after place (map pair_of es)
first_pairs place es = sym (find_pairs (is_beyond place) es)

pub least_pairs : (bookmark : List ℕ) (es : List IndexEntry) → found_pair (first_of bookmark es) ≡ least_entry_of bookmark (map pair_of es)
least_pairs bookmark es = sym (find_pairs (λ entry. bytes_eq entry.1 bookmark) es)

-- what lies above an element lies above those below it
all_above : (x y : Pair) (es : List Pair) → pair_lt x y ≡ true → list_all (pair_lt y) es ≡ true → list_all (pair_lt x) es ≡ true
all_above x y [] h k = refl
all_above x y (z ∷ es) h k =
    by_test (pair_lt y z)
    (λ t. let u : pair_lt x z ≡ true = strict_pairs.trans x y z h t in rw u (all_above x y es h (rw t at k)))
    (λ t. absurd (true≢false (sym (rw t at k))))

sorted_pairs : (x : Pair) (es : List Pair) → are_sorted (x ∷ es) ≡ (is_below_first x es && are_sorted es)
sorted_pairs x [] = refl
sorted_pairs x (y ∷ es) =
    by_test (pair_lt x y)
    (λ t. by_test (list_all (pair_lt y) es)
    (λ u. let v : list_all (pair_lt x) es ≡ true = all_above x y es t u in rw (t, v) refl)
    (λ u. rw (t, u) (and_false (list_all (pair_lt x) es))))
    (λ t. rw t refl)

-- entries are sorted where the first lies below the second and the rest is sorted
pub sorted_step : (x : IndexEntry) (es : List IndexEntry) → are_sorted (map pair_of (x ∷ es)) ≡ (is_below_first (pair_of x) (map pair_of es) && are_sorted (map pair_of es))
sorted_step x es = sorted_pairs (pair_of x) (map pair_of es)
