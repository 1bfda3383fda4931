-- A walk over a range begins at its first entry, and goes on to the next one.
use Rattle.std.proofs.Common.{◌≡◌, ℕ, Bool, true, false, ◌&&◌, cond, List, [], ◌∷◌, map, filter, Option, Some, None, refl, sym, ap, ◌∙◌, true≢false}
use Rattle.std.specs.Prelude.{is_some}
use Rattle.index_derive.specs.declared.entries.Place.{Place}
use Rattle.index_derive.specs.declared.entries.Place.TheVariants.{Before, After, On}
use Rattle.cursor_nav.specs.Places.{Pair, pair_lt, are_sorted, is_on, is_beyond, is_within_upper, place_key, place_bookmark, on_or, entry_after, entry_before, entries_from}
use Rattle.index_intersect.specs.declared.ranges.Limit.{Limit}
use Rattle.index_intersect.specs.Intersection.{upper_range}
use Rattle.index_intersect.proofs.InOrder.{Always, is_above, from_found, first_and_after, not_below}
use Rattle.index_intersect.proofs.KeyOrder.{strict_pairs, in_order, within_falls, beyond_rises}

-- the bookmarks beyond a place, within a limit
abbrev pub ahead : Place → Option Limit → List Pair → List (List ℕ)
ahead place limit es = map (λ entry. entry.1) (filter (λ entry. is_beyond place entry && is_within_upper (upper_range limit) entry.0) es)

-- ---- the beginning

above_is : (o : Option Pair) (q : Pair → Bool) (es : List Pair) → filter (λ e. is_beyond (on_or o Before) e && q e) es ≡ filter (λ e. is_above pair_lt o e && q e) es
above_is None q es = refl
above_is (Some p) q es = refl

all_above_none : (es : List Pair) → Always (is_above pair_lt None) true es
all_above_none [] = tt
all_above_none (e ∷ es) = (refl, all_above_none es)

-- beyond the last entry below it
pub begins : (from : Pair) (limit : Option Limit) (es : List Pair) → are_sorted es ≡ true
    → ahead (on_or (entry_before (On from.0 from.1) es) Before) limit es ≡ map (λ entry. entry.1) (entries_from from (upper_range limit) es)
begins from limit es s =
    ap (map (λ (entry : Pair). entry.1))
    (above_is (entry_before (On from.0 from.1) es) (λ e. is_within_upper (upper_range limit) e.0) es
    ∙ not_below pair_lt strict_pairs from (λ e. is_within_upper (upper_range limit) e.0) None es (all_above_none es) (in_order es s))

-- ---- a step

found_is : (place : Place) (limit : Option Limit) (es : List Pair) → are_sorted es ≡ true
    → filter (λ e. is_beyond place e && is_within_upper (upper_range limit) e.0) es ≡ from_found pair_lt (λ e. is_within_upper (upper_range limit) e.0) (entry_after place es) es
found_is place limit es s =
    first_and_after pair_lt strict_pairs (is_beyond place) (λ e. is_within_upper (upper_range limit) e.0) (beyond_rises place) (within_falls limit) es (in_order es s)

-- what is ahead, by the entry that was found
abbrev from_entry : Option Limit → List Pair → Option Pair → List (List ℕ)
from_entry limit es found = map (λ entry. entry.1) (from_found pair_lt (λ e. is_within_upper (upper_range limit) e.0) found es)

goes_by : (limit : Option Limit) (es : List Pair) (found : Option Pair) → is_some found ≡ true → is_within_upper (upper_range limit) (place_key (on_or found After)) ≡ true
    → from_entry limit es found ≡ place_bookmark (on_or found After) ∷ ahead (on_or found After) limit es
goes_by limit es None h w = absurd (true≢false (sym h))
goes_by limit es (Some e) h w = ap (λ b. map (λ (entry : Pair). entry.1) (cond b (e ∷ filter (λ x. pair_lt e x && is_within_upper (upper_range limit) x.0) es) [])) w

goes : (place new : Place) (limit : Option Limit) (es : List Pair) → are_sorted es ≡ true → new ≡ on_or (entry_after place es) After
    → is_some (entry_after place es) ≡ true → is_within_upper (upper_range limit) (place_key new) ≡ true → ahead place limit es ≡ place_bookmark new ∷ ahead new limit es
goes place new limit es s n h w =
    ap (map (λ (entry : Pair). entry.1)) (found_is place limit es s)
    ∙ goes_by limit es (entry_after place es) h (ap (λ p. is_within_upper (upper_range limit) (place_key p)) (sym n) ∙ w)
    ∙ ap (λ p. place_bookmark p ∷ ahead p limit es) (sym n)

stops_by : (limit : Option Limit) (es : List Pair) (found : Option Pair) → is_some found ≡ true → is_within_upper (upper_range limit) (place_key (on_or found After)) ≡ false → from_entry limit es found ≡ []
stops_by limit es None h w = refl
stops_by limit es (Some e) h w = ap (λ b. map (λ (entry : Pair). entry.1) (cond b (e ∷ filter (λ x. pair_lt e x && is_within_upper (upper_range limit) x.0) es) [])) w

-- the next entry is beyond the limit
stops : (place new : Place) (limit : Option Limit) (es : List Pair) → are_sorted es ≡ true → new ≡ on_or (entry_after place es) After
    → is_some (entry_after place es) ≡ true → is_within_upper (upper_range limit) (place_key new) ≡ false → ahead place limit es ≡ []
stops place new limit es s n h w =
    ap (map (λ (entry : Pair). entry.1)) (found_is place limit es s)
    ∙ stops_by limit es (entry_after place es) h (ap (λ p. is_within_upper (upper_range limit) (place_key p)) (sym n) ∙ w)

-- the next entry, and whether it is within the limit
pub steps : (place new : Place) (limit : Option Limit) (es : List Pair) → are_sorted es ≡ true → new ≡ on_or (entry_after place es) After
    → is_some (entry_after place es) ≡ true → (within : Bool) → within ≡ is_within_upper (upper_range limit) (place_key new)
    → ahead place limit es ≡ cond within (place_bookmark new ∷ ahead new limit es) []
steps place new limit es s n h true w = goes place new limit es s n h (sym w)
steps place new limit es s n h false w = stops place new limit es s n h (sym w)

ends_by : (limit : Option Limit) (es : List Pair) (found : Option Pair) → is_some found ≡ false → from_entry limit es found ≡ []
ends_by limit es None h = refl
ends_by limit es (Some e) h = absurd (true≢false h)

-- there is no next entry
pub ends : (place : Place) (limit : Option Limit) (es : List Pair) → are_sorted es ≡ true → is_some (entry_after place es) ≡ false → ahead place limit es ≡ []
ends place limit es s h = ap (map (λ (entry : Pair). entry.1)) (found_is place limit es s) ∙ ends_by limit es (entry_after place es) h

-- the entry that was found is where the walk stands
pub stands : (found : Option Pair) (new : Place) → new ≡ on_or found After → is_some found ≡ true → is_on new ≡ true
stands None new n h = absurd (true≢false (sym h))
stands (Some e) new n h = ap is_on n
