-- An entry that was found is short.
use Rattle.std.proofs.Common.{◌≡◌, ◌≤◌, Bool, List, [], ◌∷◌, length, filter, find, Option, Some, None, option_map, sym, subst}
use Rattle.std.specs.Prelude.{All, IfSome}
use Rattle.std.specs.List.{last_or}
use Rattle.std.proofs.lemmas.List.Elements.{All-head, All-tail}
use Rattle.common_lemmas.proofs.Booleans.{by_test}
use Rattle.index_derive.specs.declared.entries.Place.{Place}
use Rattle.cursor_nav.specs.Places.{Pair, entry_after, entry_before, is_beyond, is_short_of}
use Rattle.index_tree.specs.Entries.{IsShort}

found_short : (test : Pair → Bool) (entries : List Pair) → All IsShort entries → IfSome (find test entries) IsShort
found_short test [] h = tt
found_short test (e ∷ entries) h =
    by_test (test e)
    (λ t. let first : IsShort e = All-head IsShort e entries h in rw t first)
    (λ t. rw t (found_short test entries (All-tail IsShort e entries h)))

last_short : (test : Pair → Bool) (entries : List Pair) (o : Option Pair) → IfSome o IsShort → All IsShort entries → IfSome (last_or o (filter test entries)) IsShort
last_short test [] o low h = low
last_short test (e ∷ entries) o low h =
    by_test (test e)
    (λ t. rw t (last_short test entries (Some e) (All-head IsShort e entries h) (All-tail IsShort e entries h)))
    (λ t. rw t (last_short test entries o low (All-tail IsShort e entries h)))

shown_short : {R : Type 0} (shown : R → Pair) (r : Option R) (o : Option Pair) → option_map shown r ≡ o → IfSome o IsShort → IfSome r (λ x. (length (shown x).0 ≤ 255) × (length (shown x).1 ≤ 255))
shown_short shown None o e h = tt
shown_short shown (Some x) o e h = let short : IsShort (shown x) = subst (λ (p : Option Pair). IfSome p IsShort) (sym e) h in (short.key, short.bookmark)

pub entry_after_short : {R : Type 0} (shown : R → Pair) (r : Option R) (place : Place) (entries : List Pair) → option_map shown r ≡ entry_after place entries → All IsShort entries → IfSome r (λ x. (length (shown x).0 ≤ 255) × (length (shown x).1 ≤ 255))
entry_after_short shown r place entries e h = shown_short shown r (entry_after place entries) e (found_short (is_beyond place) entries h)

pub entry_before_short : {R : Type 0} (shown : R → Pair) (r : Option R) (place : Place) (entries : List Pair) → option_map shown r ≡ entry_before place entries → All IsShort entries → IfSome r (λ x. (length (shown x).0 ≤ 255) × (length (shown x).1 ≤ 255))
entry_before_short shown r place entries e h = shown_short shown r (entry_before place entries) e (last_short (is_short_of place) entries None tt h)
