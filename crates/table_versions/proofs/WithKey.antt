-- The entries of a key among all, gone over one after the other.
use Rattle.std.proofs.Common.{◌≡◌, ℕ, Bool, true, false, ◌&&◌, ◌||◌, cond, inl, inr, List, [], ◌∷◌, Option, Some, None, filter, find, refl, sym, ap, ◌∙◌}
use Rattle.std.specs.Prelude.{bytes_eq, IfSome}
use Rattle.std.specs.List.{AllByRecursion, list_all, list_any}
use Rattle.std.proofs.lemmas.Bool.{false_from_ne_true}
use Rattle.common_lemmas.proofs.Booleans.{and_false, and_left, and_right, impossible}
use Rattle.common_lemmas.proofs.Numbers.{same_bytes}
use Rattle.column_set.specs.RecordValues.{bytes_le}
use Rattle.cursor_nav.specs.Places.{Pair, are_sorted, entry_after, is_beyond, pair_lt}
use Rattle.index_derive.specs.declared.entries.Place.{Place}
use Rattle.index_derive.specs.declared.entries.Place.TheVariants.{Gap, On}
use Rattle.laws_engine.proofs.TableLemmas.Neighbours.{above_all, all_in, found_in}
use Rattle.laws_engine.proofs.TableLemmas.Order.{beyond_more, keys_of, le_itself, lt_le, not_back, not_below_itself, not_itself}

-- ---- some entries of a list

pub any_within : (p test : Pair → Bool) → ((y : Pair) → p y ≡ false → test y ≡ false) → (xs : List Pair) → list_any test (filter p xs) ≡ list_any test xs
any_within p test out [] = refl
any_within p test out (x ∷ xs) = by (p x) refl (any_within p test out xs)
  where
    by : (b : Bool) → p x ≡ b → list_any test (filter p xs) ≡ list_any test xs → list_any test (cond b (x ∷ filter p xs) (filter p xs)) ≡ (test x || list_any test xs)
    by true e rest = ap (λ b. test x || b) rest
    by false e rest = rest ∙ sym (ap (λ b. b || list_any test xs) (out x e))

pub none_within : (p test : Pair → Bool) → ((y : Pair) → p y ≡ true → test y ≡ false) → (xs : List Pair) → list_any test (filter p xs) ≡ false
none_within p test out [] = refl
none_within p test out (x ∷ xs) = by (p x) refl (none_within p test out xs)
  where
    by : (b : Bool) → p x ≡ b → list_any test (filter p xs) ≡ false → list_any test (cond b (x ∷ filter p xs) (filter p xs)) ≡ false
    by true e rest = ap (λ b. b || list_any test (filter p xs)) (out x e) ∙ rest
    by false e rest = rest

pub filter_alike : {X : Type 0} (q r : X → Bool) (xs : List X) → AllByRecursion (λ y. q y ≡ r y) xs → filter q xs ≡ filter r xs
filter_alike q r [] h = refl
filter_alike q r (x ∷ xs) h = λ i. cond (h.0 i) (x ∷ filter_alike q r xs h.1 i) (filter_alike q r xs h.1 i)

-- ---- from one entry on

-- whether this entry, or one beyond it, passes
abbrev pub any_from : (Pair → Bool) → List Pair → Option Pair → Bool
any_from test entries None = false
any_from test entries (Some e) = test e || list_any test (filter (is_beyond (On e.0 e.1)) entries)

-- one passes beyond a place where one does from the next on
pub any_beyond : (test : Pair → Bool) (place : Place) (entries : List Pair) → are_sorted entries ≡ true → list_any test (filter (is_beyond place) entries) ≡ any_from test entries (entry_after place entries)
any_beyond test place [] sorted = refl
any_beyond test place (x ∷ xs) sorted = by (is_beyond place x) refl (any_beyond test place xs (and_right (list_all (pair_lt x) xs) _ sorted))
  where
    low : list_all (pair_lt x) xs ≡ true
    low = and_left _ _ sorted

    from_x : (b : Bool) → pair_lt x x ≡ b → b ≡ false → filter (pair_lt x) xs ≡ cond b (x ∷ filter (pair_lt x) xs) (filter (pair_lt x) xs)
    from_x true e f = impossible (sym f)
    from_x false e f = refl

    later : (o : Option Pair) → find (is_beyond place) xs ≡ o → any_from test xs o ≡ any_from test (x ∷ xs) o
    later None f = refl
    later (Some e) f =
        let there = found_in (is_beyond place) e xs f in
        sym (ap (λ b. test e || list_any test (cond b (x ∷ filter (pair_lt e) xs) (filter (pair_lt e) xs))) (not_back x e (all_in (pair_lt x) e xs low there.0)))

    by : (b : Bool) → is_beyond place x ≡ b → list_any test (filter (is_beyond place) xs) ≡ any_from test xs (entry_after place xs)
        → list_any test (cond b (x ∷ filter (is_beyond place) xs) (filter (is_beyond place) xs)) ≡ any_from test (x ∷ xs) (cond b (Some x) (find (is_beyond place) xs))
    by true e rest =
        ap (λ ys. test x || list_any test ys) (filter_alike (is_beyond place) (pair_lt x) xs (above_all place x xs e low) ∙ from_x (pair_lt x x) refl (not_itself x))
    by false e rest = rest ∙ later (find (is_beyond place) xs) refl

pub any_next : (test : Pair → Bool) (place : Place) (next : Option Pair) (entries : List Pair) → are_sorted entries ≡ true → next ≡ entry_after place entries → list_any test (filter (is_beyond place) entries) ≡ any_from test entries next
any_next test place next entries sorted is = any_beyond test place entries sorted ∙ ap (any_from test entries) (sym is)

-- ---- the entries of a key

-- whether the entry has the key, and its bookmark passes
abbrev pub has_key_and : (List ℕ → Bool) → List ℕ → Pair → Bool
has_key_and test key e = bytes_eq e.0 key && test e.1

below_gap : (test : List ℕ → Bool) (key : List ℕ) (y : Pair) → is_beyond (Gap key false) y ≡ false → has_key_and test key y ≡ false
below_gap test key y e = ap (λ b. b && test y.1) (false_from_ne_true (bytes_eq y.0 key) (λ same. impossible (sym e ∙ ap (λ (k : List ℕ). bytes_le key k) (same_bytes y.0 key same) ∙ le_itself key)))

-- from the gap below the key on
pub from_gap : (test : List ℕ → Bool) (key : List ℕ) (next : Option Pair) (entries : List Pair) → are_sorted entries ≡ true → next ≡ entry_after (Gap key false) entries
    → list_any (has_key_and test key) entries ≡ any_from (has_key_and test key) entries next
from_gap test key next entries sorted is =
    sym (any_within (is_beyond (Gap key false)) (has_key_and test key) (below_gap test key) entries)
    ∙ any_next (has_key_and test key) (Gap key false) next entries sorted is

abbrev pub IsFromGap : List ℕ → Option Pair → Type 0
IsFromGap key found = IfSome found (λ (e : Pair). bytes_le key e.0 ≡ true)

pub next_from_gap : (key : List ℕ) (next : Option Pair) (entries : List Pair) → next ≡ entry_after (Gap key false) entries → IsFromGap key next
next_from_gap key None entries is = tt
next_from_gap key (Some e) entries is = (found_in (is_beyond (Gap key false)) e entries (sym is)).1

pub later_from_gap : (key : List ℕ) (e : Pair) (next : Option Pair) (entries : List Pair) → bytes_le key e.0 ≡ true → next ≡ entry_after (On e.0 e.1) entries → IsFromGap key next
later_from_gap key e None entries low is = tt
later_from_gap key e (Some y) entries low is = beyond_more (Gap key false) e y low (found_in (is_beyond (On e.0 e.1)) y entries (sym is)).1

-- from an entry with a greater key on no entry has the key
pub past_key : (test : List ℕ → Bool) (key : List ℕ) (e : Pair) (entries : List Pair) → bytes_le key e.0 ≡ true → bytes_eq e.0 key ≡ false → any_from (has_key_and test key) entries (Some e) ≡ false
past_key test key e entries low other =
    ap (λ b. (b && test e.1) || list_any (has_key_and test key) (filter (is_beyond (On e.0 e.1)) entries)) other
    ∙ none_within (pair_lt e) (has_key_and test key) (λ y above. ap (λ b. b && test y.1) (greater y above)) entries
  where
    greater : (y : Pair) → pair_lt e y ≡ true → bytes_eq y.0 key ≡ false
    greater y above = elim (keys_of e y above) [
      | inl less ↦ false_from_ne_true (bytes_eq y.0 key) (λ same. not_below_itself e.0 (lt_le e.0 y.0 e.0 less (ap (λ (k : List ℕ). bytes_le k e.0) (same_bytes y.0 key same) ∙ low)))
      | inr same ↦ ap (λ (k : List ℕ). bytes_eq k key) (sym same) ∙ other
    ]

-- ---- the walk

-- Whether an entry of the key passes is told from the entry that was found on.
pub record KeyWalk (test : List ℕ → Bool) (key : List ℕ) (entries : List Pair) (found : Option Pair) : Type 0 where
  pub same : list_any (has_key_and test key) entries ≡ any_from (has_key_and test key) entries found
  pub low : IsFromGap key found

pub walk_begins : (test : List ℕ → Bool) (key : List ℕ) (entries : List Pair) (found : Option Pair) → are_sorted entries ≡ true → found ≡ entry_after (Gap key false) entries → KeyWalk test key entries found
walk_begins test key entries found sorted is = record { same = from_gap test key found entries sorted is; low = next_from_gap key found entries is }

pub walk_goes_on : (test : List ℕ → Bool) (key : List ℕ) (entries : List Pair) (e : Pair) (next : Option Pair) → are_sorted entries ≡ true → KeyWalk test key entries (Some e) → test e.1 ≡ false → next ≡ entry_after (On e.0 e.1) entries → KeyWalk test key entries next
walk_goes_on test key entries e next sorted walk fails is = record {
  same =
      walk.same
      ∙ ap (λ b. (bytes_eq e.0 key && b) || list_any (has_key_and test key) (filter (is_beyond (On e.0 e.1)) entries)) fails
      ∙ ap (λ b. b || list_any (has_key_and test key) (filter (is_beyond (On e.0 e.1)) entries)) (and_false (bytes_eq e.0 key))
      ∙ any_next (has_key_and test key) (On e.0 e.1) next entries sorted is;
  low = later_from_gap key e next entries walk.low is;
}

pub walk_finds : (test : List ℕ → Bool) (key : List ℕ) (entries : List Pair) (e : Pair) → KeyWalk test key entries (Some e) → bytes_eq e.0 key ≡ true → test e.1 ≡ true → list_any (has_key_and test key) entries ≡ true
walk_finds test key entries e walk same passes = walk.same ∙ (λ i. (same i && passes i) || list_any (has_key_and test key) (filter (is_beyond (On e.0 e.1)) entries))

pub walk_passes : (test : List ℕ → Bool) (key : List ℕ) (entries : List Pair) (e : Pair) → KeyWalk test key entries (Some e) → bytes_eq e.0 key ≡ false → list_any (has_key_and test key) entries ≡ false
walk_passes test key entries e walk other = walk.same ∙ past_key test key e entries walk.low other

pub walk_ends : (test : List ℕ → Bool) (key : List ℕ) (entries : List Pair) (found : Option Pair) → KeyWalk test key entries found → found ≡ None → list_any (has_key_and test key) entries ≡ false
walk_ends test key entries found walk is = walk.same ∙ ap (any_from (has_key_and test key) entries) is
