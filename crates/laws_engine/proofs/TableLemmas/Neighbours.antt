-- The neighbours of a place among some of the entries, found by going over all of them.
use Rattle.std.proofs.Common.{◌≡◌, ℕ, suc, ◌<◌, ◌≤◌, Bool, true, false, cond, ◌⊎◌, inl, inr, List, [], ◌∷◌, length, Option, Some, None, filter, find, refl, sym, ap, ◌∙◌, arith}
use Rattle.std.specs.List.{AllByRecursion, last_or, list_all}
use Rattle.common_lemmas.proofs.Options.{none_some, same_some}
use Rattle.common_lemmas.proofs.Booleans.{and_left, and_right, impossible}
use Rattle.common_lemmas.proofs.Lists.{all_filter, filter_none}
use Rattle.index_derive.specs.declared.entries.Place.{Place}
use Rattle.index_derive.specs.declared.entries.Place.TheVariants.{On}
use Rattle.cursor_nav.specs.Places.{Pair, are_sorted, entry_after, entry_before, is_beyond, is_short_of, pair_lt}
use Rattle.laws_engine.proofs.TableLemmas.Order.{beyond_more, lt_trans, not_back, not_itself, short_more}

-- ---- members

abbrev pub IsIn : {X : Type 0} → X → List X → Type 0
IsIn e [] = ⊥
IsIn e (x ∷ xs) = (x ≡ e) ⊎ IsIn e xs

pub all_in : (p : Pair → Bool) (e : Pair) (xs : List Pair) → list_all p xs ≡ true → IsIn e xs → p e ≡ true
all_in p e [] h i = absurd i
all_in p e (x ∷ xs) h (inl same) = sym (ap p same) ∙ and_left (p x) _ h
all_in p e (x ∷ xs) h (inr later) = all_in p e xs (and_right (p x) _ h) later

-- what was found is there and passes
pub found_in : {X : Type 0} (q : X → Bool) (e : X) (xs : List X) → find q xs ≡ Some e → IsIn e xs × (q e ≡ true)
found_in q e [] h = none_some e h
found_in q e (x ∷ xs) h = by (q x) refl h (found_in q e xs)
  where
    by : (b : Bool) → q x ≡ b → cond b (Some x) (find q xs) ≡ Some e → (find q xs ≡ Some e → IsIn e xs × (q e ≡ true)) → IsIn e (x ∷ xs) × (q e ≡ true)
    by true t h rest = (inl (same_some x e h), sym (ap q (same_some x e h)) ∙ t)
    by false t h rest = let r = rest h in (inr r.0, r.1)

last_found : (q : Pair → Bool) (e : Pair) (o : Option Pair) (xs : List Pair) → last_or o (filter q xs) ≡ Some e → (o ≡ Some e) ⊎ (IsIn e xs × (q e ≡ true))
last_found q e o [] h = inl h
last_found q e o (x ∷ xs) h = by (q x) refl h (last_found q e (Some x) xs) (last_found q e o xs)
  where
    by : (b : Bool) → q x ≡ b → last_or o (cond b (x ∷ filter q xs) (filter q xs)) ≡ Some e
        → (last_or (Some x) (filter q xs) ≡ Some e → (Some x ≡ Some e) ⊎ (IsIn e xs × (q e ≡ true)))
        → (last_or o (filter q xs) ≡ Some e → (o ≡ Some e) ⊎ (IsIn e xs × (q e ≡ true)))
        → (o ≡ Some e) ⊎ (IsIn e (x ∷ xs) × (q e ≡ true))
    by true t h with_it without = elim (with_it h) [
      | inl same ↦ inr (inl (same_some x e same), sym (ap q (same_some x e same)) ∙ t)
      | inr r ↦ inr (inr r.0, r.1)
    ]
    by false t h with_it without = elim (without h) [
      | inl same ↦ inl same
      | inr r ↦ inr (inr r.0, r.1)
    ]

pub last_in : (q : Pair → Bool) (e : Pair) (xs : List Pair) → last_or None (filter q xs) ≡ Some e → IsIn e xs × (q e ≡ true)
last_in q e xs h = elim (last_found q e None xs h) [ inl none ↦ none_some e none | inr r ↦ r ]

-- ---- fewer entries beyond the next one

no_more : {X : Type 0} (q r : X → Bool) → ((y : X) → q y ≡ true → r y ≡ true) → (xs : List X) → length (filter q xs) ≤ length (filter r xs)
no_more q r sub [] = omega arith
no_more q r sub (x ∷ xs) = by (q x) (r x) refl refl (no_more q r sub xs)
  where
    by : (b c : Bool) → q x ≡ b → r x ≡ c → length (filter q xs) ≤ length (filter r xs) → length (cond b (x ∷ filter q xs) (filter q xs)) ≤ length (cond c (x ∷ filter r xs) (filter r xs))
    by true true s t rest = omega (arith, rest)
    by true false s t rest = impossible (sym t ∙ sub x s)
    by false true s t rest = omega (arith, rest)
    by false false s t rest = rest

pub fewer : {X : Type 0} (q r : X → Bool) (e : X) → ((y : X) → q y ≡ true → r y ≡ true) → q e ≡ false → r e ≡ true → (xs : List X) → IsIn e xs → length (filter q xs) < length (filter r xs)
fewer q r e sub out within [] i = absurd i
fewer q r e sub out within (x ∷ xs) (inl same) =
    by (q x) (r x) (ap q same ∙ out) (ap r same ∙ within) (no_more q r sub xs)
  where
    by : (b c : Bool) → b ≡ false → c ≡ true → length (filter q xs) ≤ length (filter r xs) → length (cond b (x ∷ filter q xs) (filter q xs)) < length (cond c (x ∷ filter r xs) (filter r xs))
    by true c s t rest = impossible (sym s)
    by false true s t rest = omega (arith, rest)
    by false false s t rest = impossible t
fewer q r e sub out within (x ∷ xs) (inr later) = by (q x) (r x) refl refl (fewer q r e sub out within xs later)
  where
    by : (b c : Bool) → q x ≡ b → r x ≡ c → length (filter q xs) < length (filter r xs) → length (cond b (x ∷ filter q xs) (filter q xs)) < length (cond c (x ∷ filter r xs) (filter r xs))
    by true true s t rest = omega (arith, rest)
    by true false s t rest = impossible (sym t ∙ sub x s)
    by false true s t rest = omega (arith, rest)
    by false false s t rest = rest

-- ---- forwards

-- the first of some entries from one of all on: this one, where it is one of them, or else the next of them
abbrev pub shown_from : (Pair → Bool) → List Pair → Option Pair → Option Pair
shown_from p entries None = None
shown_from p entries (Some e) = cond (p e) (Some e) (entry_after (On e.0 e.1) (filter p entries))

-- how many entries there are from one on
abbrev pub left_from : List Pair → Option Pair → ℕ
left_from entries None = 0
left_from entries (Some e) = suc (length (filter (is_beyond (On e.0 e.1)) entries))

pub fewer_left : (e : Pair) (next : Option Pair) (entries : List Pair) → next ≡ entry_after (On e.0 e.1) entries → left_from entries next < left_from entries (Some e)
fewer_left e None entries h = omega arith
fewer_left e (Some next) entries h =
    let found = found_in (pair_lt e) next entries (sym h) in
    let less : length (filter (is_beyond (On next.0 next.1)) entries) < length (filter (is_beyond (On e.0 e.1)) entries) =
    fewer (pair_lt next) (pair_lt e) next (λ y above. lt_trans e next y found.1 above) (not_itself next) found.1 entries found.0 in
    omega (arith, less)

alike : (q r : Pair → Bool) (xs : List Pair) → AllByRecursion (λ y. q y ≡ r y) xs → find q xs ≡ find r xs
alike q r [] h = refl
alike q r (x ∷ xs) h = λ i. cond (h.0 i) (Some x) (alike q r xs h.1 i)

pub above_all : (place : Place) (x : Pair) (ys : List Pair) → is_beyond place x ≡ true → list_all (pair_lt x) ys ≡ true → AllByRecursion (λ y. is_beyond place y ≡ pair_lt x y) ys
above_all place x [] h low = tt
above_all place x (y ∷ ys) h low =
    let here = and_left (pair_lt x y) _ low in
    (beyond_more place x y h here ∙ sym here, above_all place x ys h (and_right (pair_lt x y) _ low))

pub shown_after : (p : Pair → Bool) (place : Place) (next : Option Pair) (entries : List Pair) → are_sorted entries ≡ true → next ≡ entry_after place entries → entry_after place (filter p entries) ≡ shown_from p entries next
shown_after p place next [] sorted h = ap (shown_from p []) (sym h)
shown_after p place next (x ∷ xs) sorted h = by (is_beyond place x) (p x) refl refl next h (shown_after p place next xs (and_right (list_all (pair_lt x) xs) _ sorted))
  where
    low : list_all (pair_lt x) xs ≡ true
    low = and_left _ _ sorted

    rest : List Pair
    rest = filter p xs

    behind : (e : Pair) → IsIn e xs → pair_lt e x ≡ false
    behind e i = not_back x e (all_in (pair_lt x) e xs low i)

    later : (c : Bool) → p x ≡ c → is_beyond place x ≡ false → (o : Option Pair) → o ≡ find (is_beyond place) xs → find (is_beyond place) rest ≡ shown_from p xs o
        → find (is_beyond place) (cond c (x ∷ rest) rest) ≡ shown_from p (x ∷ xs) o
    later true t s None h ih = ap (λ b. cond b (Some x) (find (is_beyond place) rest)) s ∙ ih
    later false t s None h ih = ih
    later true t s (Some e) h ih =
        ap (λ b. cond b (Some x) (find (is_beyond place) rest)) s ∙ ih
        ∙ ap (λ b. cond (p e) (Some e) (cond b (Some x) (find (pair_lt e) rest))) (sym (behind e (found_in (is_beyond place) e xs (sym h)).0))
        ∙ ap (λ c. cond (p e) (Some e) (find (pair_lt e) (cond c (x ∷ rest) rest))) (sym t)
    later false t s (Some e) h ih = ih ∙ ap (λ c. cond (p e) (Some e) (find (pair_lt e) (cond c (x ∷ rest) rest))) (sym t)

    here : (c : Bool) → p x ≡ c → is_beyond place x ≡ true → find (is_beyond place) (cond c (x ∷ rest) rest) ≡ cond c (Some x) (find (pair_lt x) (cond c (x ∷ rest) rest))
    here true t s = ap (λ b. cond b (Some x) (find (is_beyond place) rest)) s
    here false t s = alike (is_beyond place) (pair_lt x) rest (all_filter (λ y. is_beyond place y ≡ pair_lt x y) p xs (above_all place x xs s low))

    by : (b c : Bool) → is_beyond place x ≡ b → p x ≡ c → (o : Option Pair) → o ≡ cond b (Some x) (find (is_beyond place) xs)
        → (o ≡ find (is_beyond place) xs → find (is_beyond place) rest ≡ shown_from p xs o) → find (is_beyond place) (filter p (x ∷ xs)) ≡ shown_from p (x ∷ xs) o
    by true c s t o h ih = here (p x) refl s ∙ ap (shown_from p (x ∷ xs)) (sym h)
    by false c s t o h ih = later (p x) refl s o h (ih h)

-- ---- backwards

-- the last of some entries up to one of all: this one, where it is one of them, or else the one before it
abbrev pub shown_to : (Pair → Bool) → List Pair → Option Pair → Option Pair
shown_to p entries None = None
shown_to p entries (Some e) = cond (p e) (Some e) (entry_before (On e.0 e.1) (filter p entries))

-- how many entries there are up to one
abbrev pub left_to : List Pair → Option Pair → ℕ
left_to entries None = 0
left_to entries (Some e) = suc (length (filter (is_short_of (On e.0 e.1)) entries))

pub fewer_left_to : (e : Pair) (next : Option Pair) (entries : List Pair) → next ≡ entry_before (On e.0 e.1) entries → left_to entries next < left_to entries (Some e)
fewer_left_to e None entries h = omega arith
fewer_left_to e (Some next) entries h =
    let found = last_in (λ y. pair_lt y e) next entries (sym h) in
    let less : length (filter (is_short_of (On next.0 next.1)) entries) < length (filter (is_short_of (On e.0 e.1)) entries) =
    fewer (λ y. pair_lt y next) (λ y. pair_lt y e) next (λ y below. lt_trans y next e below found.1) (not_itself next) found.1 entries found.0 in
    omega (arith, less)

-- the one, or else the other
abbrev or_else : Option Pair → Option Pair → Option Pair
or_else None o = o
or_else (Some x) o = Some x

last_some : (x : Pair) (o : Option Pair) (xs : List Pair) → or_else (last_or (Some x) xs) o ≡ last_or (Some x) xs
last_some x o [] = refl
last_some x o (y ∷ ys) = last_some y o ys

last_of : (o : Option Pair) (xs : List Pair) → last_or o xs ≡ or_else (last_or None xs) o
last_of o [] = refl
last_of o (x ∷ xs) = sym (last_some x o xs)

none_below : (x : Pair) (ys : List Pair) → list_all (pair_lt x) ys ≡ true → AllByRecursion (λ y. pair_lt y x ≡ false) ys
none_below x [] low = tt
none_below x (y ∷ ys) low = (not_back x y (and_left (pair_lt x y) _ low), none_below x ys (and_right (pair_lt x y) _ low))

pub shown_before : (p : Pair → Bool) (place : Place) (next : Option Pair) (entries : List Pair) → are_sorted entries ≡ true → next ≡ entry_before place entries → entry_before place (filter p entries) ≡ shown_to p entries next
shown_before p place next [] sorted h = ap (shown_to p []) (sym h)
shown_before p place next (x ∷ xs) sorted h =
    by (last_or None (filter S xs)) refl (λ o e. shown_before p place o xs (and_right (list_all (pair_lt x) xs) _ sorted) e)
    ∙ ap (shown_to p (x ∷ xs)) (sym (h ∙ stepped (S x)))
  where
    S : Pair → Bool
    S = is_short_of place

    low : list_all (pair_lt x) xs ≡ true
    low = and_left _ _ sorted

    rest : List Pair
    rest = filter p xs

    alone : Bool → Option Pair
    alone b = cond b (Some x) None

    stepped : (b : Bool) → last_or None (cond b (x ∷ filter S xs) (filter S xs)) ≡ or_else (last_or None (filter S xs)) (alone b)
    stepped true = last_of (Some x) (filter S xs)
    stepped false = plain (last_or None (filter S xs))
      where
        plain : (o : Option Pair) → o ≡ or_else o None
        plain None = refl
        plain (Some y) = refl

    -- the last of the shown ones that pass a test, with x among them or not
    split : (q : Pair → Bool) (c d : Bool) → p x ≡ c → q x ≡ d → last_or None (filter q (filter p (x ∷ xs))) ≡ or_else (last_or None (filter q rest)) (cond c (alone d) None)
    split q true d t s = ap (λ c. last_or None (filter q (cond c (x ∷ rest) rest))) t ∙ ap (λ d. last_or None (cond d (x ∷ filter q rest) (filter q rest))) s ∙ with_x d
      where
        with_x : (d : Bool) → last_or None (cond d (x ∷ filter q rest) (filter q rest)) ≡ or_else (last_or None (filter q rest)) (alone d)
        with_x true = last_of (Some x) (filter q rest)
        with_x false = plain (last_or None (filter q rest))
          where
            plain : (o : Option Pair) → o ≡ or_else o None
            plain None = refl
            plain (Some y) = refl
    split q false d t s = ap (λ c. last_or None (filter q (cond c (x ∷ rest) rest))) t ∙ plain (last_or None (filter q rest))
      where
        plain : (o : Option Pair) → o ≡ or_else o None
        plain None = refl
        plain (Some y) = refl

    -- the last of all lies behind x
    behind : (e : Pair) → last_or None (filter S xs) ≡ Some e → last_or None (filter S rest) ≡ shown_to p xs (Some e)
        → last_or None (filter S (filter p (x ∷ xs))) ≡ shown_to p (x ∷ xs) (Some e)
    behind e f ih =
        let there = last_in S e xs f in
        let above = all_in (pair_lt x) e xs low there.0 in
        split S (p x) true refl (short_more place x e there.1 above)
        ∙ ap (λ o. or_else o (cond (p x) (Some x) None)) ih
        ∙ kept (p e)
        ∙ ap (λ o. cond (p e) (Some e) o) (sym (split (λ y. pair_lt y e) (p x) true refl above))
      where
        kept : (b : Bool) → or_else (cond b (Some e) (last_or None (filter (λ y. pair_lt y e) rest))) (cond (p x) (Some x) None) ≡ cond b (Some e) (or_else (last_or None (filter (λ y. pair_lt y e) rest)) (cond (p x) (Some x) None))
        kept true = refl
        kept false = refl

    -- x is the last of all, or none is
    at_x : (b c : Bool) → S x ≡ b → p x ≡ c → last_or None (filter S rest) ≡ None → last_or None (filter S (filter p (x ∷ xs))) ≡ shown_to p (x ∷ xs) (alone b)
    at_x true true s t none = split S true true t s ∙ ap (λ o. or_else o (Some x)) none ∙ ap (λ c. cond c (Some x) (entry_before (On x.0 x.1) (filter p (x ∷ xs)))) (sym t)
    at_x true false s t none =
        split S false true t s ∙ ap (λ o. or_else o None) none
        ∙ sym (ap (λ ys. or_else (last_or None ys) None) (filter_none (λ y. pair_lt y x) rest (all_filter (λ y. pair_lt y x ≡ false) p xs (none_below x xs low))))
        ∙ sym (split (λ y. pair_lt y x) false (pair_lt x x) t refl)
        ∙ ap (λ c. cond c (Some x) (entry_before (On x.0 x.1) (filter p (x ∷ xs)))) (sym t)
    at_x false c s t none = split S c false t s ∙ ap (λ o. or_else o (cond c None None)) none ∙ nothing c
      where
        nothing : (c : Bool) → or_else None (cond c None None) ≡ None
        nothing true = refl
        nothing false = refl

    by : (o : Option Pair) → last_or None (filter S xs) ≡ o → ((o : Option Pair) → o ≡ last_or None (filter S xs) → last_or None (filter S rest) ≡ shown_to p xs o)
        → last_or None (filter S (filter p (x ∷ xs))) ≡ shown_to p (x ∷ xs) (or_else (last_or None (filter S xs)) (alone (S x)))
    by (Some e) f ih = behind e f (ih (Some e) (sym f)) ∙ ap (λ o. shown_to p (x ∷ xs) (or_else o (alone (S x)))) (sym f)
    by None f ih = at_x (S x) (p x) refl refl (ih None (sym f)) ∙ ap (λ o. shown_to p (x ∷ xs) (or_else o (alone (S x)))) (sym f)
