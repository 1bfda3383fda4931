-- Lists in order, each element once: what is not below an element, and what comes after one.
use Rattle.std.proofs.Common.{◌≡◌, Bool, true, false, not, ◌&&◌, cond, List, [], ◌∷◌, filter, find, Option, Some, None, refl, sym, ap, ◌∙◌}
use Rattle.std.specs.List.{last_or}
use Rattle.common_lemmas.proofs.Booleans.{and_false, by_test}

pub record IsStrict {X : Type 0} (lt : X → X → Bool) : Type 0 where
  pub trans : (x y z : X) → lt x y ≡ true → lt y z ≡ true → lt x z ≡ true
  pub asym : (x y : X) → lt x y ≡ true → lt y x ≡ false
  pub irrefl : (x : X) → lt x x ≡ false
  pub from_not : (x y z : X) → lt x y ≡ false → lt x z ≡ true → lt y z ≡ true

-- the test answers b at each element
abbrev pub Always : {X : Type 0} → (X → Bool) → Bool → List X → Type 0
Always p b [] = Unit {0}
Always p b (x ∷ xs) = (p x ≡ b) × Always p b xs

abbrev pub InOrder : {X : Type 0} → (X → X → Bool) → List X → Type 0
InOrder lt [] = Unit {0}
InOrder lt (x ∷ xs) = Always (lt x) true xs × InOrder lt xs

always : {X : Type 0} (p q : X → Bool) (b c : Bool) → ((y : X) → p y ≡ b → q y ≡ c) → (xs : List X) → Always p b xs → Always q c xs
always p q b c f [] h = tt
always p q b c f (x ∷ xs) h = (f x h.0, always p q b c f xs h.1)

filter_none : {X : Type 0} (p : X → Bool) (xs : List X) → Always p false xs → filter p xs ≡ []
filter_none p [] h = refl
filter_none p (x ∷ xs) h = ap (λ b. cond b (x ∷ filter p xs) (filter p xs)) h.0 ∙ filter_none p xs h.1

-- two tests that answer alike where a third passes
filter_alike : {X : Type 0} (p q r : X → Bool) (b : Bool) → ((y : X) → r y ≡ b → p y ≡ q y) → (xs : List X) → Always r b xs → filter p xs ≡ filter q xs
filter_alike p q r b f [] h = refl
filter_alike p q r b f (x ∷ xs) h =
    ap (λ t. cond t (x ∷ filter p xs) (filter p xs)) (f x h.0) ∙ ap (λ ys. cond (q x) (x ∷ ys) ys) (filter_alike p q r b f xs h.1)

-- what is found passes a test that all elements pass
found_passes : {X : Type 0} (p q : X → Bool) (b : Bool) (xs : List X) (e : X) → Always q b xs → find p xs ≡ Some e → q e ≡ b
found_passes p q b [] e h f = absurd cc
found_passes p q b (x ∷ xs) e h f =
    by_test (p x)
    (λ t. let same : x ≡ e = cc in (λ i. q (sym same i)) ∙ h.0)
    (λ t. found_passes p q b xs e h.1 (rw t at f))

-- ---- the first element that passes a test, and those after it

-- an element and those above it, as far as a test holds
abbrev pub from_found : {X : Type 0} → (X → X → Bool) → (X → Bool) → Option X → List X → List X
from_found lt q None xs = []
from_found lt q (Some e) xs = cond (q e) (e ∷ filter (λ x. lt e x && q x) xs) []

of_tail : {X : Type 0} (lt : X → X → Bool) (s : IsStrict lt) (q u : X → Bool) (x : X) (xs : List X) → Always (lt x) true xs → (r : Option X) → find u xs ≡ r
    → from_found lt q r (x ∷ xs) ≡ from_found lt q r xs
of_tail lt s q u x xs k None e = refl
of_tail lt s q u x xs k (Some n) e =
    ap (λ b. cond (q n) (n ∷ cond (b && q x) (x ∷ filter (λ y. lt n y && q y) xs) (filter (λ y. lt n y && q y) xs)) [])
    (s.asym x n (found_passes u (lt x) true xs n k e))

pub first_and_after : {X : Type 0} (lt : X → X → Bool) (s : IsStrict lt) (u q : X → Bool) → ((x y : X) → lt x y ≡ true → u x ≡ true → u y ≡ true)
    → ((x y : X) → lt x y ≡ true → q x ≡ false → q y ≡ false) → (xs : List X) → InOrder lt xs
    → filter (λ x. u x && q x) xs ≡ from_found lt q (find u xs) xs
first_and_after lt s u q rises falls [] k = refl
first_and_after lt s u q rises falls (x ∷ xs) k =
    by_test (u x)
    (λ t.
    let first : find u (x ∷ xs) ≡ Some x = ap (λ b. cond b (Some x) (find u xs)) t in
    here t ∙ sym (ap (λ r. from_found lt q r (x ∷ xs)) first))
    (λ t.
    let later : find u (x ∷ xs) ≡ find u xs = ap (λ b. cond b (Some x) (find u xs)) t in
    ap (λ b. cond (b && q x) (x ∷ filter (λ y. u y && q y) xs) (filter (λ y. u y && q y) xs)) t
    ∙ first_and_after lt s u q rises falls xs k.1
    ∙ sym (of_tail lt s q u x xs k.0 (find u xs) refl)
    ∙ sym (ap (λ r. from_found lt q r (x ∷ xs)) later))
  where
    above : u x ≡ true → filter (λ y. u y && q y) xs ≡ filter (λ y. lt x y && q y) xs
    above t = filter_alike (λ y. u y && q y) (λ y. lt x y && q y) (lt x) true (λ y h. ap (λ b. b && q y) (rises x y h t ∙ sym h)) xs k.0

    none : q x ≡ false → filter (λ y. u y && q y) xs ≡ []
    none v = filter_none (λ y. u y && q y) xs (always (lt x) (λ y. u y && q y) true false (λ y h. ap (λ b. u y && b) (falls x y h v) ∙ and_false (u y)) xs k.0)

    here : u x ≡ true → filter (λ y. u y && q y) (x ∷ xs) ≡ from_found lt q (Some x) (x ∷ xs)
    here t =
        ap (λ b. cond (b && q x) (x ∷ filter (λ y. u y && q y) xs) (filter (λ y. u y && q y) xs)) t
        ∙ by_test (q x)
        (λ v.
        ap (λ b. cond b (x ∷ filter (λ y. u y && q y) xs) (filter (λ y. u y && q y) xs)) v
        ∙ ap (λ ys. x ∷ ys) (above t)
        ∙ sym (ap (λ b. cond (q x) (x ∷ cond (b && q x) (x ∷ filter (λ y. lt x y && q y) xs) (filter (λ y. lt x y && q y) xs)) []) (s.irrefl x)
        ∙ ap (λ b. cond b (x ∷ filter (λ y. lt x y && q y) xs) []) v))
        (λ v.
        ap (λ b. cond b (x ∷ filter (λ y. u y && q y) xs) (filter (λ y. u y && q y) xs)) v
        ∙ none v
        ∙ sym (ap (λ b. cond b (x ∷ filter (λ y. lt x y && q y) (x ∷ xs)) []) v))

-- ---- the elements that are not below f, by the last one that is

abbrev pub is_above : {X : Type 0} → (X → X → Bool) → Option X → X → Bool
is_above lt None x = true
is_above lt (Some p) x = lt p x

-- the last element of a list with a first
abbrev final : {X : Type 0} → X → List X → X
final q [] = q
final q (y ∷ ys) = final y ys

last_is : {X : Type 0} (q : X) (ys : List X) → last_or (Some q) ys ≡ Some (final q ys)
last_is q [] = refl
last_is q (y ∷ ys) = last_is y ys

final_passes : {X : Type 0} (p : X → Bool) (b : Bool) (q : X) (ys : List X) → p q ≡ b → Always p b ys → p (final q ys) ≡ b
final_passes p b q [] e h = e
final_passes p b q (y ∷ ys) e h = final_passes p b y ys h.0 h.1

always_filter : {X : Type 0} (p t : X → Bool) (b : Bool) (xs : List X) → Always p b xs → Always p b (filter t xs)
always_filter p t b [] h = tt
always_filter p t b (x ∷ xs) h =
    by_test (t x)
    (λ u. rw u (h.0, always_filter p t b xs h.1))
    (λ u. rw u (always_filter p t b xs h.1))

pub not_below : {X : Type 0} (lt : X → X → Bool) (s : IsStrict lt) (f : X) (q : X → Bool) (o : Option X) (xs : List X) → Always (is_above lt o) true xs → InOrder lt xs
    → filter (λ x. is_above lt (last_or o (filter (λ y. lt y f) xs)) x && q x) xs ≡ filter (λ x. not (lt x f) && q x) xs
not_below lt s f q o [] h k = refl
not_below {X = X} lt s f q o (x ∷ xs) h k =
    by_test (lt x f)
    (λ t.
    let last : last_or o (filter (λ y. lt y f) (x ∷ xs)) ≡ Some (final x r) = ap (λ b. last_or o (cond b (x ∷ r) r)) t ∙ last_is x r in
    let later : Kept (Some (final x r)) xs ≡ Left xs = ap (λ z. Kept z xs) (sym (last_is x r)) ∙ not_below lt s f q (Some x) xs (always (lt x) (is_above lt (Some x)) true true (λ y u. u) xs k.0) k.1 in
    ap (λ z. Kept z (x ∷ xs)) last
    ∙ ap (λ b. cond (b && q x) (x ∷ Kept (Some (final x r)) xs) (Kept (Some (final x r)) xs)) low
    ∙ later
    ∙ sym (ap (λ b. cond (not b && q x) (x ∷ Left xs) (Left xs)) t))
    (λ t.
    let follow : Always (λ y. lt y f) false xs = always (lt x) (λ y. lt y f) true false (λ y u. s.asym f y (s.from_not x f y t u)) xs k.0 in
    let last : last_or o (filter (λ y. lt y f) (x ∷ xs)) ≡ o = ap (λ b. last_or o (cond b (x ∷ r) r)) t ∙ ap (last_or o) (filter_none (λ y. lt y f) xs follow) in
    ap (λ z. Kept z (x ∷ xs)) last
    ∙ filter_alike (λ y. is_above lt o y && q y) q (is_above lt o) true (λ y u. ap (λ b. b && q y) u) (x ∷ xs) h
    ∙ sym (filter_alike (λ y. not (lt y f) && q y) q (λ y. lt y f) false (λ y u. ap (λ b. not b && q y) u) (x ∷ xs) (t, follow)))
  where
    r : List X
    r = filter (λ y. lt y f) xs

    Kept : Option X → List X → List X
    Kept z ys = filter (λ y. is_above lt z y && q y) ys

    Left : List X → List X
    Left ys = filter (λ y. not (lt y f) && q y) ys

    low : lt (final x r) x ≡ false
    low = final_passes (λ y. lt y x) false x r (s.irrefl x)
        (always_filter (λ y. lt y x) (λ y. lt y f) false xs (always (lt x) (λ y. lt y x) true false (λ y u. s.asym x y u) xs k.0))
