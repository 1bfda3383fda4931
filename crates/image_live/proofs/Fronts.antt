-- A test of lists that goes by their fronts: with one more behind it passes where it did, and the one more does beside the front.
use Rattle.std.proofs.Common.{◌≡◌, ℕ, zero, suc, ◌+◌, ◌<◌, ◌≤◌, Bool, true, false, ◌&&◌, List, [], ◌∷◌, ◌++◌, length, Some, map, take, drop, refl, sym, ap, subst, ◌∙◌, arith}
use Rattle.std.specs.Prelude.{slice_get}
use Rattle.common_lemmas.proofs.Options.{none_some, same_some}

pub record GoesByFronts {X : Type 0} (test : List X → Bool) (more : List X → X → Bool) : Type 0 where
  pub begins : test [] ≡ true
  pub goes : (front : List X) (x : X) → test (front ++ x ∷ []) ≡ (test front && more front x)

-- ---- fronts

pub next_place : (place : ℕ) → suc place ≡ place + 1
next_place place = omega arith

pub take_more : {X : Type 0} (xs : List X) (i : ℕ) (x : X) → slice_get xs i ≡ Some x → take (suc i) xs ≡ take i xs ++ x ∷ []
take_more [] i x is = none_some x is
take_more (y ∷ xs) zero x is = ap (λ z. z ∷ []) (same_some y x is)
take_more (y ∷ xs) (suc i) x is = ap (λ l. y ∷ l) (take_more xs i x is)

whole : {X : Type 0} (i : ℕ) (xs : List X) → length xs ≤ i → take i xs ≡ xs
whole zero [] le = refl
whole (suc i) [] le = refl
whole zero (x ∷ xs) le = absurd (omega (arith, le))
whole (suc i) (x ∷ xs) le = ap (λ l. x ∷ l) (whole i xs (omega (arith, le)))

parted : {X : Type 0} (i : ℕ) (xs : List X) → take i xs ++ drop i xs ≡ xs
parted zero xs = refl
parted (suc i) [] = refl
parted (suc i) (x ∷ xs) = ap (λ l. x ∷ l) (parted i xs)

nothing_behind : {X : Type 0} (xs : List X) → xs ++ [] ≡ xs
nothing_behind [] = refl
nothing_behind (x ∷ xs) = ap (λ l. x ∷ l) (nothing_behind xs)

one_by_one : {X : Type 0} (front : List X) (x : X) (rest : List X) → (front ++ x ∷ []) ++ rest ≡ front ++ x ∷ rest
one_by_one [] x rest = refl
one_by_one (y ∷ front) x rest = ap (λ l. y ∷ l) (one_by_one front x rest)

-- ---- the test along a list

stays_false : {X : Type 0} (test : List X → Bool) (more : List X → X → Bool) → GoesByFronts test more → (front rest : List X) → test front ≡ false → test (front ++ rest) ≡ false
stays_false test more by front [] is = ap test (nothing_behind front) ∙ is
stays_false test more by front (x ∷ rest) is =
    sym (ap test (one_by_one front x rest)) ∙ stays_false test more by (front ++ x ∷ []) rest (by.goes front x ∙ ap (λ b. b && more front x) is)

with_next : {X : Type 0} (test : List X → Bool) (more : List X → X → Bool) → GoesByFronts test more → (xs : List X) (i : ℕ) (x : X) → slice_get xs i ≡ Some x → test (take i xs) ≡ true → test (take (suc i) xs) ≡ more (take i xs) x
with_next test more by xs i x is so_far = ap test (take_more xs i x is) ∙ by.goes (take i xs) x ∙ ap (λ b. b && more (take i xs) x) so_far

pub front_goes : {X : Type 0} (test : List X → Bool) (more : List X → X → Bool) → GoesByFronts test more → (xs : List X) (i : ℕ) (x : X) → slice_get xs i ≡ Some x → more (take i xs) x ≡ true → test (take i xs) ≡ true → test (take (i + 1) xs) ≡ true
front_goes test more by xs i x is passes so_far = subst (λ (n : ℕ). test (take n xs) ≡ true) (next_place i) (with_next test more by xs i x is so_far ∙ passes)

pub front_fails : {X : Type 0} (test : List X → Bool) (more : List X → X → Bool) → GoesByFronts test more → (xs : List X) (i : ℕ) (x : X) → slice_get xs i ≡ Some x → more (take i xs) x ≡ false → test (take i xs) ≡ true → false ≡ test xs
front_fails test more by xs i x is refused so_far =
    sym (stays_false test more by (take (suc i) xs) (drop (suc i) xs) (with_next test more by xs i x is so_far ∙ refused)) ∙ ap test (parted (suc i) xs)

pub front_done : {X : Type 0} (test : List X → Bool) (xs : List X) (i : ℕ) → length xs ≤ i → test (take i xs) ≡ true → true ≡ test xs
front_done test xs i le so_far = sym so_far ∙ ap test (whole i xs le)

-- ---- places

-- what stands at a place
pub record At {X : Type 0} (xs : List X) (i : ℕ) : Type 0 where
  pub item : X
  pub is_at : slice_get xs i ≡ Some item

pub stands_at : {X : Type 0} (xs : List X) (i : ℕ) → i < length xs → At xs i
stands_at [] i lt = absurd (omega (arith, lt))
stands_at (x ∷ xs) zero lt = record { item = x; is_at = refl }
stands_at (x ∷ xs) (suc i) lt = let rest : At xs i = stands_at xs i (omega (arith, lt)) in record { item = rest.item; is_at = rest.is_at }

pub at_map : {X Y : Type 0} (f : X → Y) (xs : List X) (i : ℕ) (x : X) (y : Y) → slice_get xs i ≡ Some x → slice_get (map f xs) i ≡ Some y → y ≡ f x
at_map f [] i x y is told = none_some x is
at_map f (z ∷ xs) zero x y is told = same_some y (f z) (sym told) ∙ ap f (same_some z x is)
at_map f (z ∷ xs) (suc i) x y is told = at_map f xs i x y is told

-- ---- places in a front

pub in_front : {X : Type 0} (n : ℕ) (xs : List X) (i : ℕ) (x : X) → i < n → slice_get xs i ≡ Some x → slice_get (take n xs) i ≡ Some x
in_front zero xs i x lt is = absurd (omega (arith, lt))
in_front (suc n) [] i x lt is = none_some x is
in_front (suc n) (y ∷ xs) zero x lt is = is
in_front (suc n) (y ∷ xs) (suc i) x lt is = in_front n xs i x (omega (arith, lt)) is

pub of_front : {X : Type 0} (n : ℕ) (xs : List X) (i : ℕ) (x : X) → slice_get (take n xs) i ≡ Some x → slice_get xs i ≡ Some x
of_front zero xs i x is = none_some x is
of_front (suc n) [] i x is = none_some x is
of_front (suc n) (y ∷ xs) zero x is = is
of_front (suc n) (y ∷ xs) (suc i) x is = of_front n xs i x is

pub below_end : {X : Type 0} (n : ℕ) (xs : List X) (i : ℕ) (x : X) → slice_get (take n xs) i ≡ Some x → i < n
below_end zero xs i x is = none_some x is
below_end (suc n) [] i x is = none_some x is
below_end (suc n) (y ∷ xs) zero x is = omega arith
below_end (suc n) (y ∷ xs) (suc i) x is = let rest : i < n = below_end n xs i x is in omega (arith, rest)
