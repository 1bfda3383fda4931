-- What is so of each two of a list.
use Rattle.std.proofs.Common.{◌≡◌, ℕ, zero, suc, ◌<◌, Bool, true, false, ◌&&◌, List, [], ◌∷◌, ◌++◌, Some, refl, sym, ap, ◌∙◌, arith}
use Rattle.std.specs.Prelude.{slice_get}
use Rattle.std.specs.List.{list_all}
use Rattle.common_lemmas.proofs.Booleans.{and_false, and_left, and_right}
use Rattle.common_lemmas.proofs.Options.{none_some, same_some}
use Rattle.image_live.proofs.Fronts.{GoesByFronts}
use Rattle.image_live.specs.Orders.{all_pairs}

-- ---- one by one

pub all_at : {X : Type 0} (p : X → Bool) (xs : List X) (i : ℕ) (x : X) → list_all p xs ≡ true → slice_get xs i ≡ Some x → p x ≡ true
all_at p [] i x all is = none_some x is
all_at p (y ∷ xs) zero x all is = sym (ap p (same_some y x is)) ∙ and_left (p y) (list_all p xs) all
all_at p (y ∷ xs) (suc i) x all is = all_at p xs i x (and_right (p y) (list_all p xs) all) is

pub all_by : {X : Type 0} (p : X → Bool) (xs : List X) → ((i : ℕ) (x : X) → slice_get xs i ≡ Some x → p x ≡ true) → list_all p xs ≡ true
all_by p [] each = refl
all_by p (y ∷ xs) each = ap (λ b. b && list_all p xs) (each 0 y refl) ∙ all_by p xs (λ i x is. each (suc i) x is)

pub all_fails : {X : Type 0} (p : X → Bool) (xs : List X) (i : ℕ) (x : X) → slice_get xs i ≡ Some x → p x ≡ false → list_all p xs ≡ false
all_fails p [] i x is refused = none_some x is
all_fails p (y ∷ xs) zero x is refused = ap (λ b. b && list_all p xs) (ap p (same_some y x is) ∙ refused)
all_fails p (y ∷ xs) (suc i) x is refused = ap (λ b. p y && b) (all_fails p xs i x is refused) ∙ and_false (p y)

-- ---- two by two

pub and_true : (a : Bool) → (a && true) ≡ a
and_true true = refl
and_true false = refl

pub and_assoc : (a b c : Bool) → (a && (b && c)) ≡ ((a && b) && c)
and_assoc true b c = refl
and_assoc false b c = refl

pub swapped : (a b c d : Bool) → ((a && b) && (c && d)) ≡ ((a && c) && (b && d))
swapped false b c d = refl
swapped true true c d = refl
swapped true false true d = refl
swapped true false false d = refl

all_one_more : {X : Type 0} (p : X → Bool) (xs : List X) (y : X) → list_all p (xs ++ y ∷ []) ≡ (list_all p xs && p y)
all_one_more p [] y = and_true (p y)
all_one_more p (x ∷ xs) y = ap (λ b. p x && b) (all_one_more p xs y) ∙ and_assoc (p x) (list_all p xs) (p y)

pairs_one_more : {X : Type 0} (r : X → X → Bool) (xs : List X) (y : X) → all_pairs r (xs ++ y ∷ []) ≡ (all_pairs r xs && list_all (λ (x : X). r x y) xs)
pairs_one_more r [] y = refl
pairs_one_more {X} r (x ∷ xs) y =
    ap (λ b. b && all_pairs r (xs ++ y ∷ [])) (all_one_more (r x) xs y)
    ∙ ap (λ b. (list_all (r x) xs && r x y) && b) (pairs_one_more r xs y)
    ∙ swapped (list_all (r x) xs) (r x y) (all_pairs r xs) (list_all (λ (z : X). r z y) xs)

pub pairs_go : {X : Type 0} (r : X → X → Bool) → GoesByFronts (all_pairs r) (λ (front : List X) (y : X). list_all (λ (x : X). r x y) front)
pairs_go r = record { begins = refl; goes = pairs_one_more r }

pub pairs_at : {X : Type 0} (r : X → X → Bool) (xs : List X) (i j : ℕ) (x y : X) → all_pairs r xs ≡ true → i < j → slice_get xs i ≡ Some x → slice_get xs j ≡ Some y → r x y ≡ true
pairs_at r [] i j x y all lt at_i at_j = none_some x at_i
pairs_at r (z ∷ xs) i zero x y all lt at_i at_j = absurd (omega (arith, lt))
pairs_at r (z ∷ xs) zero (suc j) x y all lt at_i at_j = sym (ap (λ w. r w y) (same_some z x at_i)) ∙ all_at (r z) xs j y (and_left (list_all (r z) xs) (all_pairs r xs) all) at_j
pairs_at r (z ∷ xs) (suc i) (suc j) x y all lt at_i at_j = pairs_at r xs i j x y (and_right (list_all (r z) xs) (all_pairs r xs) all) (omega (arith, lt)) at_i at_j
