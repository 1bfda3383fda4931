-- Sums, orders and facts of each element after an edit of a list.
use Rattle.std.proofs.Common.{◌≡◌, ℕ, zero, suc, ◌+◌, ◌<◌, ◌≤◌, inl, inr, List, [], ◌∷◌, length, take, drop, get_or, set, refl, sym, ap, ◌∙◌, arith, add-one}
use Rattle.std.specs.Prelude.{sum_by, insert, remove, All, AllPairs}
use Rattle.std.proofs.lemmas.List.{length-set, length-take, length-drop, get_or-take, get_or-drop, get_or-set_same, get_or-set_other}
use Rattle.std.proofs.lemmas.List.Sums.{sum_by-cons}
use Rattle.std.proofs.lemmas.List.Edits.{length-insert, get_or-insert_below, get_or-insert_at, get_or-insert_above}
use Rattle.std.proofs.lemmas.List.Elements.{All-append, All-cons, All-take, All-drop}
use Rattle.std.proofs.lemmas.Bool.{cases_lt, cases_eq}

-- the sum before a place behind the one where y was put in
pub sum-take-insert : {X : Type 0} (f : X → ℕ) (xs : List X) (i k : ℕ) (y : X) → i ≤ k → sum_by f (take (suc k) (insert xs i y)) ≡ sum_by f (take k xs) + f y
sum-take-insert f xs zero k y h = omega (arith, sum_by-cons f y (take k xs))
sum-take-insert f [] (suc i) zero y h = absurd (omega arith)
sum-take-insert f [] (suc i) (suc k) y h = omega (arith, sum_by-cons f y [])
sum-take-insert f (x ∷ xs) (suc i) zero y h = absurd (omega arith)
sum-take-insert f (x ∷ xs) (suc i) (suc k) y h =
    omega (arith, sum-take-insert f xs i k y (omega arith), sum_by-cons f x (take (suc k) (insert xs i y)), sum_by-cons f x (take k xs))

-- the places before it
pub take-insert : {X : Type 0} (xs : List X) (i k : ℕ) (y : X) → k ≤ i → k ≤ length xs → take k (insert xs i y) ≡ take k xs
take-insert xs i zero y h l = refl
take-insert [] i (suc k) y h l = absurd (omega arith)
take-insert (x ∷ xs) zero (suc k) y h l = absurd (omega arith)
take-insert (x ∷ xs) (suc i) (suc k) y h l = ap (λ r. x ∷ r) (take-insert xs i k y (omega arith) (omega arith))

pub sum-insert : {X : Type 0} (f : X → ℕ) (xs : List X) (i : ℕ) (y : X) → sum_by f (insert xs i y) ≡ sum_by f xs + f y
sum-insert f xs zero y = omega (arith, sum_by-cons f y xs)
sum-insert f [] (suc i) y = omega (arith, sum_by-cons f y [])
sum-insert f (x ∷ xs) (suc i) y = omega (arith, sum-insert f xs i y, sum_by-cons f x (insert xs i y), sum_by-cons f x xs)

-- the sums after a remove
pub sum-take-remove : {X : Type 0} (f : X → ℕ) (xs : List X) (i k : ℕ) (d : X) → i ≤ k → i < length xs → sum_by f (take k (remove xs i)) + f (get_or xs i d) ≡ sum_by f (take (suc k) xs)
sum-take-remove f [] i k d h l = absurd (omega arith)
sum-take-remove f (x ∷ xs) zero k d h l = omega (arith, sum_by-cons f x (take k xs))
sum-take-remove f (x ∷ xs) (suc i) zero d h l = absurd (omega arith)
sum-take-remove f (x ∷ xs) (suc i) (suc k) d h l =
    omega (arith, sum-take-remove f xs i k d (omega arith) (omega arith), sum_by-cons f x (take k (remove xs i)), sum_by-cons f x (take (suc k) xs))

nil-remove : {X : Type 0} (i : ℕ) → remove {X = X} [] i ≡ []
nil-remove zero = refl
nil-remove (suc i) = refl

pub take-remove : {X : Type 0} (xs : List X) (i k : ℕ) → k ≤ i → take k (remove xs i) ≡ take k xs
take-remove xs i zero h = refl
take-remove {X} [] i (suc k) h = ap (take (suc k)) (nil-remove {X = X} i)
take-remove (x ∷ xs) zero (suc k) h = absurd (omega arith)
take-remove (x ∷ xs) (suc i) (suc k) h = ap (λ r. x ∷ r) (take-remove xs i k (omega arith))

pub sum-remove : {X : Type 0} (f : X → ℕ) (xs : List X) (i : ℕ) (d : X) → i < length xs → sum_by f (remove xs i) + f (get_or xs i d) ≡ sum_by f xs
sum-remove f [] i d l = absurd (omega arith)
sum-remove f (x ∷ xs) zero d l = omega (arith, sum_by-cons f x xs)
sum-remove f (x ∷ xs) (suc i) d l = omega (arith, sum-remove f xs i d (omega arith), sum_by-cons f x (remove xs i), sum_by-cons f x xs)

-- the sums after a write
pub sum-set : {X : Type 0} (f : X → ℕ) (xs : List X) (i : ℕ) (y d : X) → i < length xs → sum_by f (set xs i y) + f (get_or xs i d) ≡ sum_by f xs + f y
sum-set f [] i y d l = absurd (omega arith)
sum-set f (x ∷ xs) zero y d l = omega (arith, sum_by-cons f x xs, sum_by-cons f y xs)
sum-set f (x ∷ xs) (suc i) y d l = omega (arith, sum-set f xs i y d (omega arith), sum_by-cons f x (set xs i y), sum_by-cons f x xs)

pub sum-take-set : {X : Type 0} (f : X → ℕ) (xs : List X) (i k : ℕ) (y d : X) → i < k → i < length xs → sum_by f (take k (set xs i y)) + f (get_or xs i d) ≡ sum_by f (take k xs) + f y
sum-take-set f xs i zero y d h l = absurd (omega arith)
sum-take-set f [] i (suc k) y d h l = absurd (omega arith)
sum-take-set f (x ∷ xs) zero (suc k) y d h l = omega (arith, sum_by-cons f x (take k xs), sum_by-cons f y (take k xs))
sum-take-set f (x ∷ xs) (suc i) (suc k) y d h l = omega (arith, sum-take-set f xs i k y d (omega arith) (omega arith), sum_by-cons f x (take k (set xs i y)), sum_by-cons f x (take k xs))

pub All-insert : {X : Type 0} (P : X → Type 0) (xs : List X) (i : ℕ) (y : X) → P y → All P xs → All P (insert xs i y)
All-insert P xs i y p all = All-append P (take i xs) (y ∷ drop i xs) (All-take P i xs all) (All-cons P y (drop i xs) p (All-drop P i xs all))

pub All-remove : {X : Type 0} (P : X → Type 0) (xs : List X) (i : ℕ) → All P xs → All P (remove xs i)
All-remove P xs i all = All-append P (take i xs) (drop (suc i) xs) (All-take P i xs all) (All-drop P (suc i) xs all)

-- each earlier element is related to each later one, also after an element was put between
pub AllPairs-insert : {X : Type 0} (R : X → X → Type 0) (xs : List X) (i : ℕ) (y : X) → i ≤ length xs → AllPairs R xs → ((k : ℕ) (d : X) → k < i → R (get_or xs k d) y) → ((k : ℕ) (d : X) → i ≤ k → k < length xs → R y (get_or xs k d)) → AllPairs R (insert xs i y)
AllPairs-insert {X} R xs i y within pairs below above a zero d lt small = absurd (omega arith)
AllPairs-insert {X} R xs i y within pairs below above a (suc b) d lt small =
    let count = length-insert xs i y within in
    elim (cases_lt (suc b) i) [
      | inl before ↦
          rw (get_or-insert_below xs i y d a (omega arith) within, get_or-insert_below xs i y d (suc b) before within) (pairs a (suc b) d lt (omega arith))
      | inr after ↦ elim (cases_eq (suc b) i) [
        | inl at ↦
            let here : get_or (insert xs i y) (suc b) d ≡ y = ap (λ k. get_or (insert xs i y) k d) at ∙ get_or-insert_at xs i y d within in
            rw (get_or-insert_below xs i y d a (omega arith) within, here) (below a d (omega arith))
        | inr other ↦
            let later : get_or (insert xs i y) (suc b) d ≡ get_or xs b d = ap (λ k. get_or (insert xs i y) k d) (sym (add-one b)) ∙ get_or-insert_above xs i y d b (omega arith) within in
            rw later (first a lt (omega arith) (omega arith))
      ]
    ]
  where
    first : (a : ℕ) → a < suc b → i ≤ b → b < length xs → R (get_or (insert xs i y) a d) (get_or xs b d)
    first a lt from low = elim (cases_lt a i) [
      | inl before ↦ rw (get_or-insert_below xs i y d a before within) (pairs a b d (omega arith) low)
      | inr after ↦ elim (cases_eq a i) [
        | inl at ↦
            let here : get_or (insert xs i y) a d ≡ y = ap (λ k. get_or (insert xs i y) k d) at ∙ get_or-insert_at xs i y d within in
            rw here (above b d from low)
        | inr other ↦ later a lt (omega arith)
      ]
    ]
      where
        later : (a : ℕ) → a < suc b → i < a → R (get_or (insert xs i y) a d) (get_or xs b d)
        later zero lt past = absurd (omega arith)
        later (suc a) lt past =
            let there : get_or (insert xs i y) (suc a) d ≡ get_or xs a d = ap (λ k. get_or (insert xs i y) k d) (sym (add-one a)) ∙ get_or-insert_above xs i y d a (omega arith) within in
            rw there (pairs a b d (omega arith) low)

-- what each element keeps, where one is written over by another with the same answer
pub get_or-set_keeps : {X Y : Type 0} (f : X → Y) (xs : List X) (i k : ℕ) (y d : X) → i < length xs → f y ≡ f (get_or xs i d) → f (get_or (set xs i y) k d) ≡ f (get_or xs k d)
get_or-set_keeps f xs i k y d h same = elim (cases_eq k i) [
  | inl at ↦ ap (λ j. f (get_or (set xs i y) j d)) at ∙ ap f (get_or-set_same xs i y d h) ∙ same ∙ ap (λ j. f (get_or xs j d)) (sym at)
  | inr other ↦ ap f (get_or-set_other xs i k y d other)
]

pub AllPairs-set : {X Y : Type 0} (R : Y → Y → Type 0) (f : X → Y) (xs : List X) (i : ℕ) (y : X) → i < length xs → ((d : X) → f y ≡ f (get_or xs i d)) → AllPairs (λ a b. R (f a) (f b)) xs → AllPairs (λ a b. R (f a) (f b)) (set xs i y)
AllPairs-set R f xs i y h same pairs a b d lt within =
    rw (get_or-set_keeps f xs i a y d h (same d), get_or-set_keeps f xs i b y d h (same d)) (pairs a b d lt (omega (arith, length-set xs i y)))

-- a longer part of the nodes takes no less
pub sum-take-le : {X : Type 0} (f : X → ℕ) (xs : List X) (j k : ℕ) → j ≤ k → sum_by f (take j xs) ≤ sum_by f (take k xs)
sum-take-le f xs zero k h = omega arith
sum-take-le f [] (suc j) zero h = absurd (omega arith)
sum-take-le f [] (suc j) (suc k) h = omega arith
sum-take-le f (x ∷ xs) (suc j) zero h = absurd (omega arith)
sum-take-le f (x ∷ xs) (suc j) (suc k) h = omega (arith, sum-take-le f xs j k (omega arith), sum_by-cons f x (take j xs), sum_by-cons f x (take k xs))

-- a part of a list whose earlier elements are related to the later ones
pub AllPairs-take : {X : Type 0} (R : X → X → Type 0) (xs : List X) (n : ℕ) → AllPairs R xs → AllPairs R (take n xs)
AllPairs-take R xs n pairs i j d lt h =
    let within : j < n = omega (arith, length-take n xs) in
    let early : i < n = omega arith in
    rw (get_or-take n xs i d early, get_or-take n xs j d within) (pairs i j d lt (omega (arith, length-take n xs)))

pub AllPairs-drop : {X : Type 0} (R : X → X → Type 0) (xs : List X) (n : ℕ) → AllPairs R xs → AllPairs R (drop n xs)
AllPairs-drop R xs n pairs i j d lt h =
    rw (get_or-drop n xs i d, get_or-drop n xs j d) (pairs (n + i) (n + j) d (omega arith) (omega (arith, length-drop n xs)))
