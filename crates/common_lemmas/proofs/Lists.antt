-- What holds of all of a list, of what a test leaves of it, and of two lists that are one.
use Rattle.std.proofs.Common.{◌≡◌, ℕ, zero, suc, ◌≤◌, Bool, true, false, ◌&&◌, cond, List, [], ◌∷◌, ◌++◌, length, map, filter, find, slice_get, Option, Some, None, refl, sym, ap, ◌∙◌, arith}
use Rattle.std.specs.List.{AllByRecursion, list_all}
use Rattle.std.proofs.lemmas.Bool.{and_from}
use Rattle.common_lemmas.proofs.Booleans.{and_left, and_right, by_test}

-- ---- what holds of each

pub all_append : {X : Type 0} (P : X → Type 0) (xs ys : List X) → AllByRecursion P xs → AllByRecursion P ys → AllByRecursion P (xs ++ ys)
all_append P [] ys h k = k
all_append P (x ∷ xs) ys h k = (h.0, all_append P xs ys h.1 k)

pub all_parted : {X : Type 0} (P : X → Type 0) (xs ys : List X) → AllByRecursion P (xs ++ ys) → AllByRecursion P xs × AllByRecursion P ys
all_parted P [] ys h = (tt, h)
all_parted P (x ∷ xs) ys h = let rest = all_parted P xs ys h.1 in ((h.0, rest.0), rest.1)

pub all_map : {X Y : Type 0} (P : Y → Type 0) (f : X → Y) (xs : List X) → AllByRecursion (λ x. P (f x)) xs → AllByRecursion P (map f xs)
all_map P f [] h = tt
all_map P f (x ∷ xs) h = (h.0, all_map P f xs h.1)

pub all_each : {X : Type 0} (P : X → Type 0) → ((x : X) → P x) → (xs : List X) → AllByRecursion P xs
all_each P f [] = tt
all_each P f (x ∷ xs) = (f x, all_each P f xs)

pub all_weaker : {X : Type 0} (P Q : X → Type 0) → ((x : X) → P x → Q x) → (xs : List X) → AllByRecursion P xs → AllByRecursion Q xs
all_weaker P Q f [] h = tt
all_weaker P Q f (x ∷ xs) h = (f x h.0, all_weaker P Q f xs h.1)

pub all_filter : {X : Type 0} (P : X → Type 0) (p : X → Bool) (xs : List X) → AllByRecursion P xs → AllByRecursion P (filter p xs)
all_filter P p [] h = tt
all_filter P p (x ∷ xs) h = elim (p x) as (λ b. AllByRecursion P (cond b (x ∷ filter p xs) (filter p xs))) [
  | true ↦ (h.0, all_filter P p xs h.1)
  | false ↦ all_filter P p xs h.1
]

-- ---- what a test leaves

pub filter_none : {X : Type 0} (p : X → Bool) (xs : List X) → AllByRecursion (λ x. p x ≡ false) xs → filter p xs ≡ []
filter_none p [] h = refl
filter_none p (x ∷ xs) h = ap (λ b. cond b (x ∷ filter p xs) (filter p xs)) h.0 ∙ filter_none p xs h.1

pub filter_all : {X : Type 0} (p : X → Bool) (xs : List X) → AllByRecursion (λ x. p x ≡ true) xs → filter p xs ≡ xs
filter_all p [] h = refl
filter_all p (x ∷ xs) h = ap (λ b. cond b (x ∷ filter p xs) (filter p xs)) h.0 ∙ ap (λ ys. x ∷ ys) (filter_all p xs h.1)

pub filter_swap : {X : Type 0} (p q : X → Bool) (xs : List X) → filter p (filter q xs) ≡ filter q (filter p xs)
filter_swap p q [] = refl
filter_swap p q (x ∷ xs) =
    elim (q x) as (λ b. q x ≡ b → filter p (cond b (x ∷ filter q xs) (filter q xs)) ≡ filter q (cond (p x) (x ∷ filter p xs) (filter p xs))) [
      | true ↦ λ e. elim (p x) as (λ b. cond b (x ∷ filter p (filter q xs)) (filter p (filter q xs)) ≡ filter q (cond b (x ∷ filter p xs) (filter p xs))) [
        | true ↦ ap (λ ys. x ∷ ys) (filter_swap p q xs) ∙ sym (ap (λ b. cond b (x ∷ filter q (filter p xs)) (filter q (filter p xs))) e)
        | false ↦ filter_swap p q xs
      ]
      | false ↦ λ e. elim (p x) as (λ b. filter p (filter q xs) ≡ filter q (cond b (x ∷ filter p xs) (filter p xs))) [
        | true ↦ filter_swap p q xs ∙ sym (ap (λ b. cond b (x ∷ filter q (filter p xs)) (filter q (filter p xs))) e)
        | false ↦ filter_swap p q xs
      ]
    ] refl

pub length-filter : {X : Type 0} (p : X → Bool) (xs : List X) → length (filter p xs) ≤ length xs
length-filter p [] = omega arith
length-filter p (x ∷ xs) =
    let rest : length (filter p xs) ≤ length xs = length-filter p xs in
    by_test (p x) (λ t. rw t (omega arith)) (λ t. rw t (omega arith))

-- ---- lists that pass a test

pub all_filtered : {X : Type 0} (p q : X → Bool) (xs : List X) → list_all p xs ≡ true → list_all p (filter q xs) ≡ true
all_filtered p q [] h = refl
all_filtered p q (x ∷ xs) h = elim (q x) as (λ b. list_all p (cond b (x ∷ filter q xs) (filter q xs)) ≡ true) [
  | true ↦ and_from (p x) (list_all p (filter q xs)) (and_left (p x) (list_all p xs) h) (all_filtered p q xs (and_right (p x) (list_all p xs) h))
  | false ↦ all_filtered p q xs (and_right (p x) (list_all p xs) h)
]

pub all_stronger : {X : Type 0} (p q : X → Bool) → ((x : X) → p x ≡ true → q x ≡ true) → (xs : List X) → list_all p xs ≡ true → list_all q xs ≡ true
all_stronger p q f [] h = refl
all_stronger p q f (x ∷ xs) h = and_from _ _ (f x (and_left _ _ h)) (all_stronger p q f xs (and_right (p x) _ h))

pub all_last : {X : Type 0} (p : X → Bool) (xs : List X) (x : X) → list_all p xs ≡ true → p x ≡ true → list_all p (xs ++ x ∷ []) ≡ true
all_last p [] x h e = and_from (p x) true e refl
all_last p (y ∷ ys) x h e = and_from (p y) (list_all p (ys ++ x ∷ [])) (and_left (p y) (list_all p ys) h) (all_last p ys x (and_right (p y) (list_all p ys) h) e)

pub all_at : {X : Type 0} (p : X → Bool) (xs : List X) (i : ℕ) (x : X) → list_all p xs ≡ true → slice_get xs i ≡ Some x → p x ≡ true
all_at p [] i x all found = cc
all_at p (y ∷ ys) zero x all found = let same : y ≡ x = cc in rw (← same) (and_left (p y) (list_all p ys) all)
all_at p (y ∷ ys) (suc i) x all found = all_at p ys i x (and_right (p y) (list_all p ys) all) found

pub all_listed : {X : Type 0} (p : X → Bool) (xs : List X) → AllByRecursion (λ x. p x ≡ true) xs → list_all p xs ≡ true
all_listed p [] h = refl
all_listed p (x ∷ xs) h = and_from (p x) (list_all p xs) h.0 (all_listed p xs h.1)
