-- What stands in a list.
use Rattle.std.proofs.Common.{◌≡◌, ℕ, zero, suc, ◌+◌, ◌<◌, Bool, true, false, ◌||◌, List, [], ◌∷◌, ◌++◌, length, Some, map, refl, sym, ap, subst, ◌∙◌, ◌⊎◌, inl, inr, arith}
use Rattle.std.specs.Prelude.{bytes_eq, slice_get, slice_index_or, Contains}
use Rattle.std.specs.List.{AllByRecursion, flat_map, list_any}
use Rattle.std.proofs.lemmas.List.Concat.{flat_map-cons}
use Rattle.common_lemmas.proofs.Booleans.{impossible}
use Rattle.common_lemmas.proofs.Numbers.{equal_bytes, same_bytes}
use Rattle.common_lemmas.proofs.Options.{none_some, same_some}
use Rattle.laws_versions.specs.History.{EachTwo}

abbrev pub In : {X : Type 0} → X → List X → Type 0
In x [] = ⊥
In x (y ∷ ys) = (y ≡ x) ⊎ In x ys

pub in_first : {X : Type 0} (x : X) (xs ys : List X) → In x xs → In x (xs ++ ys)
in_first x [] ys h = absurd h
in_first x (y ∷ xs) ys (inl e) = inl e
in_first x (y ∷ xs) ys (inr h) = inr (in_first x xs ys h)

pub in_second : {X : Type 0} (x : X) (xs ys : List X) → In x ys → In x (xs ++ ys)
in_second x [] ys h = h
in_second x (y ∷ xs) ys h = inr (in_second x xs ys h)

pub in_either : {X : Type 0} (x : X) (xs ys : List X) → In x (xs ++ ys) → In x xs ⊎ In x ys
in_either x [] ys h = inr h
in_either x (y ∷ xs) ys (inl e) = inl (inl e)
in_either x (y ∷ xs) ys (inr h) = by (in_either x xs ys h)
  where
    by : In x xs ⊎ In x ys → In x (y ∷ xs) ⊎ In x ys
    by (inl f) = inl (inr f)
    by (inr f) = inr f

pub in_map : {X Y : Type 0} (f : X → Y) (x : X) (xs : List X) → In x xs → In (f x) (map f xs)
in_map f x [] h = absurd h
in_map f x (y ∷ xs) (inl e) = inl (ap f e)
in_map f x (y ∷ xs) (inr h) = inr (in_map f x xs h)

-- what a function makes of one of a list
pub record Made {X Y : Type 0} (f : X → Y) (xs : List X) (y : Y) : Type 0 where
  pub of : X
  pub there : In of xs
  pub is : f of ≡ y

pub of_map : {X Y : Type 0} (f : X → Y) (y : Y) (xs : List X) → In y (map f xs) → Made f xs y
of_map f y [] h = absurd h
of_map f y (x ∷ xs) (inl e) = record { of = x; there = inl refl; is = e }
of_map f y (x ∷ xs) (inr h) = let r : Made f xs y = of_map f y xs h in record { of = r.of; there = inr r.there; is = r.is }

-- what stands in the list that a function makes of one
pub record Among {X Y : Type 0} (f : X → List Y) (xs : List X) (y : Y) : Type 0 where
  pub of : X
  pub there : In of xs
  pub here : In y (f of)

pub of_flat : {X Y : Type 0} (f : X → List Y) (y : Y) (xs : List X) → In y (flat_map f xs) → Among f xs y
of_flat f y [] h = absurd h
of_flat {X} {Y} f y (x ∷ xs) h = by (in_either y (f x) (flat_map f xs) (subst (λ (l : List Y). In y l) (flat_map-cons f x xs) h)) (λ g. of_flat f y xs g)
  where
    by : In y (f x) ⊎ In y (flat_map f xs) → (In y (flat_map f xs) → Among f xs y) → Among f (x ∷ xs) y
    by (inl g) rest = record { of = x; there = inl refl; here = g }
    by (inr g) rest = let r : Among f xs y = rest g in record { of = r.of; there = inr r.there; here = r.here }

pub in_flat : {X Y : Type 0} (f : X → List Y) (x : X) (y : Y) (xs : List X) → In x xs → In y (f x) → In y (flat_map f xs)
in_flat f x y [] h g = absurd h
in_flat {X} {Y} f x y (z ∷ xs) (inl e) g = subst (λ (l : List Y). In y l) (sym (flat_map-cons f z xs)) (in_first y (f z) (flat_map f xs) (subst (λ (w : X). In y (f w)) (sym e) g))
in_flat {X} {Y} f x y (z ∷ xs) (inr h) g = subst (λ (l : List Y). In y l) (sym (flat_map-cons f z xs)) (in_second y (f z) (flat_map f xs) (in_flat f x y xs h g))

pub listed : (key : List ℕ) (keys : List (List ℕ)) → list_any (bytes_eq key) keys ≡ true → In key keys
listed key [] h = impossible h
listed key (k ∷ keys) h = by (bytes_eq key k) refl h (λ g. listed key keys g)
  where
    by : (b : Bool) → bytes_eq key k ≡ b → (b || list_any (bytes_eq key) keys) ≡ true → (list_any (bytes_eq key) keys ≡ true → In key keys) → In key (k ∷ keys)
    by true e h rest = inl (sym (same_bytes key k e))
    by false e h rest = inr (rest h)

pub unlisted : (key : List ℕ) (keys : List (List ℕ)) → In key keys → list_any (bytes_eq key) keys ≡ true
unlisted key [] h = absurd h
unlisted key (k ∷ keys) (inl e) = ap (λ b. b || list_any (bytes_eq key) keys) (equal_bytes key k (sym e))
unlisted key (k ∷ keys) (inr h) = or_second (bytes_eq key k) (list_any (bytes_eq key) keys) (unlisted key keys h)
  where
    or_second : (a b : Bool) → b ≡ true → (a || b) ≡ true
    or_second true b e = refl
    or_second false b e = e

pub of_all : {X : Type 0} (P : X → Type 0) (x : X) (xs : List X) → AllByRecursion P xs → In x xs → P x
of_all P x [] all h = absurd h
of_all P x (y ∷ xs) all (inl e) = subst P e all.0
of_all P x (y ∷ xs) all (inr h) = of_all P x xs all.1 h

pub all_in : {X : Type 0} (P : X → Type 0) (xs : List X) → ((x : X) → In x xs → P x) → AllByRecursion P xs
all_in P [] each = tt
all_in P (x ∷ xs) each = (each x (inl refl), all_in P xs (λ y h. each y (inr h)))

pub in_at : {X : Type 0} (x : X) (xs : List X) (i : ℕ) → slice_get xs i ≡ Some x → In x xs
in_at x [] i at = none_some x at
in_at x (y ∷ xs) zero at = inl (same_some y x at)
in_at x (y ∷ xs) (suc i) at = inr (in_at x xs i at)

-- of two that differ, one stands before the other
pub two_of : {X : Type 0} (R : X → X → Type 0) (xs : List X) → EachTwo R xs → (x y : X) → In x xs → In y xs → (x ≡ y → ⊥) → R x y ⊎ R y x
two_of R [] each x y h g differ = absurd h
two_of R (z ∷ xs) each x y (inl e) (inl f) differ = absurd (differ (sym e ∙ f))
two_of R (z ∷ xs) each x y (inl e) (inr g) differ = inl (subst (λ w. R w y) e (of_all (R z) y xs each.0 g))
two_of R (z ∷ xs) each x y (inr h) (inl f) differ = inr (subst (λ w. R w x) f (of_all (R z) x xs each.0 h))
two_of R (z ∷ xs) each x y (inr h) (inr g) differ = two_of R xs each.1 x y h g differ

-- ---- the library's word for it

pub in_contains : {X : Type 0} (x : X) (xs : List X) → In x xs → Contains xs x
in_contains x [] h = absurd h
in_contains x (y ∷ xs) (inl e) = (0, omega arith, e)
in_contains {X} x (y ∷ xs) (inr h) = more (in_contains x xs h)
  where
    more : Contains xs x → Contains (y ∷ xs) x
    more c = (suc c.0, omega (arith, c.1), c.2)

pub contains_in : {X : Type 0} (x : X) (xs : List X) → Contains xs x → In x xs
contains_in x [] c = absurd (omega (arith, c.1))
contains_in {X} x (y ∷ xs) c = by c.0 c.1 c.2 (λ d. contains_in x xs d)
  where
    by : (k : ℕ) → k < length (y ∷ xs) → slice_index_or (y ∷ xs) k x ≡ x → (Contains xs x → In x xs) → In x (y ∷ xs)
    by zero lt is rest = inl is
    by (suc k) lt is rest = inr (rest (k, omega (arith, lt), is))
