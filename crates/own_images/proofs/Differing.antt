-- Lists whose elements differ, and what is found in them.
use Rattle.std.proofs.Common.{◌≡◌, ℕ, Bool, true, false, cond, List, [], ◌∷◌, Some, refl, ap, ◌∙◌}
use Rattle.std.specs.Prelude.{◌==◌, ◌||◌, find, map, not}
use Rattle.std.specs.List.{AllByRecursion, list_all, list_any}
use Rattle.std.proofs.lemmas.Bool.{and_from}
use Rattle.common_lemmas.proofs.Booleans.{and_left, and_right}
use Rattle.common_lemmas.proofs.Numbers.{self_equal}
use Rattle.laws_versions.specs.History.{EachTwo}
use Rattle.image_findings.specs.CatalogFindings.{differ}

pub all_both : {X : Type 0} (P Q R : X → Type 0) → ((x : X) → P x → Q x → R x) → (xs : List X) → AllByRecursion P xs → AllByRecursion Q xs → AllByRecursion R xs
all_both P Q R f [] p q = tt
all_both P Q R f (x ∷ xs) p q = (f x p.0 q.0, all_both P Q R f xs p.1 q.1)

pub each_mapped : {X Y : Type 0} (R : Y → Y → Type 0) (f : X → Y) (xs : List X) → EachTwo (λ x y. R (f x) (f y)) xs → EachTwo R (map f xs)
each_mapped R f [] h = tt
each_mapped {X = X} {Y = Y} R f (x ∷ xs) h = (mapped xs h.0, each_mapped R f xs h.1)
  where
    mapped : (ys : List X) → AllByRecursion (λ y. R (f x) (f y)) ys → AllByRecursion (R (f x)) (map f ys)
    mapped [] a = tt
    mapped (y ∷ ys) a = (a.0, mapped ys a.1)

-- each element is the one that is found by its number
pub found_each : {X : Type 0} (number : X → ℕ) (xs : List X) → EachTwo (λ x y. (number x == number y) ≡ false) xs → AllByRecursion (λ x. find (λ y. number y == number x) xs ≡ Some x) xs
found_each number [] h = tt
found_each {X} number (x ∷ xs) h = (
  ap (λ (b : Bool). cond b (Some x) (find (λ y. number y == number x) xs)) (self_equal (number x)),
  all_both (λ y. (number x == number y) ≡ false) (λ y. find (λ z. number z == number y) xs ≡ Some y) (λ y. find (λ z. number z == number y) (x ∷ xs) ≡ Some y)
      (λ y other found. ap (λ (b : Bool). cond b (Some x) (find (λ z. number z == number y) xs)) other ∙ found) xs h.0 (found_each number xs h.1),
)

none_any : {X : Type 0} (p : X → Bool) (xs : List X) → AllByRecursion (λ x. p x ≡ false) xs → list_any p xs ≡ false
none_any p [] h = refl
none_any p (x ∷ xs) h = ap (λ (b : Bool). b || list_any p xs) h.0 ∙ none_any p xs h.1

pub differ_each : {X : Type 0} (same : X → X → Bool) (xs : List X) → EachTwo (λ x y. same x y ≡ false) xs → differ same xs ≡ true
differ_each same [] h = refl
differ_each same (x ∷ xs) h = and_from (not (list_any (same x) xs)) (differ same xs) (ap not (none_any (same x) xs h.0)) (differ_each same xs h.1)

pub each_passes : {X : Type 0} (p : X → Bool) (xs : List X) → list_all p xs ≡ true → AllByRecursion (λ x. p x ≡ true) xs
each_passes p [] all = tt
each_passes p (x ∷ xs) all = (and_left (p x) (list_all p xs) all, each_passes p xs (and_right (p x) (list_all p xs) all))
