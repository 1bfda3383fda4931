-- What is found in a list.
use Rattle.std.proofs.Common.{◌≡◌, Bool, true, false, ◌&&◌, cond, List, [], ◌∷◌, Option, Some, None, refl, sym, ap, subst, ◌∙◌}
use Rattle.std.specs.Prelude.{find, unwrap_or}
use Rattle.std.specs.List.{AllByRecursion, list_all}

none_found : {X A : Type 0} (x : X) → None ≡ Some x → A
none_found x e = cc

-- It passes the test.
pub found_passes : {X : Type 0} (test : X → Bool) (xs : List X) (x : X) → find test xs ≡ Some x → test x ≡ true
found_passes test [] x e = none_found x e
found_passes {X} test (y ∷ xs) x e = by (test y) refl e (found_passes test xs x)
  where
    by : (b : Bool) → test y ≡ b → cond b (Some y) (find test xs) ≡ Some x → (find test xs ≡ Some x → test x ≡ true) → test x ≡ true
    by true passes e rest = ap (λ (o : Option X). test (unwrap_or o y)) (sym e) ∙ passes
    by false fails e rest = rest e

-- What holds of each element holds of it.
pub of_found : {X : Type 0} (P : X → Type 0) (test : X → Bool) (xs : List X) (x : X) → find test xs ≡ Some x → AllByRecursion P xs → P x
of_found P test [] x e all = none_found x e
of_found {X} P test (y ∷ xs) x e all = by (test y) e (λ f. of_found P test xs x f all.1)
  where
    by : (b : Bool) → cond b (Some y) (find test xs) ≡ Some x → (find test xs ≡ Some x → P x) → P x
    by true e rest = subst P (ap (λ (o : Option X). unwrap_or o y) e) all.0
    by false e rest = rest e

each_of : {X : Type 0} (p : X → Bool) (xs : List X) → list_all p xs ≡ true → AllByRecursion (λ x. p x ≡ true) xs
each_of p [] all = tt
each_of p (x ∷ xs) all = by (p x) refl all (each_of p xs)
  where
    by : (b : Bool) → p x ≡ b → (b && list_all p xs) ≡ true → (list_all p xs ≡ true → AllByRecursion (λ x. p x ≡ true) xs) → (p x ≡ true) × AllByRecursion (λ x. p x ≡ true) xs
    by true e all rest = (e, rest all)
    by false e all rest = cc

-- So does a test that each passes.
pub all_found : {X : Type 0} (p test : X → Bool) (xs : List X) (x : X) → list_all p xs ≡ true → find test xs ≡ Some x → p x ≡ true
all_found p test xs x all e = of_found (λ x. p x ≡ true) test xs x e (each_of p xs all)
