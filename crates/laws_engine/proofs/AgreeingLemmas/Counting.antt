-- How often numbers stand in lists.
use Rattle.std.proofs.Common.{◌≡◌, ℕ, ◌+◌, Bool, true, false, ◌||◌, cond, List, [], ◌∷◌, ◌++◌, refl, sym, ap, ◌∙◌, arith}
use Rattle.std.specs.Prelude.{◌==◌, count_by, nat_lt}
use Rattle.std.specs.List.{list_any}
use Rattle.std.proofs.lemmas.List.Recursion.{is_count_by}
use Rattle.std.proofs.lemmas.Bool.{eqb-true}
use Rattle.common_lemmas.proofs.Booleans.{impossible}
use Rattle.database_state.specs.Step.{with_one, without_one}

abbrev pub counted : (ℕ → Bool) → List ℕ → ℕ
counted p [] = 0
counted p (x ∷ xs) = cond (p x) (1 + counted p xs) (counted p xs)

pub counts : (p : ℕ → Bool) (xs : List ℕ) → counted p xs ≡ count_by p xs
counts p xs = is_count_by (counted p) p refl (λ x xs. refl) xs

pub turned : (a b : Bool) (n : ℕ) → cond a (1 + cond b (1 + n) n) (cond b (1 + n) n) ≡ cond b (1 + cond a (1 + n) n) (cond a (1 + n) n)
turned true true n = refl
turned true false n = refl
turned false true n = refl
turned false false n = refl

pub counted-with_one : (p : ℕ → Bool) (id : ℕ) (xs : List ℕ) → counted p (with_one id xs) ≡ counted p (id ∷ xs)
counted-with_one p id [] = refl
counted-with_one p id (x ∷ xs) =
    elim (nat_lt id x) as (λ b. counted p (cond b (id ∷ x ∷ xs) (x ∷ with_one id xs)) ≡ cond (p id) (1 + cond (p x) (1 + counted p xs) (counted p xs)) (cond (p x) (1 + counted p xs) (counted p xs))) [
      | true ↦ refl
      | false ↦ ap (λ n. cond (p x) (1 + n) n) (counted-with_one p id xs) ∙ turned (p x) (p id) (counted p xs)
    ]

pub counted-without_one : (p : ℕ → Bool) (id : ℕ) (xs : List ℕ) → list_any (λ n. n == id) xs ≡ true → counted p (id ∷ without_one id xs) ≡ counted p xs
counted-without_one p id [] h = impossible h
counted-without_one p id (x ∷ xs) h =
    elim (x == id) as (λ b. (x == id) ≡ b → (b || list_any (λ n. n == id) xs) ≡ true → counted p (id ∷ cond b xs (x ∷ without_one id xs)) ≡ cond (p x) (1 + counted p xs) (counted p xs)) [
      | true ↦ λ e f. ap (λ (k : ℕ). cond (p k) (1 + counted p xs) (counted p xs)) (sym (eqb-true x id e))
      | false ↦ λ e f. turned (p id) (p x) (counted p (without_one id xs)) ∙ ap (λ n. cond (p x) (1 + n) n) (counted-without_one p id xs f)
    ] refl h

pub counted-last : (p : ℕ → Bool) (xs : List ℕ) (x : ℕ) → counted p (xs ++ x ∷ []) ≡ counted p (x ∷ xs)
counted-last p [] x = refl
counted-last p (y ∷ xs) x = ap (λ n. cond (p y) (1 + n) n) (counted-last p xs x) ∙ turned (p y) (p x) (counted p xs)

pub cancelled : (b : Bool) (n m : ℕ) → cond b (1 + n) n ≡ cond b (1 + m) m → n ≡ m
cancelled true n m e = omega (arith, e)
cancelled false n m e = e
