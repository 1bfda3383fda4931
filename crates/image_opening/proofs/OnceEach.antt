-- Pages that are counted, once each or not at all.
use Rattle.std.proofs.Common.{◌≡◌, ◌≢◌, ℕ, zero, suc, ◌+◌, ◌<◌, ◌≤◌, List, [], ◌∷◌, length, get_or, cond, inl, inr, false, refl, sym, ap, ◌∙◌, arith, eq-eqb}
use Rattle.std.specs.Prelude.{◌==◌, AllPairs, Contains, count_by}
use Rattle.std.proofs.lemmas.Bool.{cases_lt, eqb-true}
use Rattle.std.proofs.lemmas.List.Sums.{sum_by-cons}
use Rattle.common_lemmas.proofs.Booleans.{by_test}

abbrev times : ℕ → List ℕ → ℕ
times page list = count_by (λ p. p == page) list

pub times-cons : (p q : ℕ) (xs : List ℕ) → times p (q ∷ xs) ≡ times p (q ∷ []) + times p xs
times-cons p q xs = omega (arith, sum_by-cons (λ r. cond (r == p) 1 0) q xs, sum_by-cons (λ r. cond (r == p) 1 0) q [])

times-itself : (p q : ℕ) → q ≡ p → times p (q ∷ []) ≡ 1
times-itself p q e = sum_by-cons (λ r. cond (r == p) 1 0) q [] ∙ ap (λ b. cond b 1 0 + 0) (eq-eqb q p e)

-- what stands at a place is there
times_at : (xs : List ℕ) (j d x : ℕ) → j < length xs → get_or xs j d ≡ x → 0 < times x xs
times_at [] j d x h e = absurd (omega arith)
times_at (y ∷ xs) zero d x h e = omega (arith, times-cons x y xs, times-itself x y e)
times_at (y ∷ xs) (suc j) d x h e = omega (arith, times-cons x y xs, times_at xs j d x (omega arith) e)

pub once_each : (xs : List ℕ) → ((p : ℕ) → count_by (λ q. q == p) xs ≤ 1) → AllPairs (λ a b. a ≢ b) xs
once_each [] once i j d lt h = absurd (omega arith)
once_each (x ∷ xs) once i zero d lt h = absurd (omega arith)
once_each (x ∷ xs) once zero (suc j) d lt h = λ e. absurd (omega (arith, once x, times-cons x x xs, times-itself x x refl, times_at xs j d x (omega arith) (sym e)))
once_each (x ∷ xs) once (suc i) (suc j) d lt h = once_each xs (λ p. omega (arith, once p, times-cons p x xs)) i j d (omega arith) (omega arith)

-- ---- what is counted stands at a place

times-other : (p q : ℕ) → (q == p) ≡ false → times p (q ∷ []) ≡ 0
times-other p q e = sum_by-cons (λ r. cond (r == p) 1 0) q [] ∙ ap (λ b. cond b 1 0 + 0) e

pub counted : (xs : List ℕ) (p : ℕ) → Contains xs p → 0 < times p xs
counted xs p (k, lt, e) = times_at xs k p p lt e

pub contained : (xs : List ℕ) (p : ℕ) → 0 < times p xs → Contains xs p
contained [] p h = absurd (omega (arith, h))
contained (x ∷ xs) p h =
    by_test (x == p)
    (λ same. (0, omega arith, eqb-true x p same))
    (λ other.
    let rest : Contains xs p = contained xs p (omega (arith, times-cons p x xs, times-other p x other, h)) in
    (suc rest.0, omega (arith, rest.1), rest.2))

pub once : (xs : List ℕ) → AllPairs (λ a b. a ≢ b) xs → (p : ℕ) → times p xs ≤ 1
once [] differ p = omega arith
once (x ∷ xs) differ p =
    let rest = once xs (λ i j d lt within. differ (suc i) (suc j) d (omega (arith, lt)) (omega (arith, within))) p in
    by_test (x == p)
    (λ same. elim (cases_lt 0 (times p xs)) [
      | inl some ↦ let c = contained xs p some in absurd (differ 0 (suc c.0) p (omega arith) (omega (arith, c.1)) (eqb-true x p same ∙ sym c.2))
      | inr none ↦ omega (arith, none, times-cons p x xs, times-itself p x (eqb-true x p same))
    ])
    (λ other. omega (arith, rest, times-cons p x xs, times-other p x other))
