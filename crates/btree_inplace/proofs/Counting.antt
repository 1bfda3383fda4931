-- How often a page is among the pages of a tree: the parts of a list add up.
use Rattle.std.proofs.Common.{◌≡◌, ◌≢◌, ℕ, zero, suc, ◌+◌, ◌<◌, ◌≤◌, inl, inr, List, [], ◌∷◌, ◌++◌, length, get_or, cond, refl, sym, ap, subst, ◌∙◌, arith, eq-eqb}
use Rattle.std.specs.Prelude.{AllPairs, Contains}
use Rattle.std.specs.List.{flat_map}
use Rattle.std.proofs.lemmas.Bool.{cases_lt, cases_eq}
use Rattle.std.proofs.lemmas.Bool.Decides.{nat_tests}
use Rattle.btree_inplace.specs.Alterations.{copies}

pub copies-nil : (p : ℕ) → copies p [] ≡ 0
unfolding copies
copies-nil p = refl

pub copies-cons : (p q : ℕ) (xs : List ℕ) → copies p (q ∷ xs) ≡ copies p (q ∷ []) + copies p xs
unfolding copies
copies-cons p q xs = omega arith

pub copies-append : (p : ℕ) (xs ys : List ℕ) → copies p (xs ++ ys) ≡ copies p xs + copies p ys
copies-append p [] ys = omega (arith, copies-nil p)
copies-append p (x ∷ xs) ys = omega (arith, copies-append p xs ys, copies-cons p x xs, copies-cons p x (xs ++ ys))

pub copies-itself : (p : ℕ) → copies p (p ∷ []) ≡ 1
unfolding copies
copies-itself p = ap (λ b. cond b 1 0 + 0) (eq-eqb p p refl)

pub copies-other : (p q : ℕ) → q ≢ p → copies p (q ∷ []) ≡ 0
unfolding copies
copies-other p q ne = grind (arith, nat_tests)

pub copies-same : (p q : ℕ) → q ≡ p → copies p (q ∷ []) ≡ 1
copies-same p q e = subst (λ (r : ℕ). copies r (q ∷ []) ≡ 1) e (copies-itself q)

pub copies-one : (p q : ℕ) → copies p (q ∷ []) ≤ 1
copies-one p q = elim (cases_eq q p) [
  | inl at ↦ omega (arith, copies-same p q at)
  | inr ne ↦ omega (arith, copies-other p q ne)
]

-- a page among one page is that page
pub copies-is : (p q : ℕ) → 0 < copies p (q ∷ []) → q ≡ p
copies-is p q h = elim (cases_eq q p) [
  | inl at ↦ at
  | inr ne ↦ absurd (omega (arith, copies-other p q ne))
]

pub copies-Contains : (xs : List ℕ) (p : ℕ) → Contains xs p → 0 < copies p xs
copies-Contains [] p (k, lt, is) = absurd (omega arith)
copies-Contains (x ∷ xs) p (zero, lt, is) = omega (arith, copies-cons p x xs, copies-same p x is)
copies-Contains (x ∷ xs) p (suc k, lt, is) = omega (arith, copies-cons p x xs, copies-Contains xs p (k, omega arith, is))

pub Contains-copies : (xs : List ℕ) (p : ℕ) → 0 < copies p xs → Contains xs p
Contains-copies [] p h = absurd (omega (arith, copies-nil p))
Contains-copies (x ∷ xs) p h = elim (cases_eq x p) [
  | inl at ↦ (0, omega arith, at)
  | inr ne ↦
      let rest = Contains-copies xs p (omega (arith, copies-cons p x xs, copies-other p x ne)) in
      (suc rest.0, omega (arith, rest.1), rest.2)
]

pub copies-once : (xs : List ℕ) (p : ℕ) → AllPairs (λ a b. a ≢ b) xs → copies p xs ≤ 1
copies-once [] p once = omega (arith, copies-nil p)
copies-once (x ∷ xs) p once =
    let rest = copies-once xs p (λ i j d lt h. once (suc i) (suc j) d (omega arith) (omega arith)) in
    elim (cases_eq x p) [
      | inl at ↦ elim (cases_lt 0 (copies p xs)) [
        | inl some ↦
            let there = Contains-copies xs p some in
            absurd (once 0 (suc there.0) p (omega arith) (omega (arith, there.1)) (at ∙ sym there.2))
        | inr none ↦ omega (arith, copies-cons p x xs, copies-same p x at)
      ]
      | inr ne ↦ omega (arith, rest, copies-cons p x xs, copies-other p x ne)
    ]

pub AllPairs-copies : (xs : List ℕ) → ((p : ℕ) → copies p xs ≤ 1) → AllPairs (λ a b. a ≢ b) xs
AllPairs-copies [] once i j d lt h = absurd (omega arith)
AllPairs-copies (x ∷ xs) once i zero d lt h = absurd (omega arith)
AllPairs-copies (x ∷ xs) once zero (suc j) d lt h = λ e.
    let there = copies-Contains xs x (j, omega arith, again xs j d x (omega arith) (sym e)) in
    absurd (omega (arith, once x, copies-cons x x xs, copies-itself x))
  where
    again : (xs : List ℕ) (j d x : ℕ) → j < length xs → get_or xs j d ≡ x → get_or xs j x ≡ x
    again [] j d x h e = absurd (omega arith)
    again (y ∷ xs) zero d x h e = e
    again (y ∷ xs) (suc j) d x h e = again xs j d x (omega arith) e
AllPairs-copies (x ∷ xs) once (suc i) (suc j) d lt h =
    AllPairs-copies xs (λ p. omega (arith, once p, copies-cons p x xs)) i j d (omega arith) (omega arith)

-- a page among the pages of some part
pub copies-flat_map : {P : Type 0} {X : Type 0} (g : X → List ℕ) (xs : List X) (p : ℕ) → ((k : ℕ) (d : X) → k < length xs → 0 < copies p (g (get_or xs k d)) → P) → 0 < copies p (flat_map g xs) → P
copies-flat_map g [] p found h = absurd (omega (arith, copies-nil p))
copies-flat_map g (x ∷ xs) p found h = elim (cases_lt 0 (copies p (g x))) [
  | inl here ↦ found 0 x (omega arith) here
  | inr none ↦ copies-flat_map g xs p (λ k d lt there. found (suc k) d (omega arith) there) (omega (arith, copies-append p (g x) (flat_map g xs)))
]
