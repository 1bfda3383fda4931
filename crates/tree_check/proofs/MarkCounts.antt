-- Marks on pages: each page of a list is marked once.
use Rattle.std.proofs.Common.{◌≡◌, ◌≢◌, ℕ, zero, suc, ◌+◌, ◌<◌, ◌≤◌, inl, inr, Bool, true, false, cond, List, [], ◌∷◌, ◌++◌, length, refl, sym, ap, subst, ◌∙◌, arith, eq-eqb}
use Rattle.std.specs.Prelude.{◌==◌, if◌then◌else◌, slice_set}
use Rattle.std.proofs.lemmas.Bool.{cases_lt, cases_eq}
use Rattle.std.proofs.lemmas.Bool.Decides.{nat_tests}
use Rattle.std.proofs.lemmas.List.Sums.{sum_by-cons}
use Rattle.std.proofs.lemmas.List.{get_or-set_same, get_or-set_other}
use Rattle.common_lemmas.proofs.Booleans.{impossible}
use Rattle.tree_check.specs.Marks.{copies, is_marked, times_marked, with_marks}

-- None of the pages is marked when its turn comes.
abbrev pub Fresh : List ℕ → List Bool → Type 0
Fresh [] marks = Unit {0}
Fresh (page ∷ list) marks = (is_marked marks page ≡ false) × Fresh list (slice_set marks page true)

pub fresh_append : (xs ys : List ℕ) (marks : List Bool) → Fresh xs marks → Fresh ys (with_marks xs marks) → Fresh (xs ++ ys) marks
fresh_append [] ys marks one next = next
fresh_append (x ∷ xs) ys marks (free, one) next = (free, fresh_append xs ys (slice_set marks x true) one next)

pub fresh_parted : (xs ys : List ℕ) (marks : List Bool) → Fresh (xs ++ ys) marks → Fresh xs marks × Fresh ys (with_marks xs marks)
fresh_parted [] ys marks f = (tt, f)
fresh_parted (x ∷ xs) ys marks (free, rest) = let r = fresh_parted xs ys (slice_set marks x true) rest in ((free, r.0), r.1)

-- ---- counts

copies-cons : (p q : ℕ) (xs : List ℕ) → copies p (q ∷ xs) ≡ copies p (q ∷ []) + copies p xs
copies-cons p q xs = omega (arith, sum_by-cons (λ r. cond (r == p) 1 0) q xs, sum_by-cons (λ r. cond (r == p) 1 0) q [])

copies-same : (p q : ℕ) → q ≡ p → copies p (q ∷ []) ≡ 1
copies-same p q e = sum_by-cons (λ r. cond (r == p) 1 0) q [] ∙ ap (λ b. cond b 1 0 + 0) (eq-eqb q p e)

copies-other : (p q : ℕ) → q ≢ p → copies p (q ∷ []) ≡ 0
copies-other p q ne = sum_by-cons (λ r. cond (r == p) 1 0) q [] ∙ ap (λ b. cond b 1 0 + 0) (unequal p q ne)
  where
    unequal : (p q : ℕ) → q ≢ p → (q == p) ≡ false
    unequal p q ne = grind (arith, nat_tests)

past_end : (marks : List Bool) (page : ℕ) → length marks ≤ page → is_marked marks page ≡ true
past_end [] page h = refl
past_end (m ∷ marks) zero h = absurd (omega arith)
past_end (m ∷ marks) (suc page) h = past_end marks page (omega arith)

within : (marks : List Bool) (page : ℕ) → is_marked marks page ≡ false → page < length marks
within marks page free = elim (cases_lt page (length marks)) [
  | inl lt ↦ lt
  | inr ge ↦ impossible (sym free ∙ past_end marks page ge)
]

-- a mark is one more
one_mark : (marks : List Bool) (page p : ℕ) → is_marked marks page ≡ false → times_marked (slice_set marks page true) p ≡ copies p (page ∷ []) + times_marked marks p
one_mark marks page p free = elim (cases_eq page p) [
  | inl at ↦ same p at
  | inr ne ↦ omega (arith, other ne, copies-other p page ne)
]
  where
    marked : times_marked (slice_set marks page true) page ≡ 1
    marked = ap (λ (b : Bool). if b then 1 else 0) (get_or-set_same marks page true true (within marks page free))

    other : page ≢ p → times_marked (slice_set marks page true) p ≡ times_marked marks p
    other ne = ap (λ (b : Bool). if b then 1 else 0) (get_or-set_other marks page p true true (λ e. ne (sym e)))

    unmarked : times_marked marks page ≡ 0
    unmarked = ap (λ (b : Bool). if b then 1 else 0) free

    same : (p : ℕ) → page ≡ p → times_marked (slice_set marks page true) p ≡ copies p (page ∷ []) + times_marked marks p
    same p at = subst (λ q. times_marked (slice_set marks page true) q ≡ copies q (page ∷ []) + times_marked marks q) at (omega (arith, marked, unmarked, copies-same page page refl))

-- so the pages of a list are as many marks more
pub balance : (list : List ℕ) (marks : List Bool) (p : ℕ) → Fresh list marks → copies p list + times_marked marks p ≡ times_marked (with_marks list marks) p
balance [] marks p f = omega arith
balance (page ∷ list) marks p (free, f) = omega (arith, balance list (slice_set marks page true) p f, one_mark marks page p free, copies-cons p page list)

unmarked_of : (marks : List Bool) (page : ℕ) → times_marked marks page ≤ 0 → is_marked marks page ≡ false
unmarked_of marks page h = at (is_marked marks page) h
  where
    at : (b : Bool) → (if b then 1 else 0) ≤ 0 → b ≡ false
    at true h = absurd (omega arith)
    at false h = refl

-- pages that are apart, of which none is marked
pub fresh_of : (list : List ℕ) (marks : List Bool) → ((p : ℕ) → copies p list + times_marked marks p ≤ 1) → Fresh list marks
fresh_of [] marks once = tt
fresh_of (page ∷ list) marks once =
    let free : is_marked marks page ≡ false = unmarked_of marks page (omega (arith, once page, copies-cons page page list, copies-same page page refl)) in
    (free, fresh_of list (slice_set marks page true) (λ p. omega (arith, once p, copies-cons p page list, one_mark marks page p free)))
