-- Marks on pages: each page of a list is marked once.
use Rattle.std.proofs.Common.{◌≡◌, ◌≢◌, ℕ, zero, suc, ◌+◌, ◌<◌, ◌≤◌, inl, inr, Bool, true, false, cond, List, [], ◌∷◌, ◌++◌, None, length, refl, sym, ap, subst, ◌∙◌, arith, eq-eqb}
use Rattle.std.specs.Prelude.{◌==◌, if◌then◌else◌, slice_set}
use Rattle.std.proofs.lemmas.Bool.{cases_lt, cases_eq}
use Rattle.std.proofs.lemmas.Bool.Decides.{nat_tests}
use Rattle.std.proofs.lemmas.List.Sums.{sum_by-append, sum_by-cons}
use Rattle.std.proofs.lemmas.List.{get_or-set_same, get_or-set_other, length-set}
use Rattle.common_lemmas.proofs.Booleans.{impossible}
use Rattle.page_space.specs.Frames.{Frames, page_at}
use Rattle.tree_check.specs.Marks.{copies, is_marked, times_marked, with_marks}
use Rattle.image_findings.specs.TreeFindings.{no_marks}

-- ---- counts

pub copies-append : (p : ℕ) (xs ys : List ℕ) → copies p (xs ++ ys) ≡ copies p xs + copies p ys
copies-append p xs ys = sum_by-append (λ r. cond (r == p) 1 0) xs ys

pub copies-cons : (p q : ℕ) (xs : List ℕ) → copies p (q ∷ xs) ≡ copies p (q ∷ []) + copies p xs
copies-cons p q xs = omega (arith, sum_by-cons (λ r. cond (r == p) 1 0) q xs, sum_by-cons (λ r. cond (r == p) 1 0) q [])

pub copies-same : (p q : ℕ) → q ≡ p → copies p (q ∷ []) ≡ 1
copies-same p q e = sum_by-cons (λ r. cond (r == p) 1 0) q [] ∙ ap (λ b. cond b 1 0 + 0) (eq-eqb q p e)

pub copies-other : (p q : ℕ) → q ≢ p → copies p (q ∷ []) ≡ 0
copies-other p q ne = sum_by-cons (λ r. cond (r == p) 1 0) q [] ∙ ap (λ b. cond b 1 0 + 0) (unequal p q ne)
  where
    unequal : (p q : ℕ) → q ≢ p → (q == p) ≡ false
    unequal p q ne = grind (arith, nat_tests)

-- ---- marks

past_end : (marks : List Bool) (page : ℕ) → length marks ≤ page → is_marked marks page ≡ true
past_end [] page h = refl
past_end (m ∷ marks) zero h = absurd (omega arith)
past_end (m ∷ marks) (suc page) h = past_end marks page (omega arith)

within : (marks : List Bool) (page : ℕ) → is_marked marks page ≡ false → page < length marks
within marks page free = elim (cases_lt page (length marks)) [
  | inl lt ↦ lt
  | inr ge ↦ impossible (sym free ∙ past_end marks page ge)
]

-- a mark is one more
one_mark : (marks : List Bool) (page p : ℕ) → is_marked marks page ≡ false → times_marked (slice_set marks page true) p ≡ copies p (page ∷ []) + times_marked marks p
one_mark marks page p free = elim (cases_eq page p) [
  | inl at ↦ same p at
  | inr ne ↦ omega (arith, other ne, copies-other p page ne)
]
  where
    marked : times_marked (slice_set marks page true) page ≡ 1
    marked = ap (λ (b : Bool). if b then 1 else 0) (get_or-set_same marks page true true (within marks page free))

    other : page ≢ p → times_marked (slice_set marks page true) p ≡ times_marked marks p
    other ne = ap (λ (b : Bool). if b then 1 else 0) (get_or-set_other marks page p true true (λ e. ne (sym e)))

    unmarked : times_marked marks page ≡ 0
    unmarked = ap (λ (b : Bool). if b then 1 else 0) free

    same : (p : ℕ) → page ≡ p → times_marked (slice_set marks page true) p ≡ copies p (page ∷ []) + times_marked marks p
    same p at = subst (λ q. times_marked (slice_set marks page true) q ≡ copies q (page ∷ []) + times_marked marks q) at (omega (arith, marked, unmarked, copies-same page page refl))

unmarked_of : (marks : List Bool) (page : ℕ) → times_marked marks page ≤ 0 → is_marked marks page ≡ false
unmarked_of marks page h = at (is_marked marks page) h
  where
    at : (b : Bool) → (if b then 1 else 0) ≤ 0 → b ≡ false
    at true h = absurd (omega arith)
    at false h = refl

pub marked_of : (marks : List Bool) (page : ℕ) → 1 ≤ times_marked marks page → is_marked marks page ≡ true
marked_of marks page h = at (is_marked marks page) h
  where
    at : (b : Bool) → 1 ≤ (if b then 1 else 0) → b ≡ true
    at true h = refl
    at false h = absurd (omega arith)

pub one_at_most : (marks : List Bool) (page : ℕ) → times_marked marks page ≤ 1
one_at_most marks page = at (is_marked marks page)
  where
    at : (b : Bool) → (if b then 1 else 0) ≤ 1
    at true = omega arith
    at false = omega arith

-- the pages of a list that are there once and not marked are as many marks more
pub balance : (list : List ℕ) (marks : List Bool) → ((p : ℕ) → copies p list + times_marked marks p ≤ 1) → (p : ℕ) → copies p list + times_marked marks p ≡ times_marked (with_marks list marks) p
balance [] marks once p = omega arith
balance (page ∷ list) marks once p =
    let free : is_marked marks page ≡ false = unmarked_of marks page (omega (arith, once page, copies-cons page page list, copies-same page page refl)) in
    omega (arith, balance list (slice_set marks page true) (λ q. omega (arith, once q, copies-cons q page list, one_mark marks page q free)) p, one_mark marks page p free, copies-cons p page list)

pub length-marks : (list : List ℕ) (marks : List Bool) → length (with_marks list marks) ≡ length marks
length-marks [] marks = refl
length-marks (page ∷ list) marks = length-marks list (slice_set marks page true) ∙ length-set marks page true

-- ---- before the first walk

pub length-no_marks : (frames : Frames) → length (no_marks frames) ≡ length frames
length-no_marks [] = refl
length-no_marks (o ∷ frames) = ap suc (length-no_marks frames)

pub unmarked : (frames : Frames) (p : ℕ) → p < length frames → times_marked (no_marks frames) p ≡ 0
unmarked [] p h = absurd (omega arith)
unmarked (o ∷ frames) zero h = refl
unmarked (o ∷ frames) (suc p) h = unmarked frames p (omega arith)

pub past_taken : (frames : Frames) (p : ℕ) → length frames ≤ p → page_at frames p ≡ None
past_taken [] zero h = refl
past_taken [] (suc p) h = refl
past_taken (o ∷ frames) zero h = absurd (omega arith)
past_taken (o ∷ frames) (suc p) h = past_taken frames p (omega arith)
