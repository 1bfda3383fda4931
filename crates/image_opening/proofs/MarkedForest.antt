-- Trees that were walked one after another, with a mark for each of their pages.
use Rattle.std.proofs.Common.{◌≡◌, ℕ, zero, suc, ◌+◌, ◌<◌, ◌≤◌, inl, inr, Bool, true, false, Option, Some, None, List, [], ◌∷◌, length, refl, sym, ap, ◌∙◌, arith}
use Rattle.std.specs.Prelude.{◌&&◌, is_some, not, if◌then◌else◌}
use Rattle.std.proofs.lemmas.Bool.{cases_lt}
use Rattle.common_lemmas.proofs.Booleans.{impossible}
use Rattle.common_lemmas.proofs.Options.{some_apart}
use Rattle.page_image.specs.Page.{PageContents}
use Rattle.page_space.specs.Frames.{Frames, page_at}
use Rattle.tree_check.specs.Marks.{copies, is_marked, times_marked}
use Rattle.image_findings.specs.TreeFindings.{no_marks}
use Rattle.image_opening.specs.MarkedPages.{IsEachOnce, unmarked_from}

-- before the first walk the pages of the space have no mark, and all others count as marked
unmarked : (frames : Frames) (p : ℕ) → p < length frames → is_marked (no_marks frames) p ≡ false
unmarked [] p h = absurd (omega arith)
unmarked (o ∷ frames) zero h = refl
unmarked (o ∷ frames) (suc p) h = unmarked frames p (omega arith)

past : (frames : Frames) (p : ℕ) → length frames ≤ p → is_marked (no_marks frames) p ≡ true
past [] zero h = refl
past [] (suc p) h = refl
past (o ∷ frames) zero h = absurd (omega arith)
past (o ∷ frames) (suc p) h = past frames p (omega arith)

past_taken : (frames : Frames) (p : ℕ) → length frames ≤ p → page_at frames p ≡ None
past_taken [] zero h = refl
past_taken [] (suc p) h = refl
past_taken (o ∷ frames) zero h = absurd (omega arith)
past_taken (o ∷ frames) (suc p) h = past_taken frames p (omega arith)

-- a page that is none of those found is free or marked
first_owned : (taken marked : Bool) (number : ℕ) (rest : Option ℕ) → (if taken && not marked then Some number else rest) ≡ None → taken ≡ true → marked ≡ true
first_owned taken true number rest e is = refl
first_owned true false number rest e is = absurd (some_apart number e)
first_owned false false number rest e is = impossible is

rest_owned : (test : Bool) (number : ℕ) (rest : Option ℕ) → (if test then Some number else rest) ≡ None → rest ≡ None
rest_owned true number rest e = absurd (some_apart number e)
rest_owned false number rest e = e

-- where none is found, each page that is taken is marked
owned : (number : ℕ) (frames : Frames) (marks : List Bool) → unmarked_from number frames marks ≡ None → (p : ℕ) → is_some (page_at frames p) ≡ true → is_marked marks (number + p) ≡ true
owned number [] marks none zero taken = impossible taken
owned number [] marks none (suc p) taken = impossible taken
owned number (o ∷ frames) marks none zero taken =
    ap (is_marked marks) (plus_zero number) ∙ first_owned (is_some o) (is_marked marks number) number (unmarked_from (suc number) frames marks) none taken
  where
    plus_zero : (n : ℕ) → n + 0 ≡ n
    plus_zero n = omega arith
owned number (o ∷ frames) marks none (suc p) taken =
    ap (is_marked marks) (plus_one number p) ∙ owned (suc number) frames marks (rest_owned (is_some o && not (is_marked marks number)) number (unmarked_from (suc number) frames marks) none) p taken
  where
    plus_one : (n k : ℕ) → n + suc k ≡ suc n + k
    plus_one n k = omega arith

pub one_at_most : (marks : List Bool) (p : ℕ) → times_marked marks p ≤ 1
one_at_most marks p = at (is_marked marks p)
  where
    at : (b : Bool) → (if b then 1 else 0) ≤ 1
    at true = omega arith
    at false = omega arith

marked_once : (marks : List Bool) (p : ℕ) → is_marked marks p ≡ true → times_marked marks p ≡ 1
marked_once marks p e = ap (λ (b : Bool). if b then 1 else 0) e

zero_plus : (n : ℕ) → 0 + n ≡ n
zero_plus n = omega arith

within_space : (frames : Frames) (pages : List ℕ) (marks : List Bool) (p : ℕ) (b : Bool) → is_some (page_at frames p) ≡ b → copies p pages + times_marked (no_marks frames) p ≡ times_marked marks p → (0 < copies p pages → is_some (page_at frames p) ≡ true)
    → unmarked_from 0 frames marks ≡ None → times_marked (no_marks frames) p ≡ 0 → copies p pages ≡ (if b then 1 else 0)
within_space frames pages marks p true is counted taken none before =
    let marked : is_marked marks p ≡ true = ap (is_marked marks) (sym (zero_plus p)) ∙ owned 0 frames marks none p is in
    omega (arith, counted, before, marked_once marks p marked)
within_space frames pages marks p false is counted taken none before = elim (cases_lt 0 (copies p pages)) [
  | inl some ↦ impossible (sym is ∙ taken some)
  | inr few ↦ omega (arith, few)
]

-- so each page that is taken is among them once
pub each_once : (frames : Frames) (pages : List ℕ) (marks : List Bool) → ((p : ℕ) → copies p pages + times_marked (no_marks frames) p ≡ times_marked marks p) → ((p : ℕ) → 0 < copies p pages → is_some (page_at frames p) ≡ true)
    → unmarked_from 0 frames marks ≡ None → IsEachOnce frames pages
each_once frames pages marks counted taken none p = elim (cases_lt p (length frames)) [
  | inl within ↦ within_space frames pages marks p (is_some (page_at frames p)) refl (counted p) (taken p) none (ap (λ (b : Bool). if b then 1 else 0) (unmarked frames p within))
  | inr beyond ↦
      let full : times_marked (no_marks frames) p ≡ 1 = ap (λ (b : Bool). if b then 1 else 0) (past frames p beyond) in
      let none_of_them : copies p pages ≡ 0 = omega (arith, counted p, full, one_at_most marks p) in
      let free : (if is_some (page_at frames p) then 1 else 0) ≡ 0 = ap (λ (o : Option PageContents). if is_some o then 1 else 0) (past_taken frames p beyond) in
      none_of_them ∙ sym free
]
