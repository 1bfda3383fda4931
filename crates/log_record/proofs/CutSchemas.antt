-- Schema changes of which only a front stands there.
use Rattle.std.proofs.Common.{◌≡◌, ℕ, zero, suc, ◌+◌, ◌-◌, ◌*◌, ◌/◌, ◌^◌, ◌<◌, ◌≤◌, Bool, true, ltb, leb, ◌&&◌, List, [], ◌∷◌, ◌++◌, refl, sym, ap, ◌∙◌, arith, ◌⊎◌, inl, inr}
use Rattle.std.specs.Prelude.{◌||◌}
use Rattle.std.specs.Int.{w32}
use Rattle.std.proofs.lemmas.Bool.{cases_lt, and_parts, and_from, eqb-true, leb-true, le-leb}
use Rattle.log_record.specs.EntryCuts.{end_cut, byte_cut, number_cut, bytes_cut, name_size, name_none, name_cut, within, column_cut, pairs_cut, conditions_none, conditions_cut, segments_none, segments_cut, small_cut, index_flags_cut, index_cut}
use Rattle.log_record.proofs.CutLaws.{Then}
use Rattle.log_record.proofs.CutSteps.{Decides, Where, decides_bytes, decides_where, decides_end, decides_number16, decides_number32, filled_from, filled_parts}
use Rattle.log_record.proofs.CutCases.{decides_case8}
use Rattle.log_record.proofs.CutFields.{ByteThen, Text, bytes_cut_none, decides_byte}
use Rattle.log_record.proofs.CutChanges.{Number16, Number32, Nothing}

pub within_is : (lo hi n : ℕ) → within lo hi n ≡ true → (lo ≤ n) × (n ≤ hi)
within_is lo hi n h = let p = and_parts (leb lo n) (leb n hi) h in (leb-true _ _ p.0, leb-true _ _ p.1)

pub within_from : (lo hi n : ℕ) → lo ≤ n → n ≤ hi → within lo hi n ≡ true
within_from lo hi n l h = and_from (leb lo n) (leb n hi) (le-leb _ _ l) (le-leb _ _ h)

-- ---- names

abbrev pub NameSpelled : List ℕ → Type 0
NameSpelled bytes = Then (λ n. n ∷ []) (λ n. ltb n 256) (λ n. Where (name_size n) (Text n Nothing)) bytes

pub decides_name : Decides name_cut NameSpelled
decides_name =
    decides_case8 (λ n behind left. name_size n && bytes_cut n end_cut behind left) (λ n. Where (name_size n) (Text n Nothing)) name_none
    (λ n small. decides_where (name_size n) (bytes_cut n end_cut) (Text n Nothing) (λ h. decides_bytes n end_cut Nothing decides_end))
    (λ missing few h.
    let p = within_is 2 65 missing h in
    let size : ℕ = missing - 1 in
    let own : bytes_cut size end_cut [] size ≡ true = bytes_cut_none size end_cut size ∙ filled_from size end_cut size 0 (omega arith) refl in
    (size, size, omega (arith, p.1), omega (arith, p.0), and_from (name_size size) (bytes_cut size end_cut [] size) (within_from 1 64 size (omega (arith, p.0)) (omega (arith, p.1))) own))
    (λ n left few small h.
    let a = and_parts (name_size n) (bytes_cut n end_cut [] left) h in
    let s = within_is 1 64 n a.0 in
    let f = filled_parts n end_cut left (sym (bytes_cut_none n end_cut left) ∙ a.1) in
    let none : left - n ≡ 0 = eqb-true _ _ f.goes_on in
    within_from 2 65 (1 + left) (omega (arith, s.0, f.counted)) (omega (arith, s.1, f.counted, none)))

-- ---- columns

abbrev pub ColumnSpelled : List ℕ → Type 0
ColumnSpelled bytes = ByteThen (within 1 13) (ByteThen (within 0 15) NameSpelled) bytes

pub decides_column : Decides column_cut ColumnSpelled
decides_column =
    decides_byte (within 1 13) 1 (omega arith) refl (byte_cut (within 0 15) name_cut) (ByteThen (within 0 15) NameSpelled)
    (decides_byte (within 0 15) 0 (omega arith) refl name_cut NameSpelled decides_name)

-- ---- segments and conditions

abbrev pub Pairs : ℕ → (List ℕ → Type 0) → List ℕ → Type 0
Pairs zero Rest bytes = Rest bytes
Pairs (suc n) Rest bytes = Number16 (ByteThen (within 0 1) (Pairs n Rest)) bytes

decides_pairs : (n : ℕ) (test : List ℕ → ℕ → Bool) (Rest : List ℕ → Type 0) → Decides test Rest → Decides (pairs_cut n test) (Pairs n Rest)
decides_pairs zero test Rest d = d
decides_pairs (suc n) test Rest d =
    decides_number16 (byte_cut (within 0 1) (pairs_cut n test)) (ByteThen (within 0 1) (Pairs n Rest)) (decides_byte (within 0 1) 0 (omega arith) refl (pairs_cut n test) (Pairs n Rest) (decides_pairs n test Rest d))

pairs_from : (n : ℕ) (test : List ℕ → ℕ → Bool) (missing left : ℕ) → missing ≡ 3 * n + left → test [] left ≡ true → pairs_cut n test [] missing ≡ true
pairs_from zero test missing left is h = ap (test []) (is ∙ omega arith) ∙ h
pairs_from (suc n) test missing left is h =
    filled_from 2 (byte_cut (within 0 1) (pairs_cut n test)) missing (missing - 2) (omega (arith, is))
    (filled_from 1 (pairs_cut n test) (missing - 2) (missing - 3) (omega (arith, is)) (pairs_from n test (missing - 3) left (omega (arith, is)) h))

record PairsLeft (n : ℕ) (test : List ℕ → ℕ → Bool) (missing : ℕ) : Type 0 where
  left : ℕ
  counted : missing ≡ 3 * n + left
  goes_on : test [] left ≡ true

pairs_left : (n : ℕ) (test : List ℕ → ℕ → Bool) (missing : ℕ) → pairs_cut n test [] missing ≡ true → PairsLeft n test missing
pairs_left zero test missing h = record { left = missing; counted = omega arith; goes_on = h }
pairs_left (suc n) test missing h =
    let a = filled_parts 2 (byte_cut (within 0 1) (pairs_cut n test)) missing h in
    let b = filled_parts 1 (pairs_cut n test) (missing - 2) a.goes_on in
    let r = pairs_left n test (missing - 2 - 1) b.goes_on in
    record { left = r.left; counted = omega (arith, a.counted, b.counted, r.counted); goes_on = r.goes_on }

abbrev pub Counted : (List ℕ → Type 0) → List ℕ → Type 0
Counted Rest bytes = Then (λ n. n ∷ []) (λ n. ltb n 256) (λ n. Pairs n Rest) bytes

pub decides_conditions : Decides conditions_cut (Counted NameSpelled)
decides_conditions =
    decides_case8 (λ n. pairs_cut n name_cut) (λ n. Pairs n NameSpelled) conditions_none (λ n small. decides_pairs n name_cut NameSpelled decides_name)
    (λ missing few h.
    let p = within_is 3 831 missing h in
    elim (cases_lt missing 768) [
      | inl small ↦
          let n = (missing - 3) / 3 in
          let left = missing - 1 - 3 * n in
          (n, missing - 1, omega (arith, small), omega (arith, p.0), pairs_from n name_cut (missing - 1) left (omega (arith, p.0)) (within_from 2 65 left (omega (arith, p.0)) (omega (arith, p.0))))
      | inr many ↦ (255, missing - 1, omega arith, omega (arith, p.0), pairs_from 255 name_cut (missing - 1) (missing - 766) (omega (arith, many)) (within_from 2 65 (missing - 766) (omega (arith, many)) (omega (arith, p.1))))
    ])
    (λ n left few small h.
    let r = pairs_left n name_cut left h in
    let q = within_is 2 65 r.left r.goes_on in
    within_from 3 831 (1 + left) (omega (arith, r.counted, q.0)) (omega (arith, r.counted, q.1, small)))

pub decides_segments : Decides segments_cut (Counted (Counted NameSpelled))
decides_segments =
    decides_case8 (λ n. pairs_cut n conditions_cut) (λ n. Pairs n (Counted NameSpelled)) segments_none (λ n small. decides_pairs n conditions_cut (Counted NameSpelled) decides_conditions)
    (λ missing few h.
    let p = within_is 4 1597 missing h in
    elim (cases_lt missing 769) [
      | inl small ↦
          let n = (missing - 4) / 3 in
          let left = missing - 1 - 3 * n in
          (n, missing - 1, omega (arith, small), omega (arith, p.0), pairs_from n conditions_cut (missing - 1) left (omega (arith, p.0)) (within_from 3 831 left (omega (arith, p.0)) (omega (arith, p.0))))
      | inr many ↦ (255, missing - 1, omega arith, omega (arith, p.0), pairs_from 255 conditions_cut (missing - 1) (missing - 766) (omega (arith, many)) (within_from 3 831 (missing - 766) (omega (arith, many)) (omega (arith, p.1))))
    ])
    (λ n left few small h.
    let r = pairs_left n conditions_cut left h in
    let q = within_is 3 831 r.left r.goes_on in
    within_from 4 1597 (1 + left) (omega (arith, r.counted, q.0)) (omega (arith, r.counted, q.1, small)))

-- ---- indexes

-- four bytes of a number below 256 that lies within bounds
abbrev pub Small : ℕ → ℕ → (List ℕ → Type 0) → List ℕ → Type 0
Small lo hi Rest bytes = ByteThen (within lo hi) (ByteThen (within 0 0) (ByteThen (within 0 0) (ByteThen (within 0 0) Rest))) bytes

pub decides_small : (lo hi : ℕ) → lo ≤ hi → lo < 256 → (test : List ℕ → ℕ → Bool) (Rest : List ℕ → Type 0) → Decides test Rest → Decides (small_cut lo hi test) (Small lo hi Rest)
decides_small lo hi le lt test Rest d =
    decides_byte (within lo hi) lo lt (within_from lo hi lo (omega arith) le) (byte_cut (within 0 0) (byte_cut (within 0 0) (byte_cut (within 0 0) test))) (ByteThen (within 0 0) (ByteThen (within 0 0) (ByteThen (within 0 0) Rest)))
    (decides_byte (within 0 0) 0 (omega arith) refl (byte_cut (within 0 0) (byte_cut (within 0 0) test)) (ByteThen (within 0 0) (ByteThen (within 0 0) Rest))
    (decides_byte (within 0 0) 0 (omega arith) refl (byte_cut (within 0 0) test) (ByteThen (within 0 0) Rest)
    (decides_byte (within 0 0) 0 (omega arith) refl test Rest d)))

abbrev pub IndexSpelled : List ℕ → Type 0
IndexSpelled bytes = Small 0 0 (Number32 (ByteThen (within 0 255) (ByteThen (within 0 3) (Counted (Counted NameSpelled))))) bytes

pub decides_index : Decides index_cut IndexSpelled
decides_index =
    decides_small 0 0 (omega arith) (omega arith) (number_cut w32 (index_flags_cut segments_cut)) (Number32 (ByteThen (within 0 255) (ByteThen (within 0 3) (Counted (Counted NameSpelled)))))
    (decides_number32 (index_flags_cut segments_cut) (ByteThen (within 0 255) (ByteThen (within 0 3) (Counted (Counted NameSpelled))))
    (decides_byte (within 0 255) 0 (omega arith) refl (byte_cut (within 0 3) segments_cut) (ByteThen (within 0 3) (Counted (Counted NameSpelled)))
    (decides_byte (within 0 3) 0 (omega arith) refl segments_cut (Counted (Counted NameSpelled)) decides_segments)))
