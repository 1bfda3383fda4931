-- Walks over rows, step by step.
use Rattle.std.proofs.Common.{◌≡◌, ℕ, ◌+◌, ◌-◌, ◌<◌, ◌≤◌, suc, zero, true, false, cond, not, List, [], ◌∷◌, ◌++◌, length, map, filter, refl, sym, ap, ◌∙◌, arith}
use Rattle.column_set.specs.RecordValues.{RecordFields}
use Rattle.index_derive.specs.declared.plan.KeyPart.{KeyPart}
use Rattle.index_derive.specs.declared.walk.Walk.{Walk}
use Rattle.index_derive.specs.declared.rules.IndexRule.{IndexRule}
use Rattle.index_derive.specs.Entries.{KeyValues, is_ignored}
use Rattle.index_derive.specs.Walks.{from_on, rows_from, rest_of_rows, row_count, row_length, values_in, candidate_of, candidates_of, values_left, candidates_left}

rest-step : {X : Type 0} (f : ℕ → ℕ → X) (len : ℕ → ℕ) (row at n : ℕ) → at < len row → rest_of_rows f len row at (suc n) ≡ f row at ∷ rest_of_rows f len row (at + 1) (suc n)
rest-step f len row at n h =
    let e : len row - at ≡ suc (len row - (at + 1)) = omega arith in
    ap (λ k. from_on (f row) at k ++ rows_from f len (row + 1) n) e

pub rest-fresh : {X : Type 0} (f : ℕ → ℕ → X) (len : ℕ → ℕ) (row n : ℕ) → rows_from f len row n ≡ rest_of_rows f len row 0 n
rest-fresh f len row zero = refl
rest-fresh f len row (suc n) =
    let e : len row ≡ len row - 0 = omega arith in
    ap (λ k. from_on (f row) 0 k ++ rows_from f len (row + 1) n) e

rest-row : {X : Type 0} (f : ℕ → ℕ → X) (len : ℕ → ℕ) (row at n : ℕ) → len row ≤ at → rest_of_rows f len row at (suc n) ≡ rest_of_rows f len (row + 1) 0 n
rest-row f len row at n h =
    let e : len row - at ≡ 0 = omega arith in
    ap (λ k. from_on (f row) at k ++ rows_from f len (row + 1) n) e ∙ rest-fresh f len (row + 1) n

-- the same where the rows left are counted from the row
pub left-step : {X : Type 0} (f : ℕ → ℕ → X) (len : ℕ → ℕ) (rows row at : ℕ) → row < rows → at < len row → rest_of_rows f len row at (rows - row) ≡ f row at ∷ rest_of_rows f len row (at + 1) (rows - row)
left-step f len rows row at h k =
    let e : rows - row ≡ suc (rows - (row + 1)) = omega arith in
    ap (rest_of_rows f len row at) e ∙ rest-step f len row at (rows - (row + 1)) k ∙ ap (λ n. f row at ∷ rest_of_rows f len row (at + 1) n) (sym e)

pub left-row : {X : Type 0} (f : ℕ → ℕ → X) (len : ℕ → ℕ) (rows row at : ℕ) → row < rows → len row ≤ at → rest_of_rows f len row at (rows - row) ≡ rest_of_rows f len (row + 1) 0 (rows - (row + 1))
left-row f len rows row at h k =
    let e : rows - row ≡ suc (rows - (row + 1)) = omega arith in
    ap (rest_of_rows f len row at) e ∙ rest-row f len row at (rows - (row + 1)) k

pub left-none : {X : Type 0} (f : ℕ → ℕ → X) (len : ℕ → ℕ) (rows row at : ℕ) → rows ≤ row → rest_of_rows f len row at (rows - row) ≡ []
left-none f len rows row at h = let e : rows - row ≡ 0 = omega arith in ap (rest_of_rows f len row at) e

-- ---- of a walk

-- what no flag leaves out behind the place
abbrev kept : IndexRule → List KeyPart → RecordFields → ℕ → ℕ → List KeyValues
kept rule parts fields row at = filter (λ values. not (is_ignored rule.flags values)) (values_left rule parts fields (record { row = row; at = at + 1 }))

pub candidates-kept : (rule : IndexRule) (parts : List KeyPart) (fields : RecordFields) (row at : ℕ) → row < row_count rule.flags parts fields → at < row_length rule.flags parts fields row
    → is_ignored rule.flags (values_in rule.flags parts fields row at) ≡ false
    → candidates_left rule parts fields (record { row = row; at = at }) ≡ candidate_of rule parts (values_in rule.flags parts fields row at) ∷ candidates_left rule parts fields (record { row = row; at = at + 1 })
unfolding candidates_left
candidates-kept rule parts fields row at h k e =
    ap (candidates_of rule parts) (left-step (values_in rule.flags parts fields) (row_length rule.flags parts fields) (row_count rule.flags parts fields) row at h k)
    ∙ ap (λ b. map (candidate_of rule parts) (cond (not b) (values_in rule.flags parts fields row at ∷ kept rule parts fields row at) (kept rule parts fields row at))) e

pub candidates-ignored : (rule : IndexRule) (parts : List KeyPart) (fields : RecordFields) (row at : ℕ) → row < row_count rule.flags parts fields → at < row_length rule.flags parts fields row
    → is_ignored rule.flags (values_in rule.flags parts fields row at) ≡ true
    → candidates_left rule parts fields (record { row = row; at = at }) ≡ candidates_left rule parts fields (record { row = row; at = at + 1 })
unfolding candidates_left
candidates-ignored rule parts fields row at h k e =
    ap (candidates_of rule parts) (left-step (values_in rule.flags parts fields) (row_length rule.flags parts fields) (row_count rule.flags parts fields) row at h k)
    ∙ ap (λ b. map (candidate_of rule parts) (cond (not b) (values_in rule.flags parts fields row at ∷ kept rule parts fields row at) (kept rule parts fields row at))) e

pub candidates-row : (rule : IndexRule) (parts : List KeyPart) (fields : RecordFields) (row at : ℕ) → row < row_count rule.flags parts fields → row_length rule.flags parts fields row ≤ at
    → candidates_left rule parts fields (record { row = row; at = at }) ≡ candidates_left rule parts fields (record { row = row + 1; at = 0 })
unfolding candidates_left
candidates-row rule parts fields row at h k =
    ap (candidates_of rule parts) (left-row (values_in rule.flags parts fields) (row_length rule.flags parts fields) (row_count rule.flags parts fields) row at h k)

pub candidates-none : (rule : IndexRule) (parts : List KeyPart) (fields : RecordFields) (row at : ℕ) → row_count rule.flags parts fields ≤ row → candidates_left rule parts fields (record { row = row; at = at }) ≡ []
unfolding candidates_left
candidates-none rule parts fields row at h =
    ap (candidates_of rule parts) (left-none (values_in rule.flags parts fields) (row_length rule.flags parts fields) (row_count rule.flags parts fields) row at h)

-- ---- the steps that a walk may still make: one for each of the values left, and one for each row left

abbrev pub steps_left : IndexRule → List KeyPart → RecordFields → Walk → ℕ
steps_left rule parts fields walk = length (values_left rule parts fields walk) + (row_count rule.flags parts fields - walk.row)

pub steps-fall : (rule : IndexRule) (parts : List KeyPart) (fields : RecordFields) (row at : ℕ) → row < row_count rule.flags parts fields → at < row_length rule.flags parts fields row
    → steps_left rule parts fields (record { row = row; at = at + 1 }) < steps_left rule parts fields (record { row = row; at = at })
steps-fall rule parts fields row at h k =
    omega (arith, ap length (left-step (values_in rule.flags parts fields) (row_length rule.flags parts fields) (row_count rule.flags parts fields) row at h k))

pub steps-fall_row : (rule : IndexRule) (parts : List KeyPart) (fields : RecordFields) (row at : ℕ) → row < row_count rule.flags parts fields → row_length rule.flags parts fields row ≤ at
    → steps_left rule parts fields (record { row = row + 1; at = 0 }) < steps_left rule parts fields (record { row = row; at = at })
steps-fall_row rule parts fields row at h k =
    omega (arith, ap length (left-row (values_in rule.flags parts fields) (row_length rule.flags parts fields) (row_count rule.flags parts fields) row at h k))
