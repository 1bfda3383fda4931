-- A sum that is undone is taken away again, whatever sums of others came after it.
use Rattle.std.proofs.Common.{◌≡◌, ℕ, ◌+◌, ◌-◌, ◌^◌, ◌%◌, ◌<◌, ◌≤◌, true, cond, zero, suc, List, [], ◌∷◌, ◌++◌, Option, Some, None, refl, ap, ◌∙◌, arith}
use Rattle.std.specs.Prelude.{ℤ, pos, negsuc, neg_ℤ, map, option_map, FitsSigned}
use Rattle.std.specs.Int.{w32, cast_signed, cast_unsigned, from_le_bytes, int_wrapping_neg, to_le_bytes}
use Rattle.column_set.specs.declared.changes.Change.{Change}
use Rattle.column_set.specs.declared.changes.Change.TheVariants.{Put, Drop, Hold, Add}
use Rattle.column_set.specs.RecordValues.{RecordFields, put_by_number}
use Rattle.database_state.specs.Changes.{escrow_bytes, is_sum, with_sum}
use Rattle.column_set.specs.ChangedRecords.{changed_table, changed_bookmark}
use Rattle.database_state.specs.State.{PastChange}
use Rattle.std.proofs.lemmas.Int.{of_z-to_z}
use Rattle.std.proofs.lemmas.Bool.{and_from}
use Rattle.common_lemmas.proofs.Numbers.{equal_bytes, self_equal}
use Rattle.common_lemmas.proofs.Booleans.{impossible}
use Rattle.laws_versions.specs.Records.{Records, record_after, records_after_items}
use Rattle.laws_versions.specs.Readers.{is_standing}
use Rattle.laws_versions.proofs.HistoryLemmas.Undoing.{IsLastOf, made_last}
use Rattle.laws_versions.specs.EscrowSums.{escrow_value, seen_value, sums_by, with_sums, without_amount}
use Rattle.laws_versions.proofs.SumLemmas.StoredSums.{number_in, one_sum, plus, value_without}

-- ---- the record that it leaves

made : (c : Change) → is_sum c ≡ true → (r : Option RecordFields) → record_after c r ≡ option_map (λ values. with_sums values (sums_by c)) r
made (Put t b copied values) e r = impossible e
made (Drop t b) e r = impossible e
made (Hold t b) e r = impossible e
made (Add t b c a) e None = refl
made (Add t b c a) e (Some values) = refl

pub undone_sum : (base : Records) (front : List PastChange) (item : PastChange) (rest : List PastChange) → is_standing item ≡ true → is_sum item.change ≡ true → IsLastOf item rest
    → records_after_items is_standing base (front ++ item ∷ rest) (changed_table item.change) (changed_bookmark item.change)
    ≡ option_map (λ values. with_sums values (sums_by item.change)) (records_after_items is_standing base (front ++ rest) (changed_table item.change) (changed_bookmark item.change))
undone_sum base front item rest live sum last =
    ap (λ (r : Records). r (changed_table item.change) (changed_bookmark item.change)) (made_last base front item rest live last)
    ∙ ap (λ b. cond b (record_after item.change without) without) (and_from _ _ (self_equal (changed_table item.change)) (equal_bytes (changed_bookmark item.change) (changed_bookmark item.change) refl))
    ∙ made item.change sum without
  where
    without : Option RecordFields
    without = records_after_items is_standing base (front ++ rest) (changed_table item.change) (changed_bookmark item.change)

-- ---- its number

pub number_taken : (values : RecordFields) (column : ℕ) (amount : ℤ) → escrow_value values column ≡ without_amount (escrow_value (with_sum values column amount) column) amount
number_taken values column amount =
    value_without values column ((column, amount) ∷ [])
    ∙ ap (λ b. seen_value (escrow_value (with_sum values column amount) column) (map (λ (one : ℕ × ℤ). one.1) (cond b ((column, amount) ∷ []) []))) (self_equal column)

there_and_back : (n u : ℕ) → n < 4294967296 → u ≤ 4294967296 → ((n + u) % 4294967296 + (4294967296 - u)) % 4294967296 ≡ n
there_and_back n u h g = omega arith

back_and_there : (n u : ℕ) → n < 4294967296 → u ≤ 4294967296 → ((n + (4294967296 - u)) % 4294967296 + u) % 4294967296 ≡ n
back_and_there n u h g = omega arith

nothing : (n : ℕ) → n < 4294967296 → ((n + 0) % 4294967296 + 0) % 4294967296 ≡ n
nothing n h = omega arith

within : (k : ℕ) → k < 2147483648 → suc k ≤ 4294967296
within k h = omega arith

within_all : (k : ℕ) → suc k < 2147483648 → suc k ≤ 4294967296
within_all k h = omega arith

pub opposite : (n : ℕ) (amount : ℤ) → FitsSigned w32 amount → n < 2 ^ 32 → plus (plus n amount) (neg_ℤ amount) ≡ n
opposite n (pos zero) f h = nothing n h
opposite n (pos (suc k)) f h = there_and_back n (suc k) h (within_all k f.sfits)
opposite n (negsuc k) f h = back_and_there n (suc k) h (within k f.sfits)

small : (n : ℕ) → n % 4294967296 < 4294967296
small n = omega arith

pub opposite_sum : (values : RecordFields) (column : ℕ) (amount : ℤ) → FitsSigned w32 amount → escrow_value (with_sum (with_sum values column amount) column (neg_ℤ amount)) column ≡ escrow_value values column
opposite_sum values column amount f =
    ap (cast_signed w32)
    (one_sum (with_sum values column amount) column column (neg_ℤ amount) ∙ ap (λ b. cond b (plus (number_in (with_sum values column amount) column) (neg_ℤ amount)) (number_in (with_sum values column amount) column)) (self_equal column)
    ∙ ap (λ n. plus n (neg_ℤ amount)) (one_sum values column column amount ∙ ap (λ b. cond b (plus (number_in values column) amount) (number_in values column)) (self_equal column))
    ∙ opposite (number_in values column) amount f (small (from_le_bytes w32 (escrow_bytes values column))))

-- ---- the opposite amount at 32 bits

rest_of_none : (s : ℕ) → (s + 4294967296 % 4294967296) % 4294967296 ≡ (s + 0) % 4294967296
rest_of_none s = omega arith

rest_of : (s u : ℕ) → 1 ≤ u → u ≤ 4294967296 → (s + (4294967296 - u) % 4294967296) % 4294967296 ≡ (s + (4294967296 - u)) % 4294967296
rest_of s u l h = omega arith

rest_of_rest : (s u : ℕ) → u ≤ 4294967296 → (s + (4294967296 - (4294967296 - u)) % 4294967296) % 4294967296 ≡ (s + u) % 4294967296
rest_of_rest s u h = omega arith

least : (k : ℕ) → 1 ≤ suc k
least k = omega arith

wrapped : (s : ℕ) (amount : ℤ) → FitsSigned w32 amount → (s + (2 ^ 32 - cast_unsigned w32 amount) % 2 ^ 32) % 2 ^ 32 ≡ plus s (neg_ℤ amount)
wrapped s (pos zero) f = rest_of_none s
wrapped s (pos (suc k)) f = rest_of s (suc k) (least k) (within_all k f.sfits)
wrapped s (negsuc k) f = rest_of_rest s (suc k) (within k f.sfits)

pub wrapped_sum : (values : RecordFields) (column : ℕ) (amount : ℤ) → FitsSigned w32 amount → with_sum values column (int_wrapping_neg w32 amount) ≡ with_sum values column (neg_ℤ amount)
wrapped_sum values column amount f =
    ap (λ (n : ℕ). put_by_number column (to_le_bytes w32 ((stored + n) % 2 ^ 32) ∷ []) values) (of_z-to_z w32 ((2 ^ 32 - cast_unsigned w32 amount) % 2 ^ 32) (small (2 ^ 32 - cast_unsigned w32 amount)))
    ∙ ap (λ (n : ℕ). put_by_number column (to_le_bytes w32 n ∷ []) values) (wrapped stored amount f)
  where
    stored : ℕ
    stored = from_le_bytes w32 (escrow_bytes values column)
