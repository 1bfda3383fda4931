-- The numbers in escrow columns with sums made, and with amounts taken away.
use Rattle.std.proofs.Common.{◌≡◌, ℕ, ◌+◌, ◌-◌, ◌^◌, ◌%◌, ◌<◌, Bool, true, false, cond, List, [], ◌∷◌, Some, refl, sym, ap, ◌∙◌, arith}
use Rattle.std.specs.Prelude.{ℤ, ◌==◌, filter, fold, map, slice_get, unwrap_or, FitsSigned}
use Rattle.std.specs.Int.{w32, cast_signed, cast_unsigned, from_le_bytes, int_wrapping_sub}
use Rattle.std.specs.Ordering.{nat_cmp}
use Rattle.std.specs.Cmp.{nat_cmp_total, unsigned_tied}
use Rattle.std.specs.FinMap.Entries.{find-put}
use Rattle.std.proofs.lemmas.Int.{of_z-to_z}
use Rattle.std.proofs.lemmas.Nat.{from_le_bytes-to_le_bytes_4}
use Rattle.std.proofs.Math.Facts.{Fits-of_z}
use Rattle.std.proofs.Math.Nat.{mod-eq_of_lt}
use Rattle.std.proofs.lemmas.Bool.{eqb-true}
use Rattle.common_lemmas.proofs.Numbers.{self_equal}
use Rattle.column_set.specs.RecordValues.{RecordFields, lookup_by_number, values_of}
use Rattle.database_state.specs.Changes.{escrow_bytes, escrow_sum, with_sum}
use Rattle.database_state.specs.State.{DatabaseState, PastChange, transaction_of}
use Rattle.database_state.specs.View.{newest, view}
use Rattle.laws_versions.specs.Records.{Records, records_of}
use Rattle.laws_versions.specs.History.{IsHistory}
use Rattle.laws_versions.specs.Readers.{found_record}
use Rattle.laws_versions.specs.EscrowSums.{amounts_to, escrow_value, seen_value, unseen_sums, with_sums, without_amount}
use Rattle.laws_versions.proofs.SumLemmas.StoredRecord.{stored_is}

-- ---- one sum

pub values_seen : (values : RecordFields) (c d : ℕ) (a : ℤ) → values_of (with_sum values c a) d ≡ cond (d == c) (escrow_sum (escrow_bytes values c) a ∷ []) (values_of values d)
values_seen values c d a =
    ap (λ found. unwrap_or found []) (find-put nat_cmp nat_cmp_total d c (escrow_sum (escrow_bytes values c) a ∷ []) values)
    ∙ ap (λ b. unwrap_or (cond b (Some (escrow_sum (escrow_bytes values c) a ∷ [])) (lookup_by_number d values)) []) (unsigned_tied d c)
    ∙ elim (d == c) as (λ b. unwrap_or (cond b (Some (escrow_sum (escrow_bytes values c) a ∷ [])) (lookup_by_number d values)) [] ≡ cond b (escrow_sum (escrow_bytes values c) a ∷ []) (values_of values d)) [ true ↦ refl | false ↦ refl ]

turned : (c d : ℕ) → (d == c) ≡ (c == d)
turned c d = by (d == c) (c == d) (λ e. ap (λ n. c == n) (eqb-true d c e) ∙ self_equal c) (λ e. ap (λ n. d == n) (eqb-true c d e) ∙ self_equal d)
  where
    by : (a b : Bool) → (a ≡ true → b ≡ true) → (b ≡ true → a ≡ true) → a ≡ b
    by true b f g = sym (f refl)
    by false true f g = g refl
    by false false f g = refl

-- the number of an escrow column, and what a sum makes of it
abbrev pub number_in : RecordFields → ℕ → ℕ
number_in values column = from_le_bytes w32 (escrow_bytes values column) % 2 ^ 32

abbrev pub plus : ℕ → ℤ → ℕ
plus n a = (n + cast_unsigned w32 a) % 2 ^ 32

abbrev pub minus : ℕ → ℤ → ℕ
minus n a = (n + (2 ^ 32 - cast_unsigned w32 a % 2 ^ 32)) % 2 ^ 32

small : (n : ℕ) → n % 4294967296 < 4294967296
small n = omega arith

again : (n u : ℕ) → (n + u) % 4294967296 % 4294967296 ≡ (n % 4294967296 + u) % 4294967296
again n u = omega arith

number_of_sum : (stored : List ℕ) (a : ℤ) → from_le_bytes w32 (escrow_sum stored a) % 2 ^ 32 ≡ plus (from_le_bytes w32 stored % 2 ^ 32) a
number_of_sum stored a =
    ap (λ n. n % 2 ^ 32) (from_le_bytes-to_le_bytes_4 ((from_le_bytes w32 stored + cast_unsigned w32 a) % 2 ^ 32) (small (from_le_bytes w32 stored + cast_unsigned w32 a)))
    ∙ again (from_le_bytes w32 stored) (cast_unsigned w32 a)

pub one_sum : (values : RecordFields) (c d : ℕ) (a : ℤ) → number_in (with_sum values c a) d ≡ cond (c == d) (plus (number_in values d) a) (number_in values d)
one_sum values c d a =
    ap (λ found. from_le_bytes w32 (unwrap_or (slice_get found 0) (0 ∷ 0 ∷ 0 ∷ 0 ∷ [])) % 2 ^ 32) (values_seen values c d a ∙ ap (λ b. cond b (escrow_sum (escrow_bytes values c) a ∷ []) (values_of values d)) (turned c d))
    ∙ elim (c == d) as (λ b. (c == d) ≡ b → from_le_bytes w32 (unwrap_or (slice_get (cond b (escrow_sum (escrow_bytes values c) a ∷ []) (values_of values d)) 0) (0 ∷ 0 ∷ 0 ∷ 0 ∷ [])) % 2 ^ 32
    ≡ cond b (plus (number_in values d) a) (number_in values d)) [
      | true ↦ λ e. number_of_sum (escrow_bytes values c) a ∙ ap (λ (k : ℕ). plus (number_in values k) a) (eqb-true c d e)
      | false ↦ λ e. refl
    ] refl

-- ---- all of them

pub all_sums : (values : RecordFields) (d : ℕ) (sums : List (ℕ × ℤ)) → number_in (with_sums values sums) d ≡ fold plus (number_in values d) (amounts_to d sums)
all_sums values d [] = refl
all_sums values d (sum ∷ sums) =
    all_sums (with_sum values sum.0 sum.1) d sums
    ∙ ap (λ n. fold plus n (amounts_to d sums)) (one_sum values sum.0 d sum.1)
    ∙ elim (sum.0 == d) as (λ b. fold plus (cond b (plus (number_in values d) sum.1) (number_in values d)) (amounts_to d sums)
    ≡ fold plus (number_in values d) (map (λ one. one.1) (cond b (sum ∷ filter (λ one. one.0 == d) sums) (filter (λ one. one.0 == d) sums)))) [ true ↦ refl | false ↦ refl ]

pub other_columns : (values : RecordFields) (d : ℕ) (sums : List (ℕ × ℤ)) → amounts_to d sums ≡ [] → values_of (with_sums values sums) d ≡ values_of values d
other_columns values d [] h = refl
other_columns values d (sum ∷ sums) h =
    elim (sum.0 == d) as (λ b. (sum.0 == d) ≡ b → map (λ one. one.1) (cond b (sum ∷ filter (λ one. one.0 == d) sums) (filter (λ one. one.0 == d) sums)) ≡ [] → values_of (with_sums values (sum ∷ sums)) d ≡ values_of values d) [
      | true ↦ λ e g. absurd (filled g)
      | false ↦ λ e g. other_columns (with_sum values sum.0 sum.1) d sums g
          ∙ values_seen values sum.0 d sum.1
          ∙ ap (λ b. cond b (escrow_sum (escrow_bytes values sum.0) sum.1 ∷ []) (values_of values d)) (turned sum.0 d ∙ e)
    ] refl h
  where
    filled : {x : ℤ} {xs : List ℤ} → x ∷ xs ≡ [] → ⊥
    filled e = cc

-- ---- amounts taken away

swapped : (n u v : ℕ) → ((n + u) % 4294967296 + v) % 4294967296 ≡ ((n + v) % 4294967296 + u) % 4294967296
swapped n u v = omega arith

taken : (n u : ℕ) → n < 4294967296 → ((n + u) % 4294967296 + (4294967296 - u % 4294967296)) % 4294967296 ≡ n
taken n u h = omega arith

back : (n : ℕ) (a : ℤ) (amounts : List ℤ) → n < 2 ^ 32 → minus (fold plus (plus n a) amounts) a ≡ fold plus n amounts
back n a [] h = taken n (cast_unsigned w32 a) h
back n a (b ∷ amounts) h =
    ap (λ m. minus (fold plus m amounts) a) (swapped n (cast_unsigned w32 a) (cast_unsigned w32 b))
    ∙ back (plus n b) a amounts (small (n + cast_unsigned w32 b))

all_taken : (n : ℕ) (amounts : List ℤ) → n < 2 ^ 32 → fold minus (fold plus n amounts) amounts ≡ n
all_taken n [] h = refl
all_taken n (a ∷ amounts) h = ap (λ m. fold minus m amounts) (back n a amounts h) ∙ all_taken n amounts h

below : (n : ℕ) (amounts : List ℤ) → n < 2 ^ 32 → fold plus n amounts < 2 ^ 32
below n [] h = h
below n (a ∷ amounts) h = below (plus n a) amounts (small (n + cast_unsigned w32 a))

-- in two's complement
pub signed_minus : (n : ℕ) (amounts : List ℤ) → n < 2 ^ 32 → seen_value (cast_signed w32 n) amounts ≡ cast_signed w32 (fold minus n amounts)
signed_minus n [] h = refl
signed_minus n (a ∷ amounts) h =
    ap (λ m. seen_value (cast_signed w32 ((m + (2 ^ 32 - cast_unsigned w32 a % 2 ^ 32)) % 2 ^ 32)) amounts) (of_z-to_z w32 n h)
    ∙ signed_minus (minus n a) amounts (small (n + (2 ^ 32 - cast_unsigned w32 a % 2 ^ 32)))

pub value_without : (values : RecordFields) (column : ℕ) (sums : List (ℕ × ℤ)) → escrow_value values column ≡ seen_value (escrow_value (with_sums values sums) column) (amounts_to column sums)
value_without values column sums =
    sym (ap (λ n. seen_value (cast_signed w32 n) (amounts_to column sums)) (all_sums values column sums)
    ∙ signed_minus (fold plus (number_in values column) (amounts_to column sums)) (amounts_to column sums) (below (number_in values column) (amounts_to column sums) fits)
    ∙ ap (cast_signed w32) (all_taken (number_in values column) (amounts_to column sums) fits))
  where
    fits : number_in values column < 2 ^ 32
    fits = small (from_le_bytes w32 (escrow_bytes values column))

pub is_wrapping : (stored amount : ℤ) → FitsSigned w32 amount → without_amount stored amount ≡ int_wrapping_sub w32 stored amount
is_wrapping stored amount h = ap (λ n. cast_signed w32 ((cast_unsigned w32 stored + (2 ^ 32 - n)) % 2 ^ 32)) (mod-eq_of_lt (Fits-of_z h).fits)

-- ---- what a session sees

pub columns_seen : (base : Records) (dropped kept : List PastChange) (state : DatabaseState) → IsHistory base dropped kept state → (session table : ℕ) (bookmark : List ℕ) (stored seen : RecordFields)
    → found_record session (transaction_of state session) table bookmark (records_of (newest state) table bookmark) kept ≡ Some stored → records_of (view state session) table bookmark ≡ Some seen
    → (column : ℕ) → amounts_to column (unseen_sums session (transaction_of state session) table bookmark kept) ≡ [] → values_of seen column ≡ values_of stored column
columns_seen base dropped kept state h session table bookmark stored seen found view_has column none =
    sym (ap (λ values. values_of values column) (stored_is base dropped kept state h session table bookmark stored seen found view_has)
    ∙ other_columns seen column (unseen_sums session (transaction_of state session) table bookmark kept) none)

pub sums_seen : (base : Records) (dropped kept : List PastChange) (state : DatabaseState) → IsHistory base dropped kept state → (session table : ℕ) (bookmark : List ℕ) (stored seen : RecordFields)
    → found_record session (transaction_of state session) table bookmark (records_of (newest state) table bookmark) kept ≡ Some stored → records_of (view state session) table bookmark ≡ Some seen
    → (column : ℕ) → escrow_value seen column ≡ seen_value (escrow_value stored column) (amounts_to column (unseen_sums session (transaction_of state session) table bookmark kept))
sums_seen base dropped kept state h session table bookmark stored seen found view_has column =
    value_without seen column (unseen_sums session (transaction_of state session) table bookmark kept)
    ∙ sym (ap (λ values. seen_value (escrow_value values column) (amounts_to column (unseen_sums session (transaction_of state session) table bookmark kept))) (stored_is base dropped kept state h session table bookmark stored seen found view_has))
