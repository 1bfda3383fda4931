-- A sum and the opposite one leave the very record.
use Rattle.std.proofs.Common.{◌≡◌, ℕ, ◌+◌, ◌-◌, ◌*◌, ◌/◌, ◌≤◌, ◌^◌, ◌%◌, ◌<◌, Bool, true, false, cond, zero, suc, List, [], ◌∷◌, Option, Some, None, refl, sym, ap, ◌∙◌, arith}
use Rattle.std.specs.Prelude.{ℤ, pos, negsuc, neg_ℤ, ◌==◌, get_or, length, nat_lt, slice_get, FitsSigned, unwrap_or}
use Rattle.std.specs.Int.{w32, cast_signed, cast_unsigned, from_le_bytes, to_le_bytes}
use Rattle.std.specs.List.{list_all}
use Rattle.std.specs.Cmp.{nat_cmp_total, unsigned_tied}
use Rattle.std.specs.Ordering.{nat_cmp}
use Rattle.std.specs.FinMap.Entries.{find-put, is_sorted-put}
use Rattle.std.proofs.lemmas.Bool.Decides.{nat_tests}
use Rattle.std.proofs.Math.Facts.{to_z-neg}
use Rattle.std.proofs.Math.Nat.{mod-eq_of_lt}
use Rattle.std.proofs.lemmas.Int.{to_z_pos}
use Rattle.std.proofs.lemmas.Nat.{from_le_bytes-to_le_bytes_4, le_bytes_4}
use Rattle.std.proofs.lemmas.Bool.{and_from, eqb-true}
use Rattle.common_lemmas.proofs.Booleans.{and_left, and_right, impossible}
use Rattle.common_lemmas.proofs.Numbers.{self_equal}
use Rattle.jet_base.specs.declared.words.ColType.TheVariants.{Long}
use Rattle.jet_base.specs.ColumnType.{from_little_endian, from_twos_complement, number_of}
use Rattle.column_set.specs.RecordValues.{RecordFields, lookup_by_number, put_by_number, values_of}
use Rattle.database_state.specs.Changes.{escrow_bytes, escrow_sum, with_sum}
use Rattle.laws_versions.specs.EscrowNumbers.{ColumnsRise, holds_number, is_number, is_one_number}
use Rattle.laws_versions.specs.EscrowSums.{escrow_value}
use Rattle.laws_versions.proofs.SumLemmas.Puts.{put_again, put_found}
use Rattle.laws_versions.proofs.SumLemmas.StoredSums.{plus, values_seen}
use Rattle.laws_versions.proofs.SumLemmas.UndoneSums.{opposite}

-- ---- numbers of four bytes

small_byte : (n : ℕ) → nat_lt (n % 256) 256 ≡ true
small_byte n = let le : n % 256 < 256 = omega arith in below (n % 256) le
  where
    below : (m : ℕ) → m < 256 → nat_lt m 256 ≡ true
    below m le = grind (arith, nat_tests)

pub number_written : (n : ℕ) → is_number (to_le_bytes w32 n) ≡ true
number_written n = and_from _ _ (small_byte n) (and_from _ _ (small_byte (n / 256)) (and_from _ _ (small_byte (n / 65536)) (and_from _ _ (small_byte (n / 16777216)) refl)))

byte_small : (bytes : List ℕ) → list_all (λ b. nat_lt b 256) bytes ≡ true → (i : ℕ) → get_or bytes i 0 < 256
byte_small [] h i = nothing
  where
    nothing : 0 < 256
    nothing = omega arith
byte_small (b ∷ bytes) h zero = below b (and_left _ _ h)
  where
    below : (m : ℕ) → nat_lt m 256 ≡ true → m < 256
    below m e = grind (arith, nat_tests)
byte_small (b ∷ bytes) h (suc i) = byte_small bytes (and_right (nat_lt b 256) _ h) i

pub number_read : (bytes : List ℕ) → is_number bytes ≡ true → to_le_bytes w32 (from_le_bytes w32 bytes) ≡ bytes
number_read bytes h = le_bytes_4 bytes (from_le_bytes w32 bytes) (eqb-true (length bytes) 4 (and_left _ _ h)) (byte_small bytes (and_right (length bytes == 4) _ h)) refl

four_bytes : (a b c d : ℕ) → a < 256 → b < 256 → c < 256 → d < 256 → a + b * 256 + c * 65536 + d * 16777216 < 4294967296
four_bytes a b c d f g h k = omega arith

pub number_below : (bytes : List ℕ) → is_number bytes ≡ true → from_le_bytes w32 bytes < 2 ^ 32
number_below bytes h = at bytes (eqb-true (length bytes) 4 (and_left _ _ h)) (byte_small bytes (and_right (length bytes == 4) _ h))
  where
    at : (bytes : List ℕ) → length bytes ≡ 4 → ((i : ℕ) → get_or bytes i 0 < 256) → from_le_bytes w32 bytes < 2 ^ 32
    at [] l s = absurd (omega arith)
    at (a ∷ []) l s = absurd (omega arith)
    at (a ∷ b ∷ []) l s = absurd (omega arith)
    at (a ∷ b ∷ c ∷ []) l s = absurd (omega arith)
    at (a ∷ b ∷ c ∷ d ∷ []) l s = four_bytes a b c d (s 0) (s 1) (s 2) (s 3)
    at (a ∷ b ∷ c ∷ d ∷ e ∷ bytes) l s = absurd (omega arith)

-- ---- the one value

-- the bytes in a column of which these values were found
abbrev bytes_in : Option (List (List ℕ)) → List ℕ
bytes_in o = unwrap_or (slice_get (unwrap_or o []) 0) (0 ∷ 0 ∷ 0 ∷ 0 ∷ [])

-- the value of a column that holds a number, and where it stands
pub one_value : (values : RecordFields) (column : ℕ) → holds_number values column ≡ true → (lookup_by_number column values ≡ Some (escrow_bytes values column ∷ [])) × (is_number (escrow_bytes values column) ≡ true)
one_value values column h = by (lookup_by_number column values) h
  where
    by : (o : Option (List (List ℕ))) → is_one_number (unwrap_or o []) ≡ true → (o ≡ Some (bytes_in o ∷ [])) × (is_number (bytes_in o) ≡ true)
    by None h = impossible h
    by (Some []) h = impossible h
    by (Some (value ∷ [])) h = (refl, h)
    by (Some (value ∷ next ∷ rest)) h = impossible h

pub sum_is_number : (stored : List ℕ) (amount : ℤ) → is_number (escrow_sum stored amount) ≡ true
sum_is_number stored amount = number_written ((from_le_bytes w32 stored + cast_unsigned w32 amount) % 2 ^ 32)

-- a column that holds a number does so after a sum
pub sum_holds : (values : RecordFields) (c d : ℕ) (amount : ℤ) → holds_number values d ≡ true → holds_number (with_sum values c amount) d ≡ true
sum_holds values c d amount h =
    ap is_one_number (values_seen values c d amount)
    ∙ elim (d == c) as (λ b. is_one_number (cond b (escrow_sum (escrow_bytes values c) amount ∷ []) (values_of values d)) ≡ true) [
      | true ↦ sum_is_number (escrow_bytes values c) amount
      | false ↦ h
    ]

pub sum_rises : (values : RecordFields) (c : ℕ) (amount : ℤ) → ColumnsRise values → ColumnsRise (with_sum values c amount)
sum_rises values c amount rise = is_sorted-put nat_cmp nat_cmp_total c (escrow_sum (escrow_bytes values c) amount ∷ []) values rise

-- ---- the number that is answered

signed_number : (n : ℕ) → n < 2 ^ 32 → from_twos_complement 32 n ≡ cast_signed w32 (n % 2 ^ 32)
signed_number n h = by (nat_lt n (2 ^ 31)) refl ∙ ap (cast_signed w32) (sym (mod-eq_of_lt h))
  where
    lower : (n : ℕ) → nat_lt n 2147483648 ≡ true → n < 2147483648
    lower n e = grind (arith, nat_tests)

    upper : (n : ℕ) → nat_lt n 2147483648 ≡ false → 2147483648 ≤ n
    upper n e = grind (arith, nat_tests)

    written : (n : ℕ) → n < 4294967296 → 4294967296 - suc (4294967296 - n - 1) ≡ n
    written n h = omega arith

    below : (n : ℕ) → n < 4294967296 → 2147483648 ≤ n → 4294967296 - n - 1 < 2147483648
    below n h le = omega arith

    by : (b : Bool) → nat_lt n (2 ^ 31) ≡ b → from_twos_complement 32 n ≡ cast_signed w32 n
    by true e = ap (λ x. cond x (pos n) (negsuc (2 ^ 32 - n - 1))) e ∙ sym (to_z_pos w32 n (lower n e))
    by false e = ap (λ x. cond x (pos n) (negsuc (2 ^ 32 - n - 1))) e ∙ sym (to_z-neg w32 (4294967296 - n - 1) (below n h (upper n e))) ∙ ap (cast_signed w32) (written n h)

low_first : (bytes : List ℕ) → length bytes ≡ 4 → from_little_endian bytes ≡ from_le_bytes w32 bytes
low_first [] l = absurd (omega arith)
low_first (a ∷ []) l = absurd (omega arith)
low_first (a ∷ b ∷ []) l = absurd (omega arith)
low_first (a ∷ b ∷ c ∷ []) l = absurd (omega arith)
low_first (a ∷ b ∷ c ∷ d ∷ []) l = four a b c d
  where
    four : (a b c d : ℕ) → a + 256 * (b + 256 * (c + 256 * (d + 256 * 0))) ≡ a + b * 256 + c * 65536 + d * 16777216
    four a b c d = omega arith
low_first (a ∷ b ∷ c ∷ d ∷ e ∷ bytes) l = absurd (omega arith)

pub read_as_long : (values : RecordFields) (column : ℕ) → holds_number values column ≡ true → number_of Long (escrow_bytes values column) ≡ escrow_value values column
read_as_long values column h =
    let one = one_value values column h in
    ap (λ (n : ℕ). from_twos_complement 32 n) (low_first (escrow_bytes values column) (eqb-true (length (escrow_bytes values column)) 4 (and_left _ _ one.1)))
    ∙ signed_number (from_le_bytes w32 (escrow_bytes values column)) (number_below (escrow_bytes values column) one.1)

-- ---- there and back

-- the bytes of a column after others were put there
put_bytes : (values : RecordFields) (column : ℕ) (bytes : List ℕ) → escrow_bytes (put_by_number column (bytes ∷ []) values) column ≡ bytes
put_bytes values column bytes =
    ap bytes_in (find-put nat_cmp nat_cmp_total column column (bytes ∷ []) values)
    ∙ ap (λ b. bytes_in (cond b (Some (bytes ∷ [])) (lookup_by_number column values))) (unsigned_tied column column ∙ self_equal column)

back_sum : (stored : List ℕ) (amount : ℤ) → FitsSigned w32 amount → is_number stored ≡ true → escrow_sum (escrow_sum stored amount) (neg_ℤ amount) ≡ stored
back_sum stored amount fits h =
    ap (λ n. to_le_bytes w32 (plus n (neg_ℤ amount))) (from_le_bytes-to_le_bytes_4 (plus (from_le_bytes w32 stored) amount) (small (from_le_bytes w32 stored + cast_unsigned w32 amount)))
    ∙ ap (to_le_bytes w32) (opposite (from_le_bytes w32 stored) amount fits (number_below stored h))
    ∙ number_read stored h
  where
    small : (n : ℕ) → n % 4294967296 < 4294967296
    small n = omega arith

pub very_record : (values : RecordFields) (column : ℕ) (amount : ℤ) → FitsSigned w32 amount → ColumnsRise values → holds_number values column ≡ true → with_sum (with_sum values column amount) column (neg_ℤ amount) ≡ values
very_record values column amount fits rise h =
    let one = one_value values column h in
    ap (λ (bytes : List ℕ). put_by_number column (escrow_sum bytes (neg_ℤ amount) ∷ []) (with_sum values column amount)) (put_bytes values column (escrow_sum (escrow_bytes values column) amount))
    ∙ ap (λ (bytes : List ℕ). put_by_number column (bytes ∷ []) (with_sum values column amount)) (back_sum (escrow_bytes values column) amount fits one.1)
    ∙ put_again column (escrow_sum (escrow_bytes values column) amount ∷ []) (escrow_bytes values column ∷ []) values
    ∙ put_found column (escrow_bytes values column ∷ []) values rise one.0
