-- Laws of values that fit the type of their column.
use Rattle.std.proofs.Common.{◌≡◌, ℕ, zero, suc, ◌*◌, ◌≤◌, ◌==◌, Bool, true, false, cond, ◌&&◌, ◌||◌, List, [], ◌∷◌, ◌++◌, length, map, replicate, Option, Some, None, refl, nat_le, nat_lt, remove, set, if◌then◌else◌, ◌-◌, arith}
use Rattle.std.specs.Prelude.{ℤ, pos, negsuc}
use Rattle.std.specs.List.{list_all}
use Rattle.std.proofs.lemmas.Bool.{and_from, and_parts, eqb-true, false≢true}
use Rattle.std.proofs.lemmas.Bool.Decides.{nat_tests}
use Rattle.std.proofs.lemmas.List.{length-replicate}
use Rattle.jet_base.specs.declared.words.Given.{Given}
use Rattle.jet_base.specs.declared.words.Given.TheVariants.{Null, Number, Bytes, Fill}
use Rattle.jet_base.specs.declared.words.ColType.{ColType}
use Rattle.jet_base.specs.declared.words.ColType.TheVariants.{Bit, UnsignedByte, Short, UnsignedShort, Long, UnsignedLong, LongLong, Currency, Guid, Binary, Text, LongBinary, LongText}
use Rattle.jet_base.specs.ColumnType.{little_endian, twos_complement, largest_value}
use Rattle.jet_base.specs.Given.{as_bit, as_stored, number_fits, width_fits, given_fits, given_bytes, given_length, given_is_null}
use Rattle.column_set.specs.RecordValues.{value_fits}
use Rattle.record_edit.specs.SetColumn.{is_place_of, values_after}
use Rattle.database_state.specs.SchemaChanges.{is_type_long}

at_most : (m n : ℕ) → nat_lt n m ≡ false → nat_le m n ≡ true
at_most m n e = grind (arith, nat_tests)

-- ---- numbers

bit_positive : (n : ℕ) → number_fits Bit (pos n) ≡ true → n ≤ 1
bit_positive n h = grind arith

bit_fits : (n : ℤ) → number_fits Bit n ≡ true → value_fits Bit (little_endian 1 (twos_complement 8 n)) ≡ true
bit_fits (pos zero) h = refl
bit_fits (pos (suc zero)) h = refl
bit_fits (pos (suc (suc n))) h = absurd (omega (arith, bit_positive (suc (suc n)) h))
bit_fits (negsuc n) h = cc

number_stored : (kind : ColType) (n : ℤ) → number_fits kind n ≡ true → value_fits kind (little_endian (largest_value kind) (twos_complement (8 * largest_value kind) n)) ≡ true
number_stored Bit n h = bit_fits n h
number_stored UnsignedByte n h = refl
number_stored Short n h = refl
number_stored UnsignedShort n h = refl
number_stored Long n h = refl
number_stored UnsignedLong n h = refl
number_stored LongLong n h = refl
number_stored Currency n h = refl
number_stored Guid n h = absurd (false≢true h)
number_stored Binary n h = absurd (false≢true h)
number_stored Text n h = absurd (false≢true h)
number_stored LongBinary n h = absurd (false≢true h)
number_stored LongText n h = absurd (false≢true h)

-- ---- bytes

two_not_one : (n : ℕ) → (suc (suc n) == 1) ≡ true → ⊥
two_not_one n h = let e : suc (suc n) ≡ 1 = eqb-true (suc (suc n)) 1 h in omega (arith, e)

bit_stored : (bytes : List ℕ) → (length bytes == 1) ≡ true → value_fits Bit (map as_bit bytes) ≡ true
bit_stored [] h = cc
bit_stored (byte ∷ []) h = elim (byte == 0) as (λ t. value_fits Bit (cond t 0 1 ∷ []) ≡ true) [ true ↦ refl | false ↦ refl ]
bit_stored (byte ∷ other ∷ rest) h = absurd (two_not_one (length rest) h)

bytes_stored : (kind : ColType) (bytes : List ℕ) → width_fits kind (length bytes) ≡ true → nat_lt (largest_value kind) (length bytes) ≡ false → value_fits kind (as_stored kind bytes) ≡ true
bytes_stored Bit bytes h most = bit_stored bytes h
bytes_stored UnsignedByte bytes h most = h
bytes_stored Short bytes h most = h
bytes_stored UnsignedShort bytes h most = h
bytes_stored Long bytes h most = h
bytes_stored UnsignedLong bytes h most = h
bytes_stored LongLong bytes h most = h
bytes_stored Currency bytes h most = h
bytes_stored Guid bytes h most = h
bytes_stored Binary bytes h most = at_most (length bytes) 255 most
bytes_stored Text bytes h most = at_most (length bytes) 255 most
bytes_stored LongBinary bytes h most = at_most (length bytes) 1048576 most
bytes_stored LongText bytes h most = at_most (length bytes) 1048576 most

-- what is stored of a value that is not refused fits the column
pub value_fits-given_bytes : (kind : ColType) (value : Given) → given_fits kind value ≡ true → nat_lt (largest_value kind) (given_length value) ≡ false → given_is_null value ≡ false → value_fits kind (given_bytes kind value) ≡ true
value_fits-given_bytes kind Null h most there = cc
value_fits-given_bytes kind (Number n) h most there = number_stored kind n h
value_fits-given_bytes kind (Bytes bytes) h most there = bytes_stored kind bytes h most
value_fits-given_bytes kind (Fill count byte) h most there =
    let same : length (replicate count byte) ≡ count = length-replicate count byte in
    bytes_stored kind (replicate count byte) (rw same h) (rw same most)

pub value_fits-zero : (kind : ColType) → is_type_long kind ≡ true → value_fits kind (0 ∷ 0 ∷ 0 ∷ 0 ∷ []) ≡ true
value_fits-zero Long h = refl
value_fits-zero _ h = cc

-- ---- values of a column after a new one

all_push : (fits : List ℕ → Bool) (values : List (List ℕ)) (value : List ℕ) → list_all fits values ≡ true → fits value ≡ true → list_all fits (values ++ value ∷ []) ≡ true
all_push fits [] value all one = rw one refl
all_push fits (x ∷ xs) value all one =
    let parts : (fits x ≡ true) × (list_all fits xs ≡ true) = and_parts _ _ all in
    and_from (fits x) (list_all fits (xs ++ value ∷ [])) parts.0 (all_push fits xs value parts.1 one)

all_set : (fits : List ℕ → Bool) (values : List (List ℕ)) (place : ℕ) (value : List ℕ) → list_all fits values ≡ true → fits value ≡ true → list_all fits (set values place value) ≡ true
all_set fits [] place value all one = refl
all_set fits (x ∷ xs) zero value all one =
    let parts : (fits x ≡ true) × (list_all fits xs ≡ true) = and_parts _ _ all in and_from (fits value) (list_all fits xs) one parts.1
all_set fits (x ∷ xs) (suc place) value all one =
    let parts : (fits x ≡ true) × (list_all fits xs ≡ true) = and_parts _ _ all in
    and_from (fits x) (list_all fits (set xs place value)) parts.0 (all_set fits xs place value parts.1 one)

all_removed : (fits : List ℕ → Bool) (values : List (List ℕ)) (place : ℕ) → list_all fits values ≡ true → list_all fits (remove values place) ≡ true
all_removed fits [] zero all = refl
all_removed fits [] (suc place) all = refl
all_removed fits (x ∷ xs) zero all = let parts : (fits x ≡ true) × (list_all fits xs ≡ true) = and_parts _ _ all in parts.1
all_removed fits (x ∷ xs) (suc place) all =
    let parts : (fits x ≡ true) × (list_all fits xs ≡ true) = and_parts _ _ all in
    and_from (fits x) (list_all fits (remove xs place)) parts.0 (all_removed fits xs place parts.1)

abbrev pub fits_if : (List ℕ → Bool) → Option (List ℕ) → Bool
fits_if fits None = true
fits_if fits (Some value) = fits value

pub values_after-fit : (fits : List ℕ → Bool) (multi : Bool) (sequence : ℕ) (value : Option (List ℕ)) (values : List (List ℕ)) → ((multi || nat_le (length values) 1) && list_all fits values) ≡ true → fits_if fits value ≡ true → ((multi || nat_le (length (values_after multi sequence value values)) 1) && list_all fits (values_after multi sequence value values)) ≡ true
values_after-fit fits false sequence None values all one = refl
values_after-fit fits false sequence (Some value) values all one = rw one refl
values_after-fit fits true sequence None values all one =
    elim (is_place_of sequence values) as (λ b. list_all fits (if b then remove values (sequence - 1) else values) ≡ true) [
      | true ↦ all_removed fits values (sequence - 1) all
      | false ↦ all
    ]
values_after-fit fits true sequence (Some value) values all one =
    elim (is_place_of sequence values) as (λ b. list_all fits (if b then set values (sequence - 1) value else values ++ value ∷ []) ≡ true) [
      | true ↦ all_set fits values (sequence - 1) value all one
      | false ↦ all_push fits values value all one
    ]
