-- The stored bytes of a written value.
use Rattle.std.proofs.Common.{◌≡◌, ℕ, suc, zero, ◌+◌, ◌/◌, ◌<◌, List, [], ◌∷◌, length, map, replicate, set, refl, ap, arith}
use Rattle.jet_base.specs.declared.words.ColType.{ColType}
use Rattle.jet_base.specs.declared.words.ColType.TheVariants.{Bit, UnsignedByte, Short, UnsignedShort, Long, UnsignedLong, LongLong, Currency, Guid, Binary, Text, LongBinary, LongText}
use Rattle.jet_base.specs.ColumnType.{little_endian}
use Rattle.jet_base.specs.Given.{as_bit, as_stored}
use Rattle.std.specs.List.{remove}
use Rattle.std.proofs.lemmas.List.Sums.{sum_by-set, sum_by-remove}
use Rattle.column_set.specs.RecordValues.{size_of_value, size_of_values}

pub length-little_endian : (width n : ℕ) → length (little_endian width n) ≡ width
length-little_endian zero n = refl
length-little_endian (suc width) n = ap suc (length-little_endian width (n / 256))

-- the bits of a repeated byte
pub bits-replicate : (count byte : ℕ) → map as_bit (replicate count byte) ≡ replicate count (as_bit byte)
bits-replicate zero byte = refl
bits-replicate (suc count) byte = ap (λ l. as_bit byte ∷ l) (bits-replicate count byte)

-- the room of the values with another in the place of one
pub size_of_values-set : (values : List (List ℕ)) (place : ℕ) (value : List ℕ) → place < length values → size_of_values (set values place value) ≡ size_of_values (remove values place) + (5 + size_of_value value)
size_of_values-set values place value lt =
    let room : List ℕ → ℕ = λ x. 5 + size_of_value x in
    let changed = sum_by-set room values place value [] lt in
    let left = sum_by-remove room values place [] lt in
    omega (arith, changed, left)

pub stored_in_bit : (kind : ColType) (count byte : ℕ) → kind ≡ Bit → as_stored kind (replicate count byte) ≡ replicate count (as_bit byte)
stored_in_bit kind count byte is = rw is (bits-replicate count byte)

pub stored_as_is : (kind : ColType) (bytes : List ℕ) → (kind ≡ Bit → ⊥) → as_stored kind bytes ≡ bytes
stored_as_is Bit bytes other = absurd (other refl)
stored_as_is UnsignedByte bytes other = refl
stored_as_is Short bytes other = refl
stored_as_is UnsignedShort bytes other = refl
stored_as_is Long bytes other = refl
stored_as_is UnsignedLong bytes other = refl
stored_as_is LongLong bytes other = refl
stored_as_is Currency bytes other = refl
stored_as_is Guid bytes other = refl
stored_as_is Binary bytes other = refl
stored_as_is Text bytes other = refl
stored_as_is LongBinary bytes other = refl
stored_as_is LongText bytes other = refl
