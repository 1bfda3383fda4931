-- What a column's type says of its values: how many bytes they have, and which number they are.
use Rattle.std.specs.Prelude.{ℕ, zero, suc, ◌+◌, ◌*◌, ◌-◌, ◌/◌, ◌%◌, ◌^◌, Bool, true, false, cond, List, [], ◌∷◌, reverse, ℤ, pos, negsuc, nat_lt, Option, Some, None}
use Rattle.jet_base.specs.declared.words.ColType.{ColType}
use Rattle.jet_base.specs.declared.words.ColType.TheVariants.{Bit, UnsignedByte, Short, UnsignedShort, Long, UnsignedLong, LongLong, Currency, Guid, Binary, Text, LongBinary, LongText}

-- the bytes of each value of a fixed type; the other four types have values of any length up to `largest_value`
abbrev pub fixed_width : ColType → Option ℕ
fixed_width Bit = Some 1
fixed_width UnsignedByte = Some 1
fixed_width Short = Some 2
fixed_width UnsignedShort = Some 2
fixed_width Long = Some 4
fixed_width UnsignedLong = Some 4
fixed_width LongLong = Some 8
fixed_width Currency = Some 8
fixed_width Guid = Some 16
fixed_width Binary = None
fixed_width Text = None
fixed_width LongBinary = None
fixed_width LongText = None

-- the most bytes that a value of the type has
abbrev pub largest_value : ColType → ℕ
largest_value Bit = 1
largest_value UnsignedByte = 1
largest_value Short = 2
largest_value UnsignedShort = 2
largest_value Long = 4
largest_value UnsignedLong = 4
largest_value LongLong = 8
largest_value Currency = 8
largest_value Guid = 16
largest_value Binary = 255
largest_value Text = 255
largest_value LongBinary = 1048576
largest_value LongText = 1048576

-- the types whose values are numbers: the fixed ones but `Guid`
abbrev pub is_number_type : ColType → Bool
is_number_type Bit = true
is_number_type UnsignedByte = true
is_number_type Short = true
is_number_type UnsignedShort = true
is_number_type Long = true
is_number_type UnsignedLong = true
is_number_type LongLong = true
is_number_type Currency = true
is_number_type Guid = false
is_number_type Binary = false
is_number_type Text = false
is_number_type LongBinary = false
is_number_type LongText = false

-- the types whose numbers are stored in two's complement
abbrev pub is_signed_type : ColType → Bool
is_signed_type Short = true
is_signed_type Long = true
is_signed_type LongLong = true
is_signed_type Currency = true
is_signed_type _ = false

-- a number below 256 ^ width as so many bytes, the lowest first
abbrev pub little_endian : ℕ → ℕ → List ℕ
little_endian zero n = []
little_endian (suc width) n = n % 256 ∷ little_endian width (n / 256)

-- the same bytes, the highest first
abbrev pub big_endian : ℕ → ℕ → List ℕ
big_endian width n = reverse (little_endian width n)

-- the number that the bytes write, the lowest first
abbrev pub from_little_endian : List ℕ → ℕ
from_little_endian [] = 0
from_little_endian (byte ∷ bytes) = byte + 256 * from_little_endian bytes

-- the signed number that n stands for in two's complement of so many bits
abbrev pub from_twos_complement : ℕ → ℕ → ℤ
from_twos_complement bits n = cond (nat_lt n (2 ^ (bits - 1))) (pos n) (negsuc (2 ^ bits - n - 1))

-- a signed number in two's complement of so many bits
abbrev pub twos_complement : ℕ → ℤ → ℕ
twos_complement bits (pos n) = n
twos_complement bits (negsuc n) = 2 ^ bits - n - 1

-- the number that a stored value of a number type is: its bytes lowest first, in two's complement for a signed type
abbrev pub number_of : ColType → List ℕ → ℤ
number_of kind value = cond (is_signed_type kind) (from_twos_complement (8 * largest_value kind) (from_little_endian value)) (pos (from_little_endian value))
