-- What a written value stores in a column of a type.
use Rattle.std.specs.Prelude.{ℕ, ◌*◌, Bool, true, false, cond, ◌&&◌, ◌==◌, List, [], map, length, take, replicate, ℤ, pos, negsuc, int_le, min, Some, None}
use Rattle.jet_base.specs.declared.words.ColType.{ColType}
use Rattle.jet_base.specs.declared.words.ColType.TheVariants.{Bit, UnsignedByte, Short, UnsignedShort, Long, UnsignedLong, LongLong, Currency, Guid, Binary, Text, LongBinary, LongText}
use Rattle.jet_base.specs.declared.words.Given.{Given}
use Rattle.jet_base.specs.declared.words.Given.TheVariants.{Null, Number, Bytes, Fill}
use Rattle.jet_base.specs.ColumnType.{fixed_width, largest_value, little_endian, twos_complement}

-- whether no value is written
abbrev pub given_is_null : Given → Bool
given_is_null Null = true
given_is_null (Number n) = false
given_is_null (Bytes bytes) = false
given_is_null (Fill count byte) = false

-- how many bytes are written; for a repeated byte by the count
abbrev pub given_length : Given → ℕ
given_length Null = 0
given_length (Number n) = 0
given_length (Bytes bytes) = length bytes
given_length (Fill count byte) = count

-- whether n lies from `least` to `most`
abbrev pub is_within : ℤ → ℤ → ℤ → Bool
is_within least most n = int_le least n && int_le n most

-- whether the type holds the number: a `Bit` holds 0 and 1, and the types that hold no numbers none
abbrev pub number_fits : ColType → ℤ → Bool
number_fits Bit n = is_within (pos 0) (pos 1) n
number_fits UnsignedByte n = is_within (pos 0) (pos 255) n
number_fits Short n = is_within (negsuc 32767) (pos 32767) n
number_fits UnsignedShort n = is_within (pos 0) (pos 65535) n
number_fits Long n = is_within (negsuc 2147483647) (pos 2147483647) n
number_fits UnsignedLong n = is_within (pos 0) (pos 4294967295) n
number_fits LongLong n = is_within (negsuc 9223372036854775807) (pos 9223372036854775807) n
number_fits Currency n = is_within (negsuc 9223372036854775807) (pos 9223372036854775807) n
number_fits Guid n = false
number_fits Binary n = false
number_fits Text n = false
number_fits LongBinary n = false
number_fits LongText n = false

-- whether a value of the type may have so many bytes: a fixed type asks for exactly its width
abbrev pub width_fits : ColType → ℕ → Bool
width_fits kind count = elim (fixed_width kind) [ Some width ↦ count == width | None ↦ true ]

-- whether the written value has the form that the type asks for: a number in its range, or bytes of its width. A type without a width takes any bytes, and no value fits every type
abbrev pub given_fits : ColType → Given → Bool
given_fits kind Null = true
given_fits kind (Number n) = number_fits kind n
given_fits kind (Bytes bytes) = width_fits kind (length bytes)
given_fits kind (Fill count byte) = width_fits kind count

-- a byte as a `Bit` stores it: 00 stays, and any other is 01
abbrev pub as_bit : ℕ → ℕ
as_bit byte = cond (byte == 0) 0 1

-- the bytes as a column of the type stores them
abbrev pub as_stored : ColType → List ℕ → List ℕ
as_stored Bit bytes = map as_bit bytes
as_stored _ bytes = bytes

-- the stored bytes: a number lowest byte first in the type's width, in two's complement where it is negative
abbrev pub given_bytes : ColType → Given → List ℕ
given_bytes kind Null = []
given_bytes kind (Number n) = little_endian (largest_value kind) (twos_complement (8 * largest_value kind) n)
given_bytes kind (Bytes bytes) = as_stored kind bytes
given_bytes kind (Fill count byte) = as_stored kind (replicate count byte)

-- the first n of them. It spells out no more than n copies of a repeated byte
abbrev pub given_front : ℕ → ColType → Given → List ℕ
given_front n kind Null = []
given_front n kind (Number m) = take n (given_bytes kind (Number m))
given_front n kind (Bytes bytes) = as_stored kind (take n bytes)
given_front n kind (Fill count byte) = as_stored kind (replicate (min n count) byte)
