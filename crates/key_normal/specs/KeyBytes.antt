-- The bytes of a key: a segment for each of its columns, in their order.
use Rattle.std.specs.Prelude.{ℕ, ◌+◌, ◌-◌, ◌%◌, Bool, cond, ◌&&◌, List, [], ◌∷◌, ◌++◌, map, reverse, length, take, replicate, nat_le, nat_lt, Option, Some, None}
use Rattle.jet_base.specs.declared.words.ColType.{ColType}
use Rattle.jet_base.specs.declared.words.ColType.TheVariants.{Bit, UnsignedByte, Short, UnsignedShort, Long, UnsignedLong, LongLong, Currency, Guid, Binary, Text, LongBinary, LongText}

-- letters of a text do not tell their case: 61 to 7A count as 41 to 5A
abbrev pub folded_byte : ℕ → ℕ
folded_byte byte = cond (nat_le 97 byte && nat_le byte 122) (byte - 32) byte

abbrev pub folded : List ℕ → List ℕ
folded bytes = map folded_byte bytes

-- the first byte with its top bit turned, so that negative numbers come before the others
abbrev pub with_top_bit_turned : List ℕ → List ℕ
with_top_bit_turned [] = []
with_top_bit_turned (byte ∷ bytes) = (byte + 128) % 256 ∷ bytes

-- groups of eight bytes, each followed by a count: 09 where more follows. The last group is filled up with zeros, and its count is the number of bytes used
abbrev pub in_groups : List ℕ → List ℕ
in_groups (a ∷ b ∷ c ∷ d ∷ e ∷ f ∷ g ∷ h ∷ next ∷ rest) = a ∷ b ∷ c ∷ d ∷ e ∷ f ∷ g ∷ h ∷ 9 ∷ in_groups (next ∷ rest)
in_groups last = last ++ replicate (8 - length last) 0 ++ length last ∷ []

-- the bytes of a value of one byte or more, behind the byte 7F. A number stands highest byte first
abbrev pub value_bytes : ColType → List ℕ → List ℕ
value_bytes Bit value = value
value_bytes UnsignedByte value = value
value_bytes Short value = with_top_bit_turned (reverse value)
value_bytes UnsignedShort value = reverse value
value_bytes Long value = with_top_bit_turned (reverse value)
value_bytes UnsignedLong value = reverse value
value_bytes LongLong value = with_top_bit_turned (reverse value)
value_bytes Currency value = with_top_bit_turned (reverse value)
value_bytes Guid value = value
value_bytes Binary value = in_groups value
value_bytes Text value = in_groups (folded value)
value_bytes LongBinary value = in_groups value
value_bytes LongText value = in_groups (folded value)

-- an ascending segment: NULL comes first, or last where NULLs are high; an empty value comes before every other
abbrev pub ascending_bytes : ColType → Option (List ℕ) → Bool → List ℕ
ascending_bytes kind None nulls_high = cond nulls_high 192 0 ∷ []
ascending_bytes kind (Some []) nulls_high = 64 ∷ []
ascending_bytes kind (Some (byte ∷ bytes)) nulls_high = 127 ∷ value_bytes kind (byte ∷ bytes)

-- a byte as it stands in the column's direction: a descending column has its bits turned, which turns the order round
abbrev pub in_direction : Bool → ℕ → ℕ
in_direction descending byte = cond descending (255 - byte) byte

-- the bytes of one column's value or NULL
abbrev pub segment_bytes : ColType → Option (List ℕ) → Bool → Bool → List ℕ
segment_bytes kind value descending nulls_high = map (in_direction descending) (ascending_bytes kind value nulls_high)

-- a column of a key
pub record KeyColumn : Type 0 where
  pub kind : ColType
  pub descending : Bool

-- the segments of a key with a value or NULL for each column, before they are cut
abbrev pub key_bytes : List KeyColumn → Bool → List (Option (List ℕ)) → List ℕ
key_bytes (column ∷ columns) nulls_high (value ∷ values) = segment_bytes column.kind value column.descending nulls_high ++ key_bytes columns nulls_high values
key_bytes _ nulls_high _ = []

-- a key keeps so many bytes at most
abbrev pub cut_key : ℕ → List ℕ → List ℕ
cut_key most bytes = take most bytes

-- whether a key of these bytes loses some
abbrev pub is_cut : ℕ → List ℕ → Bool
is_cut most bytes = nat_lt most (length bytes)
