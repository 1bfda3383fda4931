-- The hash of a record.
use Rattle.std.specs.Prelude.{ℕ, ◌+◌, ◌-◌, ◌*◌, ◌%◌, ◌^◌, if◌then◌else◌, nat_lt, List, [], ◌∷◌, drop, fold, length}
use Rattle.std.specs.Int.{w32, w64, from_le_bytes}

-- a multiplicative hash of 64 bits, with one more number
abbrev pub mixed : ℕ → ℕ → ℕ
mixed hash number = ((hash + number) % 2 ^ 64 * 11400714819323198485) % 2 ^ 64

-- the hash with the whole words of eight bytes, as numbers whose lowest bytes come first
unfoldable pub with_words : ℕ → List ℕ → ℕ
with_words hash (a ∷ b ∷ c ∷ d ∷ e ∷ f ∷ g ∷ h ∷ rest) = with_words (mixed hash (from_le_bytes w64 (a ∷ b ∷ c ∷ d ∷ e ∷ f ∷ g ∷ h ∷ []))) rest
with_words hash bytes = hash

-- the hash with more bytes: with each of up to three, with the first four and the last four of up to seven, and otherwise with
-- the whole words and the last eight
unfoldable pub with_bytes : ℕ → List ℕ → ℕ
with_bytes hash bytes =
    if nat_lt (length bytes) 4 then fold mixed hash bytes
    else if nat_lt (length bytes) 8 then mixed (mixed hash (from_le_bytes w32 bytes)) (from_le_bytes w32 (drop (length bytes - 4) bytes))
    else mixed (with_words hash bytes) (from_le_bytes w64 (drop (length bytes - 8) bytes))

abbrev pub hash_of : ℕ → List ℕ → ℕ
hash_of table bookmark = with_bytes (mixed 0 table) bookmark
