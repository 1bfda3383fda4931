-- A hash of byte strings.
use Rattle.std.specs.Prelude.{ℕ, ◌+◌, ◌-◌, ◌*◌, ◌%◌, ◌^◌, List, drop, length}
use Rattle.std.specs.Int.{w64, from_le_bytes}

-- the eight bytes from a place on, the lowest first, with zeros for those that are not there
unfoldable pub word_from : ℕ → List ℕ → ℕ
word_from at bytes = from_le_bytes w64 (drop at bytes)

-- a hash with one more word
unfoldable pub mixed : ℕ → ℕ → ℕ
mixed hash word = ((hash + word) % 2 ^ 64 * 11400714819323198485) % 2 ^ 64

-- the hash of the first two words and of the one from a place on
unfoldable pub hash_with : ℕ → List ℕ → ℕ
hash_with last bytes = mixed (mixed (mixed 0 (word_from 0 bytes)) (word_from 8 bytes)) (word_from last bytes)

-- the hash of a string: of its first sixteen bytes and its last eight
unfoldable pub bytes_hash : List ℕ → ℕ
bytes_hash bytes = hash_with (length bytes - 8) bytes
