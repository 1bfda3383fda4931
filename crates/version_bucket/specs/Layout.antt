-- How a piece lies in its bucket: its length in 8 bytes, the lowest first, its bytes, and zeros up to a multiple of 8.
use Rattle.std.specs.Prelude.{ℕ, ◌+◌, ◌-◌, ◌*◌, ◌/◌, ◌≤◌, List, ◌++◌, length, take, drop, replicate}
use Rattle.std.specs.Int.{w64, to_le_bytes, from_le_bytes}

-- the bytes that a piece takes
abbrev pub cost : List ℕ → ℕ
cost piece = 8 + (length piece + 7) / 8 * 8

abbrev pub padding : List ℕ → List ℕ
padding piece = replicate ((length piece + 7) / 8 * 8 - length piece) 0

abbrev pub stored : List ℕ → List ℕ
stored piece = to_le_bytes w64 (length piece) ++ piece ++ padding piece

-- the length of the piece at the offset
abbrev pub length_at : List ℕ → ℕ → ℕ
length_at bytes at = from_le_bytes w64 (take 8 (drop at bytes))

-- the piece at the offset
abbrev pub piece_at : List ℕ → ℕ → List ℕ
piece_at bytes at = take (length_at bytes at) (drop (at + 8) bytes)

-- a length stands at the offset, and as many bytes behind it
abbrev pub HasPiece : List ℕ → ℕ → Type 0
HasPiece bytes at = at + 8 + length_at bytes at ≤ length bytes
