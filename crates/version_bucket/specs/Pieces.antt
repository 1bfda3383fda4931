-- Byte strings with rising numbers, as callers see them, and the buckets that hold them.
use Rattle.std.specs.Prelude.{ℕ, ◌+◌, ◌-◌, List, [], ◌∷◌, ◌++◌, drop, if◌then◌else◌, nat_le}
use Rattle.version_bucket.specs.Layout.{cost}

pub record Pieces : Type 0 where
  -- the number of the first kept piece, and the kept pieces in order
  pub first : ℕ
  pub pieces : List (List ℕ)
  -- how many of them each bucket holds, the oldest bucket first
  pub counts : List ℕ
  -- the bytes that are left in the last bucket: 0 where there is no bucket
  pub room : ℕ

abbrev pub no_pieces : Pieces
no_pieces = record { first = 0; pieces = []; counts = []; room = 0 }

-- one piece more in the last bucket
abbrev pub one_more : List ℕ → List ℕ
one_more [] = []
one_more (count ∷ []) = (count + 1) ∷ []
one_more (count ∷ other ∷ counts) = count ∷ one_more (other ∷ counts)

-- one piece less in the first bucket, which goes with its last piece
abbrev pub one_less : List ℕ → List ℕ
one_less [] = []
one_less (count ∷ counts) = if nat_le count 1 then counts else (count - 1) ∷ counts

-- the room that is left where there are buckets
abbrev pub room_in : List ℕ → ℕ → ℕ
room_in [] room = 0
room_in (count ∷ counts) room = room

-- The piece is last. A new bucket is begun exactly where the piece does not fit the last one.
abbrev pub appended : Pieces → List ℕ → Pieces
appended b piece = record {
  first = b.first;
  pieces = b.pieces ++ piece ∷ [];
  counts = if nat_le (cost piece) b.room then one_more b.counts else b.counts ++ 1 ∷ [];
  room = (if nat_le (cost piece) b.room then b.room else 65536) - cost piece;
}

-- the first piece has gone, and its bucket with it where no piece is left there
abbrev pub without_first : Pieces → Pieces
without_first b = record {
  first = b.first + 1;
  pieces = drop 1 b.pieces;
  counts = one_less b.counts;
  room = room_in (one_less b.counts) b.room;
}
