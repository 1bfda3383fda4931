-- What the fields of `Buckets` show, and what they keep.
use Rattle.std.specs.Prelude.{◌≡◌, ℕ, zero, suc, ◌+◌, ◌-◌, ◌*◌, ◌^◌, ◌<◌, ◌≤◌, List, [], ◌∷◌, ◌++◌, length, map, take, drop}
use Rattle.version_bucket.specs.Layout.{cost, stored, piece_at}
use Rattle.version_bucket.specs.Pieces.{Pieces}
use Rattle.version_bucket.specs.declared.held.Held.{Held}
use Rattle.version_bucket.specs.declared.Place.{Place}
use Rattle.version_bucket.specs.declared.Buckets.TheInside.{Inside}

-- the bytes of the bucket at the index
abbrev pub bytes_of : List Held → ℕ → List ℕ
bytes_of [] i = []
bytes_of (h ∷ hs) zero = h.memory.bytes
bytes_of (h ∷ hs) (suc i) = bytes_of hs i

-- the pieces at the places, where the first bucket is the k-th
abbrev pub pieces_of : ℕ → List Held → List Place → List (List ℕ)
pieces_of k held places = map (λ q. piece_at (bytes_of held (q.bucket - k)) q.offset) places

abbrev pub room_of : List Held → ℕ
room_of [] = 0
room_of (h ∷ []) = 65536 - length h.memory.bytes
room_of (h ∷ g ∷ hs) = room_of (g ∷ hs)

abbrev pub joined : {X : Type 0} → List (List X) → List X
joined [] = []
joined (xs ∷ xss) = xs ++ joined xss

-- The places are in the k-th bucket, from the offset a on side by side up to its last byte, and the pieces are stored there.
abbrev pub Lies : List ℕ → ℕ → ℕ → List Place → List (List ℕ) → Type 0
Lies bytes k a [] [] = a ≡ length bytes
Lies bytes k a [] (p ∷ ps) = ⊥
Lies bytes k a (q ∷ qs) [] = ⊥
Lies bytes k a (q ∷ qs) (p ∷ ps) = (q.bucket ≡ k) × (q.offset ≡ a) × (take (cost p) (drop a bytes) ≡ stored p) × (length p ≤ 4096) × Lies bytes k (a + cost p) qs ps

-- a bucket that others follow is full but for 4,096 bytes
abbrev pub IsFull : List Held → List ℕ → Type 0
IsFull [] bytes = Unit {0}
IsFull (h ∷ hs) bytes = 61440 ≤ length bytes

-- The buckets from the k-th on hold the pieces at the places, a list for each bucket: the first from the offset a on, and the others from their start on.
abbrev pub Holds : ℕ → ℕ → List Held → List (List Place) → List (List (List ℕ)) → Type 0
Holds k a [] [] [] = Unit {0}
Holds k a [] (qs ∷ qss) pss = ⊥
Holds k a [] [] (ps ∷ pss) = ⊥
Holds k a (h ∷ hs) [] pss = ⊥
Holds k a (h ∷ hs) (qs ∷ qss) [] = ⊥
Holds k a (h ∷ hs) (qs ∷ qss) (ps ∷ pss) = (h.kept ≡ length ps) × (0 < length ps) × Lies h.memory.bytes k a qs ps × IsFull hs h.memory.bytes × Holds (k + 1) 0 hs qss pss

pub record Keeps (first freed room : ℕ) (places : List Place) (held : List Held) : Type 0 where
  -- where the first kept piece begins in its bucket, and what each bucket holds
  pub start : ℕ
  pub places_in : List (List Place)
  pub pieces_in : List (List (List ℕ))
  pub are_places : places ≡ joined places_in
  pub holds : Holds freed start held places_in pieces_in
  pub words : ℕ
  pub is_words : room ≡ 8 * words
  pub is_room : room ≡ room_of held
  pub is_freed : freed ≤ first
  pub fits : first + length places < 2 ^ 64

abbrev pub shown : Inside → Pieces
shown a = record { first = a.first; pieces = pieces_of a.freed a.held.items a.places.items; counts = map (λ h. h.kept) a.held.items; room = a.room }

abbrev pub IsKept : Inside → Type 0
IsKept a = Keeps a.first a.freed a.room a.places.items a.held.items
