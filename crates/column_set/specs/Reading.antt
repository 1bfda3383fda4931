-- What a reader of a record in place is given of a value.
use Rattle.std.specs.Prelude.{◌≡◌, ◌≤◌, ◌⊎◌, ℕ, List, length, take}

-- the value, or a front of it of at least 1,024 bytes
abbrev pub IsFront : List ℕ → List ℕ → Type 0
IsFront bytes value = (bytes ≡ value) ⊎ ((1024 ≤ length bytes) × (bytes ≡ take (length bytes) value))
