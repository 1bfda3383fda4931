-- Byte strings of which short ones are kept in place.
use Rattle.std.specs.Prelude.{◌≡◌, ℕ, ◌-◌, ◌<◌, ◌≤◌, List, drop, length, replicate, take}
use Rattle.jet_base.specs.declared.small_bytes.Kept.{Kept}
use Rattle.jet_base.specs.declared.small_bytes.Kept.TheVariants.{InPlace, Apart}

abbrev pub kept_bytes : Kept → List ℕ
kept_bytes (InPlace count bytes) = take count bytes
kept_bytes (Apart bytes) = let held = bytes.value in held.items

-- so many of the bytes in place are the string's, and zeros follow them
pub record IsInPlace (count : ℕ) (bytes : List ℕ) : Type 0 where
  pub all : length bytes ≡ 22
  pub within : count ≤ 22
  pub zeros : drop count bytes ≡ replicate (22 - count) 0

abbrev pub IsKept : Kept → Type 0
IsKept (InPlace count bytes) = IsInPlace count bytes
IsKept (Apart bytes) = let held = bytes.value in 22 < length held.items
