-- What is kept of a write, so that it can be undone.
use Rattle.std.specs.Prelude.{◌≡◌, ℕ, List, length, take, drop}
use Rattle.jet_volume.specs.declared.record.Change.{Change}
use Rattle.jet_volume.specs.declared.record.Change.TheVariants.{Wrote, Missed, Synced}

-- the change is a write of `len` bytes at `at` over these, and keeps those that it covers
abbrev pub Covers : ℕ → ℕ → List ℕ → Change → Type 0
Covers at len bytes (Wrote a n covered size) = (a ≡ at) × (n ≡ len) × (covered.items ≡ take len (drop at bytes)) × (size ≡ length bytes)
Covers at len bytes (Missed a n) = ⊥
Covers at len bytes Synced = ⊥
