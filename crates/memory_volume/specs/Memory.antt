-- What a volume in memory shows: what its files hold, and what they held at each moment, since it keeps each write at once.
use Rattle.std.specs.Prelude.{◌≡◌, ◌⊎◌, ℕ, List, [], ◌∷◌, length}
use Rattle.jet_volume.specs.Image.{Image}
use Rattle.memory_volume.specs.declared.volume.MemoryVolume.{MemoryVolume}

-- what its files hold
abbrev pub memory_seen : MemoryVolume → Image
memory_seen volume = volume.contents

-- what they held before each write, the newest first
abbrev pub memory_past : MemoryVolume → List Image
memory_past volume = volume.past.images

-- its clock: how many writes it was asked for
abbrev pub memory_moment : MemoryVolume → ℕ
memory_moment volume = length (memory_past volume)

-- At moment k files held this image, of those that hold `now` and held the others before, the newest first.
abbrev pub HeldAt : Image → List Image → ℕ → Image → Type 0
HeldAt now [] k image = (k ≡ 0) × (image ≡ now)
HeldAt now (before ∷ earlier) k image = ((k ≡ length (before ∷ earlier)) × (image ≡ now)) ⊎ HeldAt before earlier k image

-- what a crash at a moment up to now leaves
abbrev pub memory_left_at : MemoryVolume → ℕ → Image → Type 0
memory_left_at volume = HeldAt (memory_seen volume) (memory_past volume)

-- how often a call has failed
abbrev pub memory_faults : MemoryVolume → ℕ
memory_faults volume = volume.faults
