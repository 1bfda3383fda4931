-- What a volume in memory shows.
use Rattle.std.specs.Prelude.{◌≡◌, ◌⊎◌, ℕ, ◌+◌, false, IsTrue, IsErr, List, ◌∷◌, length, reverse, Result, MatchResult, OnOk, OnErr}
use Rattle.jet_io.specs.declared.schedule.Schedule.{Schedule}
use Rattle.jet_io.specs.Schedule.{fails_next, IsOneCallLater}
use Rattle.jet_volume.specs.declared.files.File.{File}
use Rattle.jet_volume.specs.declared.record.Change.{Change}
use Rattle.jet_volume.specs.declared.record.Change.TheVariants.{Missed}
use Rattle.jet_volume.specs.declared.record.Call.{Call}
use Rattle.jet_volume.specs.declared.memory.MemVolume.{MemVolume}
use Rattle.jet_volume.specs.Image.{Image, file_bytes}
use Rattle.jet_volume.specs.Covers.{Covers}
use Rattle.jet_volume.specs.Record.{LeftAt}

-- what its files hold
abbrev pub mem_seen : MemVolume → Image
mem_seen m = m.contents

-- the writes and syncs that it has kept, the newest first
abbrev pub mem_calls : MemVolume → List Call
mem_calls m = reverse m.calls.items

-- its clock: the number of those calls
abbrev pub mem_moment : MemVolume → ℕ
mem_moment m = length (mem_calls m)

-- what a crash at a moment up to now may leave
abbrev pub mem_left_at : MemVolume → ℕ → Image → Type 0
mem_left_at m = LeftAt m.contents (mem_calls m)

-- how often a call has failed
abbrev pub mem_faults : MemVolume → ℕ
mem_faults m = m.faults

-- how often a call has failed for want of memory
abbrev pub mem_short : MemVolume → ℕ
mem_short m = m.short

-- which of its calls fail
abbrev pub mem_schedule : MemVolume → Schedule
mem_schedule m = m.schedule

-- A call that fails as scheduled, or else for want of memory, and counts just that.
pub record FailsAsTold {T E : Type 0} (result : Result T E) (old new : MemVolume) : Type 0 where
  pub later : IsOneCallLater old.schedule new.schedule
  pub faults : MatchResult result (λ _. mem_faults new ≡ mem_faults old) (λ _. mem_faults new ≡ mem_faults old + 1)
  pub told : IsTrue (fails_next old.schedule) → IsErr result
  pub short : fails_next old.schedule ≡ false → MatchResult result (λ _. mem_short new ≡ mem_short old) (λ _. mem_short new ≡ mem_short old + 1)

-- What is kept of a write, so that a crash may tear it. One that fails as scheduled is kept as one that may have come
-- in part; without memory for that it is not, and `short` counts it.
pub record KeepsWrite {T E : Type 0} (result : Result T E) (file : File) (at n : ℕ) (old new : MemVolume) : Type 0 where
  pub came : OnOk result ((change : Change) × (mem_calls new ≡ record { file = file; change = change } ∷ mem_calls old) × Covers at n (file_bytes file (mem_seen old)) change)
  pub missed : IsTrue (fails_next old.schedule)
      → ((mem_calls new ≡ record { file = file; change = Missed at n } ∷ mem_calls old) × (mem_short new ≡ mem_short old))
      ⊎ ((mem_calls new ≡ mem_calls old) × (mem_short new ≡ mem_short old + 1))
  pub refused : fails_next old.schedule ≡ false → OnErr result (mem_calls new ≡ mem_calls old)
  pub nothing : OnErr result (mem_seen new ≡ mem_seen old)
