-- What a store knows of its volume, and what a crash leaves of that.
use Rattle.std.specs.Prelude.{◌≡◌, ◌<◌, ℕ, ◌-◌, ◌^◌, min, List, [], Bool, true, Option, Some, None, Result, Ok, Err}
use Rattle.jet_volume.specs.declared.files.LogStart.{LogStart}
use Rattle.jet_volume.specs.Image.{Image as Files}
use Rattle.jet_volume.specs.Crash.{CrashLeaves}
use Rattle.log_ring.specs.declared.ring.LogRing.{LogRing}
use Rattle.log_ring.specs.Blocks.{Scans}
use Rattle.log_ring.specs.Writes.{LogIs}
use Rattle.log_ring.specs.Ring.{ring_end, IsRingOf}
use Rattle.checkpoint.specs.declared.image.Image.{Image}
use Rattle.checkpoint.specs.declared.image.Standing.{Standing}
use Rattle.checkpoint.specs.declared.image.Found.{Found}
use Rattle.checkpoint.specs.declared.image.Found.TheVariants as found
use Rattle.checkpoint.specs.declared.fault.CheckFault.{CheckFault}
use Rattle.checkpoint.specs.Contents.{may_go_on}
use Rattle.checkpoint.specs.Found.{CountsCheckFault}
use Rattle.store_core.specs.declared.store.Store.{Store}
use Rattle.store_core.specs.declared.fault.StoreFault.{StoreFault}
use Rattle.store_core.specs.declared.fault.StoreFault.TheVariants.{Down, NoRoom, VolumeFault}
use Rattle.store_core.specs.Stands.{Checkpoint, contents_in_slots, number_of, start_of, pages_of, ShowsIn}

-- the volume of a store
abbrev pub store_volume : {V : Type 0} → Store V → V
store_volume store = store.volume

-- the ring of its log
abbrev pub store_ring : {V : Type 0} → Store V → LogRing
store_ring store = store.ring

-- where the next block of its log goes, if it fits there
abbrev pub store_end : {V : Type 0} → Store V → LogStart
store_end store = ring_end store.ring

-- its copy of the standing checkpoint
abbrev pub store_standing : {V : Type 0} → Store V → Standing
store_standing store = store.standing

-- the volume's count of faults when a call of the store met one, none as long as none did
abbrev pub store_down : {V : Type 0} → Store V → Option ℕ
store_down store = store.down

-- the checkpoint that an image is written as
abbrev pub checkpoint_of : ℕ → LogStart → Image → Checkpoint
checkpoint_of number start image = record {
  number = number;
  entries = image.number;
  start = start;
  catalog_root = image.catalog_root;
  pages = image.pages.items;
  live = image.live.items;
}

-- The copy in memory has the number, the log start and the pages of a checkpoint. Without one its number is 0, and it
-- has no page.
pub record IsCopyOf (checkpoint : Option Checkpoint) (standing : Standing) : Type 0 where
  pub number : standing.number ≡ number_of checkpoint
  pub start : standing.start ≡ start_of checkpoint
  pub pages : standing.pages.items ≡ pages_of checkpoint
  pub no_slots : checkpoint ≡ None → standing.slots.items ≡ []

module _ {V : Type 0} (seen : V → Files) (moment : V → ℕ) (left_at : V → ℕ → Files → Type 0) where
  -- a crash leaves the checkpoint that the store has a copy of
  pub record Bears (store : Store V) (checkpoint : Option Checkpoint) : Type 0 where
    pub shows : CrashLeaves moment left_at (store_volume store) (ShowsIn (store_standing store).slots.items checkpoint)
    pub copy : IsCopyOf checkpoint (store_standing store)

  -- As a volume is opened: a crash leaves the checkpoint, and of the log just what a read gives. A scan of it gives the
  -- stream, and comes to the store's end.
  pub record IsOpened (store : Store V) (checkpoint : Option Checkpoint) (stream : List ℕ) : Type 0 where
    pub bears : Bears store checkpoint
    pub log : List ℕ
    pub is : LogIs seen moment left_at (store_volume store) log
    pub scans : Scans log (start_of checkpoint) stream (store_end store)

  -- The same, and the log can be appended to.
  pub record IsWritable (store : Store V) (checkpoint : Option Checkpoint) (stream : List ℕ) : Type 0 where
    pub bears : Bears store checkpoint
    pub ring : IsRingOf seen moment left_at (store_volume store) (store_ring store) (start_of checkpoint) stream

-- When each answer comes, and what it does to the counts. A store is down from its first fault on: it then changes no
-- more, and tells the count that it saw. Each other answer leaves the volume's count of faults.
abbrev pub CountsStoreFault : {V : Type 0} → (V → ℕ) → Result (Unit {0}) StoreFault → Store V → Store V → Type 0
CountsStoreFault faults (Ok value) old new = (store_down old ≡ None) × (store_down new ≡ None) × (faults (store_volume new) ≡ faults (store_volume old))
CountsStoreFault faults (Err (Down count)) old new = (store_down old ≡ Some count) × (new ≡ old)
CountsStoreFault faults (Err NoRoom) old new = (store_down old ≡ None) × (store_down new ≡ None) × (faults (store_volume new) ≡ faults (store_volume old))
CountsStoreFault faults (Err VolumeFault) old new =
    (store_down old ≡ None) × (faults (store_volume old) < faults (store_volume new)) × (store_down new ≡ Some (min (faults (store_volume new)) (2 ^ 64 - 1)))

-- a call that writes no block is not refused for want of room
abbrev pub IsNotNoRoom : Result (Unit {0}) StoreFault → Type 0
IsNotNoRoom (Ok value) = Unit {0}
IsNotNoRoom (Err (Down count)) = Unit {0}
IsNotNoRoom (Err NoRoom) = ⊥
IsNotNoRoom (Err VolumeFault) = Unit {0}

-- the count of faults rises at a fault of the volume, and stays at every other refusal of a volume
abbrev pub CountsOpenFault : CheckFault → ℕ → ℕ → Type 0
CountsOpenFault cause before now = CountsCheckFault {T = Unit {0}} (Err cause) before now

-- the checkpoint that was found on a volume, which is the standing one
abbrev pub checkpoint_found : Found → Standing → Option Checkpoint
checkpoint_found found.New standing = None
checkpoint_found (found.Old image) standing = Some (checkpoint_of standing.number standing.start image)

-- the numbers of a checkpoint are within the bounds of an opening: those that go on growing are below 2^62
abbrev pub may_be_opened : Option Checkpoint → Bool
may_be_opened None = true
may_be_opened (Some c) = may_go_on (contents_in_slots [] c)
