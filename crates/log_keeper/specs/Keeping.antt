-- What a store has of a log that is kept on it, and what a crash leaves of that.
use Rattle.std.specs.Prelude.{◌≡◌, ◌≤◌, ◌<◌, ◌+◌, ◌-◌, ◌^◌, ℕ, List, length, take, drop, Option, None, Result, Ok, Err}
use Rattle.jet_volume.specs.Image.{Image as Files}
use Rattle.store_core.specs.declared.store.Store.{Store}
use Rattle.store_core.specs.declared.fault.StoreFault.{StoreFault}
use Rattle.store_core.specs.Stands.{Checkpoint, Stands}
use Rattle.store_core.specs.Store.{store_volume, store_end, store_standing, store_down, CountsStoreFault, IsWritable}
use Rattle.log_keeper.specs.declared.keeper.LogKeeper.{LogKeeper}
use Rattle.log_keeper.specs.Blocks.{Given, given_in}

abbrev pub keeper_store : {V : Type 0} → LogKeeper V → Store V
keeper_store keeper = keeper.store

abbrev pub keeper_volume : {V : Type 0} → LogKeeper V → V
keeper_volume keeper = store_volume keeper.store

-- the position up to which the store was given the bytes of the log
abbrev pub keeper_given : {V : Type 0} → LogKeeper V → ℕ
keeper_given keeper = keeper.given

-- the memory for the bytes that are given next
abbrev pub keeper_block : {V : Type 0} → LogKeeper V → List ℕ
keeper_block keeper = keeper.block.bytes.items

-- the bytes of a log from one position up to another
abbrev pub between : ℕ → ℕ → List ℕ → List ℕ
between base at whole = take (at - base) (drop base whole)

module _ {V : Type 0} (seen : V → Files) (moment : V → ℕ) (left_at : V → ℕ → Files → Type 0) where
  -- The checkpoint was written where the log ended at the base. Behind it the store has the bytes of the log from there up to
  -- the position that was given, and takes more.
  pub record KeepsLog (keeper : LogKeeper V) (checkpoint : Option Checkpoint) (base : ℕ) (whole : List ℕ) : Type 0 where
    pub from : base ≤ keeper_given keeper
    pub within : keeper_given keeper ≤ length whole
    pub writable : IsWritable seen moment left_at (keeper_store keeper) checkpoint (between base (keeper_given keeper) whole)

-- the checkpoint stands on the files, with the bytes of the log from the base up to a position between these two
pub record StandsUpTo (checkpoint : Option Checkpoint) (base low high : ℕ) (whole : List ℕ) (files : Files) : Type 0 where
  pub at : ℕ
  pub since : low ≤ at
  pub most : at ≤ high
  pub stands : Stands checkpoint (between base at whole) files

-- A checkpoint stands, and the generation and the position of the log's end stay below 2^63 when so many bytes more are given.
pub record TakesBytes {V : Type 0} (count : ℕ) (store : Store V) : Type 0 where
  pub standing : 1 ≤ (store_standing store).number
  pub generation : (store_end store).generation + count < 2 ^ 63
  pub position : (store_end store).position + count < 2 ^ 63

-- the first bytes of the block are those of the log behind the ones that were given
pub record HasNext {V : Type 0} (count : ℕ) (whole : List ℕ) (keeper : LogKeeper V) : Type 0 where
  pub there : keeper_given keeper + count ≤ length whole
  pub are : take count (keeper_block keeper) ≡ take count (drop (keeper_given keeper) whole)

-- where the log of a store ends once so many bytes are given in blocks, and how many of them found no room
abbrev pub given_to : {V : Type 0} → Store V → ℕ → Given
given_to store count = given_in (store_standing store).start.generation (store_end store) count

-- When each answer comes, and what it does to the counts, of a call that gives so many bytes: as of each block, but that the
-- store is not asked where there is no byte to give.
abbrev pub CountsGivenFault : {V : Type 0} → (V → ℕ) → ℕ → Result (Unit {0}) StoreFault → Store V → Store V → Type 0
CountsGivenFault faults count (Ok value) old new = (1 ≤ count → store_down old ≡ None) × (store_down new ≡ store_down old) × (faults (store_volume new) ≡ faults (store_volume old))
CountsGivenFault faults count (Err fault) old new = CountsStoreFault faults (Err fault) old new
