-- Answers that differ.
use Rattle.std.proofs.Common.{◌≡◌, ◌≢◌, ◌<◌, ℕ, Option, Some, None, Result, Err, sym, ◌∙◌, subst}
use Rattle.store_core.specs.declared.store.Store.{Store}
use Rattle.store_core.specs.declared.fault.StoreFault.{StoreFault}
use Rattle.store_core.specs.declared.fault.StoreFault.TheVariants.{Down, NoRoom, VolumeFault}
use Rattle.store_core.specs.Store.{store_down, store_volume, CountsStoreFault, IsNotNoRoom}
use Rattle.log_keeper.specs.Keeping.{CountsGivenFault}
use Rattle.ordered_run.specs.declared.flushed.After.{After}
use Rattle.ordered_run.specs.declared.flushed.After.TheVariants.{Goes, Fault, Memory}
use Rattle.ordered_run.specs.declared.flushed.Flush.TheVariants.{Kept, Failed}
use Rattle.ordered_run.specs.declared.flushed.Flush.TheVariants as flush

pub fault_goes : Fault ≡ Goes → ⊥
fault_goes e = cc

pub memory_goes : Memory ≡ Goes → ⊥
memory_goes e = cc

pub goes_memory : Goes ≡ Memory → ⊥
goes_memory e = cc

pub fault_memory : Fault ≡ Memory → ⊥
fault_memory e = cc

pub goes_fault : Goes ≡ Fault → ⊥
goes_fault e = cc

pub memory_fault : Memory ≡ Fault → ⊥
memory_fault e = cc

pub failed_kept : Failed ≡ Kept → ⊥
failed_kept e = cc

pub room_kept : flush.NoRoom ≡ Kept → ⊥
room_kept e = cc

pub failed_room : Failed ≡ flush.NoRoom → ⊥
failed_room e = cc

pub room_failed : flush.NoRoom ≡ Failed → ⊥
room_failed e = cc

pub kept_failed : Kept ≡ Failed → ⊥
kept_failed e = cc

pub kept_room : Kept ≡ flush.NoRoom → ⊥
kept_room e = cc

-- where it goes on there was memory
pub goes_made : (after : After) → after ≡ Goes → after ≢ Memory
goes_made after goes = λ memory. goes_memory (sym goes ∙ memory)

-- ---- stores

abbrev pub failed : StoreFault → Result (Unit {0}) StoreFault
failed fault = Err fault

pub up_down : (d : Option ℕ) (n : ℕ) → d ≡ None → d ≡ Some n → ⊥
up_down d n up down = none_some (sym up ∙ down)
  where
    none_some : None ≡ Some n → ⊥
    none_some e = cc

-- a store that found no room is up, and its volume met no fault
pub told_no_room : {V : Type 0} (faults : V → ℕ) (count : ℕ) (result : Result (Unit {0}) StoreFault) (old new : Store V) → result ≡ failed NoRoom → CountsGivenFault faults count result old new → CountsStoreFault faults (failed NoRoom) old new
told_no_room {V} faults count result old new is counts = subst (λ (r : Result (Unit {0}) StoreFault). CountsGivenFault faults count r old new) is counts

-- a fault is one of the volume
pub told_fault : {V : Type 0} (faults : V → ℕ) (count : ℕ) (result : Result (Unit {0}) StoreFault) (old new : Store V) → result ≡ failed VolumeFault → CountsGivenFault faults count result old new → CountsStoreFault faults (failed VolumeFault) old new
told_fault {V} faults count result old new is counts = subst (λ (r : Result (Unit {0}) StoreFault). CountsGivenFault faults count r old new) is counts

-- a store that is up is not down
pub told_down : {V : Type 0} (faults : V → ℕ) (count : ℕ) (result : Result (Unit {0}) StoreFault) (old new : Store V) (since : ℕ) → result ≡ failed (Down since) → store_down old ≡ None → CountsGivenFault faults count result old new → ⊥
told_down {V} faults count result old new since is up counts = up_down (store_down old) since up (subst (λ (r : Result (Unit {0}) StoreFault). CountsGivenFault faults count r old new) is counts).0

-- a store that is up refuses an image for a fault of the volume alone
pub store_fault : {V : Type 0} (faults : V → ℕ) (fault : StoreFault) (old new : Store V) → store_down old ≡ None → IsNotNoRoom (failed fault) → CountsStoreFault faults (failed fault) old new
    → faults (store_volume old) < faults (store_volume new)
store_fault faults (Down count) old new up room counts = absurd (up_down (store_down old) count up counts.0)
store_fault faults NoRoom old new up room counts = absurd room
store_fault faults VolumeFault old new up room counts = counts.1
