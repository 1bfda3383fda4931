-- What was opened and recovered of a volume, and what a crash leaves of it.
use Rattle.std.proofs.Common.{◌≡◌, ◌≢◌, ◌⊎◌, inl, inr, ⊎_elim, ℕ, ◌+◌, ◌<◌, ◌≤◌, ◌^◌, Bool, true, false, ◌&&◌, [], List, Option, Some, None, refl, sym, ap, subst, ◌∙◌, arith}
use Rattle.std.specs.Prelude.{nat_lt, IfErr, IfOk, Result, Ok, Err}
use Rattle.std.proofs.lemmas.Bool.{and_from}
use Rattle.std.proofs.lemmas.Bool.Decides.{nat_tests}
use Rattle.common_lemmas.proofs.Booleans.{impossible}
use Rattle.checkpoint.specs.declared.fault.CheckFault.{CheckFault}
use Rattle.checkpoint.specs.declared.fault.CheckFault.TheVariants as check
use Rattle.checkpoint.specs.declared.image.Found.{Found}
use Rattle.checkpoint.specs.declared.image.Found.TheVariants as found
use Rattle.checkpoint.specs.declared.image.Standing.{Standing}
use Rattle.checkpoint.specs.declared.rest.TheConstants.{FORMAT_VERSION}
use Rattle.checkpoint.specs.Found.{Explains, IsAnswer}
use Rattle.database_state.specs.State.{DatabaseState}
use Rattle.jet_volume.specs.Crash.{IsSettled, LeavesOnly}
use Rattle.jet_volume.specs.Image.{Image as Files}
use Rattle.jet_volume.specs.Moments.{goes_on_by, leaves_weaker}
use Rattle.laws_engine.specs.EngineState.{EngineState}
use Rattle.recovered_states.specs.Recovers.{Recovers}
use Rattle.store_core.specs.declared.fault.StoreFault.{StoreFault}
use Rattle.store_core.specs.declared.fault.StoreFault.TheVariants.{Down, NoRoom, VolumeFault}
use Rattle.store_core.specs.declared.store.Store.{Store}
use Rattle.store_core.specs.Stands.{Checkpoint, Stands}
use Rattle.store_core.specs.Store.{checkpoint_found, may_be_opened, store_down, store_standing, store_volume, CountsOpenFault, CountsStoreFault, IsCopyOf, IsNotNoRoom, IsOpened, IsWritable}
use Rattle.soft_recovery.specs.Inspecting.{IsStanding}
use Rattle.soft_recovery.specs.Opening.{CountsCause, CountsRecoverFault, IsRecovered, IsUntouched}
use Rattle.soft_recovery.specs.Recovering.{HasFewPages, HoldsRecovered}
use Rattle.soft_recovery.specs.Refusals.{cause_of_check, cause_of_engine, IsFromOutside, Refuses, RefusesEngine}
use Rattle.soft_recovery.specs.declared.opening.Recovered.{Recovered}
use Rattle.soft_recovery.specs.declared.refusals.EngineFault.{EngineFault}
use Rattle.soft_recovery.specs.declared.refusals.EngineFault.TheVariants as engine
use Rattle.soft_recovery.specs.declared.refusals.RecoverCause.{RecoverCause}
use Rattle.soft_recovery.specs.declared.refusals.RecoverCause.TheVariants as cause
use Rattle.soft_recovery.specs.declared.refusals.RecoverFault.{RecoverFault}

-- ---- what was found

below : (a b : ℕ) → a < b → nat_lt a b ≡ true
below a b h = grind (arith, nat_tests)

-- its numbers are within the bounds of an opening
pub found_within : (found : Found) (standing : Standing) → IsAnswer found standing → may_be_opened (checkpoint_found found standing) ≡ true
found_within found.New standing is = refl
found_within (found.Old image) standing is =
    let b = is.bounds in
    and_from (nat_lt standing.number (2 ^ 62)) (nat_lt image.number (2 ^ 62) && (nat_lt standing.start.generation (2 ^ 62) && nat_lt standing.start.position (2 ^ 62))) (below standing.number (2 ^ 62) b.number)
    (and_from (nat_lt image.number (2 ^ 62)) (nat_lt standing.start.generation (2 ^ 62) && nat_lt standing.start.position (2 ^ 62)) (below image.number (2 ^ 62) b.entries_fit)
    (and_from (nat_lt standing.start.generation (2 ^ 62)) (nat_lt standing.start.position (2 ^ 62)) (below standing.start.generation (2 ^ 62) b.generation_fits) (below standing.start.position (2 ^ 62) b.position)))

some_none : {A : Type 0} (a : A) → Some a ≡ None → ⊥
some_none a e = cc

pub found_copied : (found : Found) (standing : Standing) → IsAnswer found standing → IsCopyOf (checkpoint_found found standing) standing
found_copied found.New standing is = record { number = is.number; start = is.start; pages = is.pages; no_slots = λ none. is.slots }
found_copied (found.Old image) standing is = record { number = refl; start = refl; pages = is.pages; no_slots = λ none. absurd (some_none _ none) }

-- a checkpoint has a number from 1
numbered : (found : Found) (standing : Standing) → IsAnswer found standing → standing.number ≡ 0 → checkpoint_found found standing ≡ None
numbered found.New standing is none = refl
numbered (found.Old image) standing is none = let never : ⊥ = omega (arith, is.bounds.first, none) in absurd never

formed : (found : Found) (standing : Standing) → IsAnswer found standing → standing.format ≡ FORMAT_VERSION
formed found.New standing is = is.format
formed (found.Old image) standing is = is.format

pub found_standing : (found : Found) (standing : Standing) → IsAnswer found standing → IsStanding (checkpoint_found found standing) standing
found_standing found standing is = record { within = found_within found standing is; copy = found_copied found standing is; format = formed found standing is; new = numbered found standing is }

pub found_few : (found : Found) (standing : Standing) → IsAnswer found standing → HasFewPages found
found_few found.New standing is = tt
found_few (found.Old image) standing is = is.shape.pages

-- ---- refusals of parts

-- what opening a store tells of a refusal
pub check_refused : (files : Files) (fault : CheckFault) → Explains files fault → Refuses files (cause_of_check fault) ⊎ IsFromOutside (cause_of_check fault)
check_refused files check.CheckpointCorrupt why = inl why
check_refused files check.LogSequenceEnd why = inl why
check_refused files check.ReadVerifyFailure why = inl why
check_refused files check.VolumeFault why = inr tt
check_refused files check.OutOfMemory why = inr tt

-- and what making the engine tells, of what stands
pub engine_refused : (files : Files) (checkpoint : Option Checkpoint) (stream : List ℕ) (fault : EngineFault) → Stands checkpoint stream files → may_be_opened checkpoint ≡ true → RefusesEngine checkpoint stream fault
    → Refuses files (cause_of_engine fault) ⊎ IsFromOutside (cause_of_engine fault)
engine_refused files checkpoint stream (engine.DatabaseCorrupted found) stands within why = inl (record { checkpoint = checkpoint; stream = stream; stands = stands; within = within; is = why })
engine_refused files checkpoint stream engine.LogFileCorrupt stands within why = inl (record { checkpoint = checkpoint; stream = stream; stands = stands; within = within; is = why })
engine_refused files checkpoint stream engine.OutOfMemory stands within why = inr tt

pub check_counted : (fault : CheckFault) (before now : ℕ) → CountsOpenFault fault before now → CountsCause (cause_of_check fault) before now
check_counted check.CheckpointCorrupt before now counts = counts
check_counted check.LogSequenceEnd before now counts = counts
check_counted check.ReadVerifyFailure before now counts = counts
check_counted check.VolumeFault before now counts = counts
check_counted check.OutOfMemory before now counts = counts

-- no fault of the engine is one of the volume
pub engine_counted : (fault : EngineFault) (before now : ℕ) → now ≡ before → CountsCause (cause_of_engine fault) before now
engine_counted (engine.DatabaseCorrupted found) before now same = same
engine_counted engine.LogFileCorrupt before now same = same
engine_counted engine.OutOfMemory before now same = same

-- ---- a seal

abbrev sealed_so : {V : Type 0} → (V → ℕ) → Store V → Store V → Result (Unit {0}) StoreFault → Type 0
sealed_so faults old new result = CountsStoreFault faults result old new

-- a store that is up refuses a seal for a fault of the volume alone
pub seal_counted : {V : Type 0} (faults : V → ℕ) (old new : Store V) (result : Result (Unit {0}) StoreFault) (why : StoreFault) → result ≡ Err why → store_down old ≡ None → IsNotNoRoom result → CountsStoreFault faults result old new
    → faults (store_volume old) < faults (store_volume new)
seal_counted faults old new result (Down count) is up room counts = absurd (some_none count (sym (subst (sealed_so faults old new) is counts).0 ∙ up))
seal_counted faults old new result NoRoom is up room counts = absurd (subst IsNotNoRoom is room)
seal_counted faults old new result VolumeFault is up room counts = (subst (sealed_so faults old new) is counts).1

pub may_be_sealed : (generation : ℕ) → generation < 2 ^ 62 + 2 ^ 24 → generation < 2 ^ 63
may_be_sealed generation h = omega arith

-- ---- exactly one answer

module _ {V : Type 0} where
  -- what is refused for one cause at most is refused for that
  pub exactly : (files : Files) (fault : RecoverFault V) (why : RecoverCause) → ((one other : RecoverCause) → Refuses files one → Refuses files other → one ≡ other) → Refuses files fault.cause ⊎ IsFromOutside fault.cause
      → Refuses files why → (fault.cause ≡ why) ⊎ IsFromOutside fault.cause
  exactly files fault why once told refuses = ⊎_elim (λ is. inl (once fault.cause why is refuses)) (λ outside. inr outside) told

  -- and what is not refused is refused from outside
  pub surely : (files : Files) (fault : RecoverFault V) → (Refuses files fault.cause → ⊥) → Refuses files fault.cause ⊎ IsFromOutside fault.cause → IsFromOutside fault.cause
  surely files fault none told = ⊎_elim (λ is. absurd (none is)) (λ outside. outside) told

-- ---- what a crash leaves

module _ {V : Type 0} (seen : V → Files) (moment : V → ℕ) (left_at : V → ℕ → Files → Type 0) where
  -- of a volume that was settled, and that nothing was written to, it leaves what a read gives
  pub untouched_has : (old new : V) (P : Files → Type 0) → IsUntouched seen moment left_at old new → IsSettled moment left_at seen old → P (seen old) → LeavesOnly moment left_at old new P
  untouched_has old new P untouched settled here = leaves_weaker moment left_at old new (left_at old (moment old)) P (λ files left. subst P (sym (settled files left)) here) untouched.any_moment

  -- once it is sealed too
  pub sealed_has : (old mid new : V) (P : Files → Type 0) → IsUntouched seen moment left_at old mid → IsSettled moment left_at seen old → P (seen old) → LeavesOnly moment left_at mid new P → LeavesOnly moment left_at old new P
  sealed_has old mid new P untouched settled here sealing = goes_on_by moment left_at old mid new P (untouched_has old mid P untouched settled here) sealing

  -- what stands everywhere recovers everywhere
  pub recovers_still : (old new : V) (state : DatabaseState) → Recovers (seen old) state → ((checkpoint : Option Checkpoint) (stream : List ℕ) → Stands checkpoint stream (seen old) → LeavesOnly moment left_at old new (Stands checkpoint stream))
      → LeavesOnly moment left_at old new (λ files. Recovers files state)
  recovers_still old new state recovers still =
      leaves_weaker moment left_at old new (Stands recovers.checkpoint recovers.stream) (λ files. Recovers files state)
      (λ files stands. record { checkpoint = recovers.checkpoint; stream = recovers.stream; stands = stands; from = recovers.from }) (still recovers.checkpoint recovers.stream recovers.stands)

-- ---- a volume that was opened and is sealed

pub not_told : {A : Type 0} (b : Bool) → b ≡ true → b ≡ false → A
not_told b is not = impossible (sym not ∙ is)

module _ (tells : Type 0) {V : Type 0} (seen : V → Files) (moment : V → ℕ) (left_at : V → ℕ → Files → Type 0) where
  abbrev Sealable : Type 0
  Sealable = (store : Store V) (checkpoint : Option Checkpoint) (stream : List ℕ) → IsWritable seen moment left_at store checkpoint stream → IsOpened seen moment left_at store checkpoint stream

  abbrev Has : Bool → V → Recovered V → Type 0
  Has write volume recovered = IsRecovered tells seen moment left_at write volume recovered

  -- what the store that was opened has is what stands
  pub opened_so : (volume : V) (recovered : Recovered V) (checkpoint : Option Checkpoint) (stream : List ℕ) → Has false volume recovered → tells → IsSettled moment left_at seen volume → Stands checkpoint stream (seen volume)
      → IsOpened seen moment left_at recovered.store checkpoint stream
  opened_so volume recovered checkpoint stream has told settled stands =
      let only = has.only told checkpoint stream stands in
      subst (λ (c : Option Checkpoint). IsOpened seen moment left_at recovered.store c stream) (sym only.0)
      (subst (λ (bytes : List ℕ). IsOpened seen moment left_at recovered.store has.checkpoint bytes) (sym only.1) (has.opened told settled))

  pub recovered_sealed : Sealable → (write : Bool) (volume : V) (old new : Recovered V) → Has false volume old → new.engine ≡ old.engine → store_standing new.store ≡ store_standing old.store
      → (tells → (checkpoint : Option Checkpoint) (stream : List ℕ) → IsOpened seen moment left_at old.store checkpoint stream → IsWritable seen moment left_at new.store checkpoint stream) → Has write volume new
  recovered_sealed law write volume old new has engine standing sealed = record {
    checkpoint = has.checkpoint;
    stream = has.stream;
    within = has.within;
    copy = subst (λ (s : Standing). IsCopyOf has.checkpoint s) (sym standing) has.copy;
    holds = subst (λ (e : EngineState). HoldsRecovered has.checkpoint has.stream e) (sym engine) has.holds;
    stands = has.stands;
    only = has.only;
    opened = λ told settled. law new.store has.checkpoint has.stream (sealed told has.checkpoint has.stream (has.opened told settled));
    writable = λ is told settled. sealed told has.checkpoint has.stream (has.opened told settled);
  }

  pub all_sealed : Sealable → (write : Bool) (volume : V) (old : Recovered V) (result : Result (Recovered V) (RecoverFault V)) → Has false volume old → IfOk result (λ new. new.engine ≡ old.engine)
      → IfOk result (λ new. store_standing new.store ≡ store_standing old.store)
      → IfOk result (λ new. tells → (checkpoint : Option Checkpoint) (stream : List ℕ) → IsOpened seen moment left_at old.store checkpoint stream → IsWritable seen moment left_at new.store checkpoint stream)
      → IfOk result (λ new. Has write volume new)
  all_sealed law write volume old (Ok new) has engine standing sealed = recovered_sealed law write volume old new has engine standing sealed
  all_sealed law write volume old (Err fault) has engine standing sealed = tt

  pub recovered_unsealed : (write : Bool) (volume : V) (recovered : Recovered V) → write ≡ false → Has false volume recovered → Has write volume recovered
  recovered_unsealed write volume recovered not has = subst (λ (w : Bool). Has w volume recovered) (sym not) has

-- ---- answers of the whole

module _ {V : Type 0} where
  pub engine_has : (P : EngineState → Type 0) (old : EngineState) (result : Result (Recovered V) (RecoverFault V)) → P old → IfOk result (λ new. new.engine ≡ old) → IfOk result (λ new. P new.engine)
  engine_has P old (Ok new) has same = subst P (sym same) has
  engine_has P old (Err fault) has same = tt

  pub engine_kept : {A : Type 0} (f : EngineState → A) (a : A) (old : EngineState) (result : Result (Recovered V) (RecoverFault V)) → f old ≡ a → IfOk result (λ new. new.engine ≡ old) → IfOk result (λ new. f new.engine ≡ a)
  engine_kept f a old (Ok new) is same = ap f same ∙ is
  engine_kept f a old (Err fault) is same = tt

  pub seal_outside : (fault : RecoverFault V) → fault.cause ≡ cause.VolumeFault → IsFromOutside fault.cause
  seal_outside fault is = subst IsFromOutside (sym is) tt

  pub counted_on : (faults : V → ℕ) (old mid : V) (result : Result (Recovered V) (RecoverFault V)) → faults mid ≡ faults old → CountsRecoverFault faults mid result → CountsRecoverFault faults old result
  counted_on faults old mid (Ok recovered) same counts = counts ∙ same
  counted_on faults old mid (Err fault) same counts = subst (λ n. CountsCause fault.cause n (faults fault.volume)) same counts
