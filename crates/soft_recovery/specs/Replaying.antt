-- What is read and made again of a log.
use Rattle.std.specs.Prelude.{◌≡◌, ◌≤◌, ℕ, true, false, List, ◌++◌, length, take, Option, Some, None, Result, Ok, Err}
use Rattle.index_derive.specs.declared.log.Entry.{Entry}
use Rattle.database_state.specs.Lawful.{is_lawful}
use Rattle.database_state.specs.State.{DatabaseState}
use Rattle.database_state.specs.Step.{state_after, state_after_all}
use Rattle.engine_core.specs.Runs.{EndsFindRoom}
use Rattle.laws_engine.specs.EngineState.{EngineState}
use Rattle.laws_engine.specs.HoldsState.{HoldsState}
use Rattle.laws_images.specs.SoundStates.{IsSoundState}
use Rattle.log_grammar.specs.EntryBytes.{BeginsWith, IsCut, entry_bytes, has_spelling}
use Rattle.log_grammar.specs.EntryStreams.{stream_bytes}
use Rattle.recovered_states.specs.Recovers.{MayCome}
use Rattle.soft_recovery.specs.declared.fault.ReplayFault.{ReplayFault}
use Rattle.soft_recovery.specs.declared.fault.ReplayFault.TheVariants.{LogFileCorrupt, OutOfMemory}

-- ---- where a replay begins and goes on

-- The engine holds a state within the limits that an image is held to, and the number of its log has room for all that is to end, or
-- nothing is to end.
pub record MayReplay (engine : EngineState) : Type 0 where
  pub state : DatabaseState
  pub holds : HoldsState engine state
  pub sound : IsSoundState state
  pub room : EndsFindRoom engine

-- ---- one entry

-- It goes on from an engine that has made something, with the same limit.
pub record GoesOn (old new : EngineState) : Type 0 where
  pub may : MayReplay new
  pub limit : new.limit ≡ old.limit

-- The entry may come next, and the engine holds the state after it.
pub record IsMade (new : EngineState) (made : Entry) (state : DatabaseState) : Type 0 where
  pub lawful : is_lawful state made ≡ true
  pub holds : HoldsState new (state_after state made)

-- whether the entry was made, of which the size is told: where it was refused, it may not come next
abbrev pub TakesStep : EngineState → EngineState → Entry → ℕ → Result (Option ℕ) ReplayFault → Type 0
TakesStep old new made size (Ok taken) = (taken ≡ Some size) × GoesOn old new × ((state : DatabaseState) → HoldsState old state → IsMade new made state)
TakesStep old new made size (Err LogFileCorrupt) = (state : DatabaseState) → HoldsState old state → is_lawful state made ≡ false
TakesStep old new made size (Err OutOfMemory) = Unit {0}

-- The bytes begin with an entry of this size, which was made.
pub record TakesFront (old new : EngineState) (bytes : List ℕ) (size : ℕ) : Type 0 where
  pub made : Entry
  pub behind : List ℕ
  pub spelled : has_spelling made ≡ true
  pub is : bytes ≡ entry_bytes made ++ behind
  pub size_is : size ≡ length (entry_bytes made)
  pub is_made : (state : DatabaseState) → HoldsState old state → IsMade new made state

-- The bytes begin with no entry that may come next, and are cut from none.
pub record HasNoFront (bytes : List ℕ) (state : DatabaseState) : Type 0 where
  pub none : (made : Entry) → BeginsWith bytes made → is_lawful state made ≡ true → ⊥
  pub uncut : IsCut bytes → ⊥

abbrev pub TellsFront : EngineState → EngineState → List ℕ → Result (Option ℕ) ReplayFault → Type 0
TellsFront old new bytes (Ok (Some size)) = (1 ≤ size) × (size ≤ length bytes) × GoesOn old new × TakesFront old new bytes size
TellsFront old new bytes (Ok None) = IsCut bytes × (new ≡ old)
TellsFront old new bytes (Err LogFileCorrupt) = (state : DatabaseState) → HoldsState old state → HasNoFront bytes state
TellsFront old new bytes (Err OutOfMemory) = Unit {0}

-- ---- the whole log

-- The entries of the bytes up to a position were made.
pub record HasMade (now : EngineState) (bytes : List ℕ) (at : ℕ) (state : DatabaseState) : Type 0 where
  pub done : List Entry
  pub is : stream_bytes done ≡ take at bytes
  pub come : MayCome state done
  pub holds : HoldsState now (state_after_all state done)

-- The bytes are those of entries that may come in turn after a state, and a rest that is cut from one or has no byte. The engine holds
-- the state after these entries, which stays within the limits that an image is held to.
pub record IsReplayed (new : EngineState) (bytes : List ℕ) (state : DatabaseState) : Type 0 where
  pub entries : List Entry
  pub rest : List ℕ
  pub reads : bytes ≡ stream_bytes entries ++ rest
  pub cut : IsCut rest
  pub come : MayCome state entries
  pub holds : HoldsState new (state_after_all state entries)
  pub sound : IsSoundState state → IsSoundState (state_after_all state entries)

-- The bytes are not so.
abbrev pub IsNoLog : List ℕ → DatabaseState → Type 0
IsNoLog bytes state = (entries : List Entry) (rest : List ℕ) → bytes ≡ stream_bytes entries ++ rest → IsCut rest → MayCome state entries → ⊥
