-- What files recover to, and what a log that was given in part has on them.
use Rattle.std.specs.Prelude.{◌≡◌, ◌≤◌, ℕ, true, List, ◌++◌, length, take, Option, Some, None}
use Rattle.index_derive.specs.declared.log.Entry.{Entry}
use Rattle.database_state.specs.State.{DatabaseState, empty_state}
use Rattle.database_state.specs.Step.{state_after_all}
use Rattle.jet_volume.specs.Image.{Image as Files}
use Rattle.laws_engine.specs.LawfulSteps.{AreLawful}
use Rattle.laws_engine.specs.EngineState.{EngineState}
use Rattle.laws_engine.specs.HoldsState.{HoldsState}
use Rattle.laws_images.specs.Settled.{AreAlike}
use Rattle.log_grammar.specs.EntryBytes.{IsCut}
use Rattle.log_grammar.specs.EntryStreams.{stream_bytes, stream_fits}
use Rattle.loggable_steps.specs.Replays.{closed}
use Rattle.image_findings.specs.Findings.{IsConsistent, engine_in}
use Rattle.image_findings.specs.Images.{ImageContents}
use Rattle.store_core.specs.Stands.{Checkpoint, Stands}

-- ---- what files recover to

-- the image that a checkpoint holds
abbrev pub image_of : Checkpoint → ImageContents
image_of checkpoint = record { number = checkpoint.entries; pages = checkpoint.pages; catalog_root = checkpoint.catalog_root; live = checkpoint.live }

-- The state that a checkpoint shows: its image is consistent, and the engine that it shows holds the state. Without a checkpoint the
-- volume is new, and its state is the empty one.
abbrev pub ShowsState : Option Checkpoint → DatabaseState → Type 0
ShowsState None state = state ≡ empty_state
ShowsState (Some checkpoint) state = IsConsistent (image_of checkpoint) × HoldsState (engine_in 0 (image_of checkpoint)) state

-- Each entry may come after those before it, and has a spelling.
pub record MayCome (state : DatabaseState) (entries : List Entry) : Type 0 where
  pub lawful : AreLawful state entries
  pub spelled : stream_fits entries ≡ true

-- The bytes behind a checkpoint are those of entries that may come in turn after a state that it shows, and a rest that is cut from an
-- entry or has no byte. What is recovered is the state after these entries, with all sessions given up.
pub record RecoversFrom (checkpoint : Option Checkpoint) (stream : List ℕ) (state : DatabaseState) : Type 0 where
  pub shown : DatabaseState
  pub shows : ShowsState checkpoint shown
  pub entries : List Entry
  pub rest : List ℕ
  pub reads : stream ≡ stream_bytes entries ++ rest
  pub cut : IsCut rest
  pub come : MayCome shown entries
  pub is : state ≡ closed (state_after_all shown entries)

-- A checkpoint and a stream stand on the files, and the state is recovered from these.
pub record Recovers (files : Files) (state : DatabaseState) : Type 0 where
  pub checkpoint : Option Checkpoint
  pub stream : List ℕ
  pub stands : Stands checkpoint stream files
  pub from : RecoversFrom checkpoint stream state

-- ---- a log of which a store has some bytes

-- some engine holds the state
abbrev pub IsHeld : DatabaseState → Type 0
IsHeld state = (engine : EngineState) × HoldsState engine state

-- A checkpoint shows the state, or one that is alike, after some first entries, whose bytes end at the base.
pub record Covers (opening : DatabaseState) (entries : List Entry) (checkpoint : Option Checkpoint) (base : ℕ) : Type 0 where
  pub before : List Entry
  pub behind : List Entry
  pub split : entries ≡ before ++ behind
  pub base_is : base ≡ length (stream_bytes before)
  pub shown : DatabaseState
  pub shows : ShowsState checkpoint shown
  pub alike : AreAlike (state_after_all opening before) shown

-- So many of the entries are at least all whose bytes end at the position or before.
abbrev pub Reaches : List Entry → ℕ → ℕ → Type 0
Reaches entries at k = (m : ℕ) → m ≤ length entries → length (stream_bytes (take m entries)) ≤ at → m ≤ k

-- The files recover to the state after some first entries, closed: at least those whose bytes end at the position or before.
pub record RecoversUpTo (opening : DatabaseState) (entries : List Entry) (at : ℕ) (files : Files) : Type 0 where
  pub k : ℕ
  pub within : k ≤ length entries
  pub reaches : Reaches entries at k
  pub recovers : Recovers files (closed (state_after_all opening (take k entries)))
