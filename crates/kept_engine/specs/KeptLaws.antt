-- The laws by which a crash leaves what an engine keeps.
use Rattle.std.specs.Prelude.{◌≡◌, ◌≤◌, ℕ, true, List, [], length, Option, Some}
use Rattle.index_derive.specs.declared.log.Entry.{Entry}
use Rattle.database_state.specs.Lawful.{is_lawful}
use Rattle.database_state.specs.State.{DatabaseState}
use Rattle.database_state.specs.Step.{state_after, state_after_all}
use Rattle.jet_volume.specs.Image.{Image as Files}
use Rattle.jet_volume.specs.Crash.{CrashLeaves}
use Rattle.entry_log.specs.LogState.{KeptStream, stream_end, trimmed_to}
use Rattle.laws_engine.specs.EngineState.{EngineState}
use Rattle.laws_images.specs.Settled.{AreAlike}
use Rattle.laws_images.specs.SoundStates.{IsLabel, IsSoundState}
use Rattle.log_grammar.specs.EntryStreams.{stream_bytes}
use Rattle.loggable_steps.specs.Replays.{HasLogged, closed}
use Rattle.store_core.specs.declared.store.Store.{Store}
use Rattle.store_core.specs.Stands.{Checkpoint, Stands}
use Rattle.store_core.specs.Store.{store_volume, IsWritable}
use Rattle.log_keeper.specs.Keeping.{between}
use Rattle.recovered_states.specs.Recovers.{Covers, IsHeld, MayCome, Recovers, RecoversUpTo, ShowsState}

pub record KeptLaws {V : Type 0} (seen : V → Files) (moment : V → ℕ) (left_at : V → ℕ → Files → Type 0) : Type 0 where
  -- a store that can be written leaves its checkpoint and its stream
  pub written : (store : Store V) (checkpoint : Option Checkpoint) (stream : List ℕ) → IsWritable seen moment left_at store checkpoint stream
      → CrashLeaves moment left_at (store_volume store) (Stands checkpoint stream)
  -- what stands of a log recovers
  pub at : (opening : DatabaseState) (entries : List Entry) → IsHeld opening → MayCome opening entries → (checkpoint : Option Checkpoint) (base at : ℕ) (files : Files) → Covers opening entries checkpoint base
      → base ≤ at → at ≤ length (stream_bytes entries) → Stands checkpoint (between base at (stream_bytes entries)) files → RecoversUpTo opening entries at files
  pub lower : (opening : DatabaseState) (entries : List Entry) (low at : ℕ) (files : Files) → low ≤ at → RecoversUpTo opening entries at files → RecoversUpTo opening entries low files
  pub opening : (files : Files) (opening : DatabaseState) (entries : List Entry) → Recovers files opening → RecoversUpTo opening entries 0 files
  -- an image covers its entries, and recovers to its state
  pub covers : (opening : DatabaseState) (entries : List Entry) (checkpoint : Checkpoint) (shown : DatabaseState) → ShowsState (Some checkpoint) shown → AreAlike (state_after_all opening entries) shown
      → Covers opening entries (Some checkpoint) (length (stream_bytes entries))
  pub recovers : (opening : DatabaseState) (entries : List Entry) (checkpoint : Checkpoint) (shown : DatabaseState) (at : ℕ) (files : Files) → ShowsState (Some checkpoint) shown
      → closed (state_after_all opening entries) ≡ closed shown → Stands (Some checkpoint) [] files → RecoversUpTo opening entries at files
  pub closes : (one other : DatabaseState) → AreAlike one other → closed one ≡ closed other
  -- states stay within the limits of images, and a log that is trimmed is the same log
  pub sound : (state : DatabaseState) (made : Entry) → IsSoundState state → IsLabel made.session.0 → is_lawful state made ≡ true → IsSoundState (state_after state made)
  pub trimmed : (opening : DatabaseState) (entries : List Entry) (engine : EngineState) (stream : KeptStream) (position : ℕ) → HasLogged opening entries engine stream
      → position ≤ stream_end stream → HasLogged opening entries engine (trimmed_to position stream)
