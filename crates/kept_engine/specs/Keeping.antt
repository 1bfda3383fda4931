-- An engine whose log is kept on a store, and what a crash leaves of it.
use Rattle.std.specs.Prelude.{◌≡◌, ◌≤◌, ◌<◌, ◌+◌, ◌^◌, ℕ, List, [], length, Option, Some, None}
use Rattle.index_derive.specs.declared.log.Entry.{Entry}
use Rattle.database_state.specs.State.{DatabaseState}
use Rattle.database_state.specs.Step.{state_after_all}
use Rattle.jet_volume.specs.Image.{Image as Files}
use Rattle.jet_volume.specs.Crash.{CrashLeaves, LeavesOnly}
use Rattle.log_grammar.specs.EntryStreams.{stream_bytes}
use Rattle.entry_log.specs.LogState.{empty_stream, stream_end}
use Rattle.laws_engine.specs.EngineState.{HasRoomForEnds}
use Rattle.laws_engine.specs.HoldsState.{HoldsState}
use Rattle.laws_images.specs.Settled.{AreAlike}
use Rattle.laws_images.specs.SoundStates.{IsSoundState}
use Rattle.loggable_steps.specs.Replays.{HasLogged, closed}
use Rattle.store_core.specs.declared.store.Store.{Store}
use Rattle.store_core.specs.Stands.{Checkpoint, Stands, StandsOldOrNew}
use Rattle.store_core.specs.Store.{store_down, IsWritable}
use Rattle.log_keeper.specs.declared.keeper.LogKeeper.{LogKeeper}
use Rattle.log_keeper.specs.Keeping.{keeper_store, keeper_volume, keeper_given, KeepsLog}
use Rattle.recovered_states.specs.Recovers.{Covers, IsHeld, Recovers, RecoversUpTo, ShowsState}
use Rattle.engine_core.specs.LoggedState.{LoggedState}
use Rattle.kept_engine.specs.declared.kept.KeptEngine.{KeptEngine}
use Rattle.ordered_run.specs.declared.flushed.After.{After}
use Rattle.ordered_run.specs.declared.flushed.After.TheVariants.{Goes}
use Rattle.ordered_run.specs.declared.flushed.Flush.TheVariants.{Kept}
use Rattle.ordered_run.specs.declared.flushed.Flushed.{Flushed}
use Rattle.kept_engine.specs.Spans.{LogSpan, span_of}

-- the engine, and what is kept in memory of the bytes of its log
abbrev pub kept_logged : {V : Type 0} → KeptEngine V → LoggedState
kept_logged kept = kept.engine

abbrev pub kept_keeper : {V : Type 0} → KeptEngine V → LogKeeper V
kept_keeper kept = kept.keeper

abbrev pub kept_store : {V : Type 0} → KeptEngine V → Store V
kept_store kept = keeper_store kept.keeper

abbrev pub kept_volume : {V : Type 0} → KeptEngine V → V
kept_volume kept = keeper_volume kept.keeper

-- the position of the log up to which the store was given the bytes, and that behind the last one
abbrev pub kept_given : {V : Type 0} → KeptEngine V → ℕ
kept_given kept = keeper_given kept.keeper

abbrev pub kept_end : {V : Type 0} → KeptEngine V → ℕ
kept_end kept = stream_end kept.engine.stream

-- how many bytes of the log may stand behind a checkpoint
abbrev pub kept_depth : {V : Type 0} → KeptEngine V → ℕ
kept_depth kept = kept.depth

abbrev pub kept_span : {V : Type 0} → KeptEngine V → LogSpan
kept_span kept = span_of (keeper_store kept.keeper)

-- ---- when it can go on

-- the engine holds a state within the limits that an image is held to
abbrev pub HoldsSound : {V : Type 0} → KeptEngine V → Type 0
HoldsSound kept = (state : DatabaseState) × HoldsState (kept_logged kept).engine state × IsSoundState state

-- A store as it was opened, for a log of which it was given no byte, and an engine whose log begins, with room for all that is to end.
pub record IsFresh {V : Type 0} (kept : KeptEngine V) : Type 0 where
  pub holds : HoldsSound kept
  pub room : HasRoomForEnds (kept_logged kept).engine
  pub stream : (kept_logged kept).stream ≡ empty_stream
  pub given : kept_given kept ≡ 0
  pub up : store_down (kept_store kept) ≡ None
  pub number : (kept_span kept).number < 2 ^ 62
  pub generation : (kept_span kept).end.generation < 2 ^ 62 + 2 ^ 24
  pub position : (kept_span kept).end.position < 2 ^ 62 + 2 ^ 24

-- A checkpoint stands, and the numbers of the store have grown by no more than the bytes that it was given since its opening, which
-- began below 2^62.
pub record IsWithinBounds (given : ℕ) (span : LogSpan) : Type 0 where
  pub standing : 1 ≤ span.number
  pub follows : span.start.position ≤ span.end.position
  pub number : span.number + span.end.position ≤ 2 ^ 62 + given + span.start.position
  pub generation : span.end.generation ≤ 2 ^ 62 + 2 ^ 24 + given
  pub position : span.end.position ≤ 2 ^ 62 + 2 ^ 24 + given

-- It can go on: the number has room for all that is to end, the store is up, and the bytes of the log that it was not given are there.
pub record IsReady {V : Type 0} (kept : KeptEngine V) : Type 0 where
  pub holds : HoldsSound kept
  pub room : HasRoomForEnds (kept_logged kept).engine
  pub from : (kept_logged kept).stream.from ≤ kept_given kept
  pub within : kept_given kept ≤ kept_end kept
  pub up : store_down (kept_store kept) ≡ None
  pub bounds : IsWithinBounds (kept_given kept) (kept_span kept)

-- ---- what it keeps

-- A checkpoint of this number stands on the files, and no byte of a log behind it.
pub record StandsAlone (number : ℕ) (files : Files) : Type 0 where
  pub checkpoint : Checkpoint
  pub number_is : checkpoint.number ≡ number
  pub stands : Stands (Some checkpoint) [] files

module _ {V : Type 0} (seen : V → Files) (moment : V → ℕ) (left_at : V → ℕ → Files → Type 0) where
  -- The engine has made these entries since an opening state. The store has the bytes of the first of them, up to the position that
  -- was given: by its standing checkpoint, and behind it.
  pub record Keeps (opening : DatabaseState) (entries : List Entry) (kept : KeptEngine V) : Type 0 where
    pub held : IsHeld opening
    pub sound : IsSoundState opening
    pub logged : HasLogged opening entries (kept_logged kept).engine (kept_logged kept).stream
    pub checkpoint : Option Checkpoint
    pub base : ℕ
    pub covers : Covers opening entries checkpoint base
    pub keeps : KeepsLog seen moment left_at (kept_keeper kept) checkpoint base (stream_bytes entries)

  -- An image shows the state, or one that is alike. At each moment it stands, with no byte behind it, or what stood before.
  pub record PutsImage (state : DatabaseState) (old new : KeptEngine V) (checkpoint : Option Checkpoint) (stream : List ℕ) (after : After) : Type 0 where
    pub image : Checkpoint
    pub shown : DatabaseState
    pub shows : ShowsState (Some image) shown
    pub alike : AreAlike state shown
    pub any_moment : LeavesOnly moment left_at (kept_volume old) (kept_volume new) (StandsOldOrNew checkpoint stream image)
    pub written : after ≡ Goes → IsWritable seen moment left_at (kept_store new) (Some image) []

  -- What comes of a flush of these entries: what a crash leaves at any moment recovers to at least those whose bytes had been given
  -- before; once they are kept, to all of them; and where the run goes on they are kept as before.
  pub record KeepsOn (opening : DatabaseState) (entries : List Entry) (old new : KeptEngine V) (told : Flushed) : Type 0 where
    pub any_moment : LeavesOnly moment left_at (kept_volume old) (kept_volume new) (RecoversUpTo opening entries (kept_given old))
    pub kept : told.flush ≡ Kept → CrashLeaves moment left_at (kept_volume new) (RecoversUpTo opening entries (length (stream_bytes entries)))
    pub goes : told.after ≡ Goes → Keeps opening entries new

  -- What comes of the opening's image.
  pub record Begins (opening : DatabaseState) (old new : KeptEngine V) (after : After) : Type 0 where
    pub any_moment : LeavesOnly moment left_at (kept_volume old) (kept_volume new) (RecoversUpTo opening [] 0)
    pub goes : after ≡ Goes → Keeps opening [] new

  -- What comes of the closing image.
  pub record Ends (opening : DatabaseState) (entries : List Entry) (old new : KeptEngine V) (after : After) : Type 0 where
    pub any_moment : LeavesOnly moment left_at (kept_volume old) (kept_volume new) (RecoversUpTo opening entries (kept_given old))
    pub done : after ≡ Goes → CrashLeaves moment left_at (kept_volume new) (λ files. Recovers files (closed (state_after_all opening entries)))
    pub alone : after ≡ Goes → CrashLeaves moment left_at (kept_volume new) (StandsAlone ((kept_span old).number + 1))
