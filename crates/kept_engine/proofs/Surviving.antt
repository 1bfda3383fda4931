-- What a crash leaves of an engine that is kept, at each step.
use Rattle.std.proofs.Common.{◌≡◌, ◌≢◌, ⊎_elim, ℕ, ◌≤◌, ◌+◌, List, [], length, take, Option, None, Some, refl, sym, ◌∙◌, ap, subst, arith}
use Rattle.std.proofs.Math.Seq.{take_all}
use Rattle.index_derive.specs.declared.log.Entry.{Entry}
use Rattle.database_state.specs.State.{DatabaseState}
use Rattle.database_state.specs.Step.{state_after_all}
use Rattle.jet_volume.specs.Image.{Image as Files}
use Rattle.jet_volume.specs.Crash.{CrashLeaves, LeavesOnly}
use Rattle.jet_volume.specs.Moments.{started, goes_on_by, leaves_weaker}
use Rattle.entry_log.specs.LogState.{IsKeptOf, KeptStream, empty_stream, trimmed_to}
use Rattle.entry_log.specs.StreamLaws.{ends_with, first_stream}
use Rattle.laws_engine.specs.EngineState.{EngineState}
use Rattle.laws_engine.specs.HoldsState.{HoldsState}
use Rattle.laws_images.specs.Settled.{AreAlike}
use Rattle.laws_images.specs.SoundStates.{IsSoundState}
use Rattle.log_grammar.specs.EntryStreams.{stream_bytes}
use Rattle.loggable_steps.specs.Replays.{HasLogged, closed}
use Rattle.engine_core.specs.LoggedState.{LoggedState}
use Rattle.store_core.specs.Stands.{Checkpoint, Stands, StandsOldOrNew, number_of}
use Rattle.store_core.specs.declared.store.Store.{Store}
use Rattle.store_core.specs.Store.{store_standing, store_volume, IsWritable}
use Rattle.log_keeper.specs.declared.keeper.LogKeeper.{LogKeeper}
use Rattle.log_keeper.specs.Keeping.{between, KeepsLog, StandsUpTo}
use Rattle.recovered_states.specs.Recovers.{MayCome, Recovers, RecoversFrom, RecoversUpTo, ShowsState}
use Rattle.kept_engine.specs.declared.kept.KeptEngine.{KeptEngine}
use Rattle.ordered_run.specs.declared.flushed.After.{After}
use Rattle.ordered_run.specs.declared.flushed.After.TheVariants.{Goes, Fault, Memory}
use Rattle.ordered_run.specs.declared.flushed.Flushed.{Flushed}
use Rattle.kept_engine.specs.KeptLaws.{KeptLaws}
use Rattle.kept_engine.specs.Keeping.{kept_end, kept_given, kept_keeper, kept_logged, kept_store, kept_volume, Keeps, KeepsOn, PutsImage, StandsAlone}
use Rattle.kept_engine.proofs.Clashes.{fault_memory, goes_memory}
use Rattle.kept_engine.proofs.Parts.{between_none}
use Rattle.kept_engine.proofs.Sound.{sound_after}

-- ---- the same entries

pub logged_as : (opening : DatabaseState) (entries : List Entry) (engine other : EngineState) (stream another : KeptStream) → other ≡ engine → another ≡ stream → HasLogged opening entries engine stream → HasLogged opening entries other another
logged_as opening entries engine other stream another same same_stream logged =
    subst (λ (s : KeptStream). HasLogged opening entries other s) (sym same_stream) (subst (λ (e : EngineState). HasLogged opening entries e stream) (sym same) logged)

module _ {V : Type 0} (seen : V → Files) (moment : V → ℕ) (left_at : V → ℕ → Files → Type 0) where
  -- the store has more of them
  pub fed_keeps : (opening : DatabaseState) (entries : List Entry) (old new : KeptEngine V) (keeps : Keeps seen moment left_at opening entries old) → kept_logged new ≡ kept_logged old
      → KeepsLog seen moment left_at (kept_keeper new) keeps.checkpoint keeps.base (stream_bytes entries) → Keeps seen moment left_at opening entries new
  fed_keeps opening entries old new keeps same fed = record {
    held = keeps.held;
    sound = keeps.sound;
    logged = subst (λ (l : LoggedState). HasLogged opening entries l.engine l.stream) (sym same) keeps.logged;
    checkpoint = keeps.checkpoint;
    base = keeps.base;
    covers = keeps.covers;
    keeps = fed;
  }

  -- the engine has them in another way
  pub relogged_keeps : (opening : DatabaseState) (entries : List Entry) (old new : KeptEngine V) → Keeps seen moment left_at opening entries old → kept_keeper new ≡ kept_keeper old
      → HasLogged opening entries (kept_logged new).engine (kept_logged new).stream → Keeps seen moment left_at opening entries new
  relogged_keeps opening entries old new keeps same logged = record {
    held = keeps.held;
    sound = keeps.sound;
    logged = logged;
    checkpoint = keeps.checkpoint;
    base = keeps.base;
    covers = keeps.covers;
    keeps = subst (λ (k : LogKeeper V). KeepsLog seen moment left_at k keeps.checkpoint keeps.base (stream_bytes entries)) (sym same) keeps.keeps;
  }

-- ---- what a crash leaves

nothing_is_next : (checkpoint : Option Checkpoint) (number : ℕ) → checkpoint ≡ None → number_of checkpoint ≡ number + 1 → ⊥
nothing_is_next checkpoint number none is = omega (arith, ap number_of none, is)

module _ {V : Type 0} (seen : V → Files) (moment : V → ℕ) (left_at : V → ℕ → Files → Type 0) (laws : KeptLaws seen moment left_at) where
  abbrev KeepsIn : DatabaseState → List Entry → KeptEngine V → Type 0
  KeepsIn opening entries kept = Keeps seen moment left_at opening entries kept

  come : (opening : DatabaseState) (entries : List Entry) (kept : KeptEngine V) → KeepsIn opening entries kept → MayCome opening entries
  come opening entries kept keeps = record { lawful = keeps.logged.lawful; spelled = keeps.logged.spelled }

  -- the state after the entries is within the limits of images
  pub sound_now : (opening : DatabaseState) (entries : List Entry) (kept : KeptEngine V) → KeepsIn opening entries kept → IsSoundState (state_after_all opening entries)
  sound_now opening entries kept keeps = sound_after laws.sound opening entries keeps.logged.lawful keeps.logged.spelled keeps.sound

  -- what stands behind its checkpoint
  pub stands_kept : (opening : DatabaseState) (entries : List Entry) (kept : KeptEngine V) (keeps : KeepsIn opening entries kept) (files : Files) (at : ℕ)
      → kept_given kept ≤ at → at ≤ length (stream_bytes entries) → Stands keeps.checkpoint (between keeps.base at (stream_bytes entries)) files → RecoversUpTo opening entries at files
  stands_kept opening entries kept keeps files at from within stands =
      laws.at opening entries keeps.held (come opening entries kept keeps) keeps.checkpoint keeps.base at files keeps.covers (omega (arith, keeps.keeps.from, from)) within stands

  pub stands_given : (opening : DatabaseState) (entries : List Entry) (kept : KeptEngine V) (keeps : KeepsIn opening entries kept) (files : Files)
      → Stands keeps.checkpoint (between keeps.base (kept_given kept) (stream_bytes entries)) files → RecoversUpTo opening entries (kept_given kept) files
  stands_given opening entries kept keeps files stands = stands_kept opening entries kept keeps files (kept_given kept) (omega arith) keeps.keeps.within stands

  -- a crash now
  pub keeps_leaves : (opening : DatabaseState) (entries : List Entry) (kept : KeptEngine V) → KeepsIn opening entries kept → CrashLeaves moment left_at (kept_volume kept) (RecoversUpTo opening entries (kept_given kept))
  keeps_leaves opening entries kept keeps files left =
      stands_given opening entries kept keeps files (laws.written (kept_store kept) keeps.checkpoint (between keeps.base (kept_given kept) (stream_bytes entries)) keeps.keeps.writable files left)

  -- nothing was written
  pub still : (opening : DatabaseState) (entries : List Entry) (kept : KeptEngine V) → KeepsIn opening entries kept → LeavesOnly moment left_at (kept_volume kept) (kept_volume kept) (RecoversUpTo opening entries (kept_given kept))
  still opening entries kept keeps = started moment left_at (kept_volume kept) (RecoversUpTo opening entries (kept_given kept)) (keeps_leaves opening entries kept keeps)

  -- while bytes are given
  pub giving_leaves : (opening : DatabaseState) (entries : List Entry) (kept : KeptEngine V) (keeps : KeepsIn opening entries kept) (old new : V)
      → LeavesOnly moment left_at old new (StandsUpTo keeps.checkpoint keeps.base (kept_given kept) (length (stream_bytes entries)) (stream_bytes entries))
      → LeavesOnly moment left_at old new (RecoversUpTo opening entries (kept_given kept))
  giving_leaves opening entries kept keeps old new gives =
      leaves_weaker moment left_at old new (StandsUpTo keeps.checkpoint keeps.base (kept_given kept) (length (stream_bytes entries)) (stream_bytes entries)) (RecoversUpTo opening entries (kept_given kept))
      (λ files stands. laws.lower opening entries (kept_given kept) stands.at files stands.since (stands_kept opening entries kept keeps files stands.at stands.since stands.most stands.stands)) gives

  -- a position before is reached, too
  pub lower : (opening : DatabaseState) (entries : List Entry) (low at : ℕ) (old new : V) → low ≤ at → LeavesOnly moment left_at old new (RecoversUpTo opening entries at) → LeavesOnly moment left_at old new (RecoversUpTo opening entries low)
  lower opening entries low at old new le leaves = leaves_weaker moment left_at old new (RecoversUpTo opening entries at) (RecoversUpTo opening entries low) (λ files up. laws.lower opening entries low at files le up) leaves

  -- all bytes that were made are given
  pub given_all : (opening : DatabaseState) (entries : List Entry) (kept : KeptEngine V) → KeepsIn opening entries kept → kept_given kept ≡ kept_end kept → kept_given kept ≡ length (stream_bytes entries)
  given_all opening entries kept keeps all = all ∙ ends_with (stream_bytes entries) (kept_logged kept).stream keeps.logged.kept

  -- what comes of a flush comes of it also with what was given before
  pub keeps_on_after : (opening : DatabaseState) (entries : List Entry) (old mid new : KeptEngine V) (told : Flushed) → kept_given old ≤ kept_given mid
      → LeavesOnly moment left_at (kept_volume old) (kept_volume mid) (RecoversUpTo opening entries (kept_given old)) → KeepsOn seen moment left_at opening entries mid new told
      → KeepsOn seen moment left_at opening entries old new told
  keeps_on_after opening entries old mid new told rises before on = record {
    any_moment = goes_on_by moment left_at (kept_volume old) (kept_volume mid) (kept_volume new) (RecoversUpTo opening entries (kept_given old)) before
        (lower opening entries (kept_given old) (kept_given mid) (kept_volume mid) (kept_volume new) rises on.any_moment);
    kept = on.kept;
    goes = on.goes;
  }

  -- the log in memory gives up its first bytes
  pub trimmed_keeps : (opening : DatabaseState) (entries : List Entry) (old new : KeptEngine V) (to : ℕ) → KeepsIn opening entries old → kept_keeper new ≡ kept_keeper old → (kept_logged new).engine ≡ (kept_logged old).engine
      → (kept_logged new).stream ≡ trimmed_to to (kept_logged old).stream → to ≤ kept_end old → KeepsIn opening entries new
  trimmed_keeps opening entries old new to keeps same engine stream within =
      relogged_keeps seen moment left_at opening entries old new keeps same
      (logged_as opening entries (kept_logged old).engine (kept_logged new).engine (trimmed_to to (kept_logged old).stream) (kept_logged new).stream engine stream
      (laws.trimmed opening entries (kept_logged old).engine (kept_logged old).stream to keeps.logged within))

  -- ---- images

  -- once an image is written of all of them
  pub image_keeps : (opening : DatabaseState) (entries : List Entry) (old new : KeptEngine V) → KeepsIn opening entries old → (image : Checkpoint) (shown : DatabaseState)
      → ShowsState (Some image) shown → AreAlike (state_after_all opening entries) shown → kept_logged new ≡ kept_logged old → kept_given new ≡ kept_end old
      → IsWritable seen moment left_at (kept_store new) (Some image) [] → KeepsIn opening entries new
  image_keeps opening entries old new keeps image shown shows alike same given written =
      let whole = stream_bytes entries in
      let end : kept_given new ≡ length whole = given ∙ ends_with whole (kept_logged old).stream keeps.logged.kept in
      record {
        held = keeps.held;
        sound = keeps.sound;
        logged = subst (λ (l : LoggedState). HasLogged opening entries l.engine l.stream) (sym same) keeps.logged;
        checkpoint = Some image;
        base = length whole;
        covers = laws.covers opening entries image shown shows alike;
        keeps = record {
          from = omega (arith, end);
          within = omega (arith, end);
          writable = subst (λ (bytes : List ℕ). IsWritable seen moment left_at (kept_store new) (Some image) bytes)
              (sym (ap (λ (n : ℕ). between (length whole) n whole) end ∙ between_none (length whole) whole)) written;
        };
      }

  -- the first image is that of the opening
  pub first_keeps : (opening : DatabaseState) (kept : KeptEngine V) → HoldsState (kept_logged kept).engine opening → IsSoundState opening → (kept_logged kept).stream ≡ empty_stream → kept_given kept ≡ 0
      → (image : Checkpoint) (shown : DatabaseState) → ShowsState (Some image) shown → AreAlike opening shown
      → IsWritable seen moment left_at (kept_store kept) (Some image) [] → KeepsIn opening [] kept
  first_keeps opening kept holds sound empty none image shown shows alike written = record {
    held = ((kept_logged kept).engine, holds);
    sound = sound;
    logged = record { lawful = tt; built = tt; typed = tt; spelled = refl; kept = subst (λ (s : KeptStream). IsKeptOf [] s) (sym empty) first_stream; holds = holds };
    checkpoint = Some image;
    base = 0;
    covers = laws.covers opening [] image shown shows alike;
    keeps = record {
      from = omega arith;
      within = omega (arith, none);
      writable = subst (λ (bytes : List ℕ). IsWritable seen moment left_at (kept_store kept) (Some image) bytes) (sym (ap (λ (n : ℕ). between 0 n []) none)) written;
    };
  }

  -- while an image is written, or found no memory
  pub image_moments : (opening : DatabaseState) (entries : List Entry) (at : ℕ) (state : DatabaseState) (old new : KeptEngine V) (checkpoint : Option Checkpoint) (stream : List ℕ) (after : After)
      → ((files : Files) → Stands checkpoint stream files → RecoversUpTo opening entries at files)
      → ((shown : DatabaseState) → AreAlike state shown → closed (state_after_all opening entries) ≡ closed shown)
      → CrashLeaves moment left_at (kept_volume old) (RecoversUpTo opening entries at)
      → (after ≢ Memory → PutsImage seen moment left_at state old new checkpoint stream after) → (after ≡ Memory → new ≡ old)
      → LeavesOnly moment left_at (kept_volume old) (kept_volume new) (RecoversUpTo opening entries at)
  image_moments opening entries at state old new checkpoint stream after was same here puts none = by after puts none
    where
      written : (a : After) → PutsImage seen moment left_at state old new checkpoint stream a → LeavesOnly moment left_at (kept_volume old) (kept_volume new) (RecoversUpTo opening entries at)
      written a p = leaves_weaker moment left_at (kept_volume old) (kept_volume new) (StandsOldOrNew checkpoint stream p.image) (RecoversUpTo opening entries at)
          (λ files stands. ⊎_elim (λ before. was files before) (λ is. laws.recovers opening entries p.image p.shown at files p.shows (same p.shown p.alike) is) stands) p.any_moment

      by : (a : After) → (a ≢ Memory → PutsImage seen moment left_at state old new checkpoint stream a) → (a ≡ Memory → new ≡ old) → LeavesOnly moment left_at (kept_volume old) (kept_volume new) (RecoversUpTo opening entries at)
      by Goes p n = written Goes (p goes_memory)
      by Fault p n = written Fault (p fault_memory)
      by Memory p n = subst (λ (k : KeptEngine V). LeavesOnly moment left_at (kept_volume old) (kept_volume k) (RecoversUpTo opening entries at)) (sym (n refl)) (started moment left_at (kept_volume old) (RecoversUpTo opening entries at) here)

  -- behind an image of the closed state
  pub image_leaves_closed : (opening : DatabaseState) (entries : List Entry) (kept : KeptEngine V) (image : Checkpoint) (shown : DatabaseState) → ShowsState (Some image) shown
      → closed (state_after_all opening entries) ≡ closed shown → IsWritable seen moment left_at (kept_store kept) (Some image) []
      → CrashLeaves moment left_at (kept_volume kept) (λ files. Recovers files (closed (state_after_all opening entries)))
  image_leaves_closed opening entries kept image shown shows same written files left =
      let up = laws.recovers opening entries image shown (length (stream_bytes entries)) files shows same (laws.written (kept_store kept) (Some image) [] written files left) in
      let all : up.k ≡ length entries = omega (arith, up.within, up.reaches (length entries) (omega arith) (omega (arith, ap (λ (l : List Entry). length (stream_bytes l)) (take_all (length entries) entries (omega arith))))) in
      subst (λ (l : List Entry). Recovers files (closed (state_after_all opening l))) (ap (λ (n : ℕ). take n entries) all ∙ take_all (length entries) entries (omega arith)) up.recovers

  -- what stood before the opening's image
  pub opening_stands : (opening : DatabaseState) (checkpoint : Option Checkpoint) (stream : List ℕ) → RecoversFrom checkpoint stream opening → (files : Files) → Stands checkpoint stream files → RecoversUpTo opening [] 0 files
  opening_stands opening checkpoint stream from files stands = laws.opening files opening [] (record { checkpoint = checkpoint; stream = stream; stands = stands; from = from })

  -- the checkpoint that a store has a copy of stands alone, where no byte stands behind it
  pub stands_alone : (store : Store V) (checkpoint : Option Checkpoint) (stream : List ℕ) (number : ℕ) → stream ≡ [] → (store_standing store).number ≡ number + 1 → IsWritable seen moment left_at store checkpoint stream
      → CrashLeaves moment left_at (store_volume store) (StandsAlone (number + 1))
  stands_alone store None stream number none is written files left = absurd (nothing_is_next None number refl (sym written.bears.copy.number ∙ is))
  stands_alone store (Some checkpoint) stream number none is written files left = record {
    checkpoint = checkpoint;
    number_is = sym written.bears.copy.number ∙ is;
    stands = subst (λ (l : List ℕ). Stands (Some checkpoint) l files) none (laws.written store (Some checkpoint) stream written files left);
  }
