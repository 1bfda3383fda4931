-- An engine that begins over what was recovered of a volume.
use Rattle.std.proofs.Common.{◌≡◌, ◌≢◌, ℕ, ◌+◌, ◌<◌, false, List, [], Option, refl, sym, ap, subst, ◌∙◌, arith}
use Rattle.std.proofs.Math.Seq.{drop-nil, take-nil}
use Rattle.std.specs.Prelude.{IfOk, Result, Ok, Err, take, ◌-◌}
use Rattle.index_derive.specs.declared.log.Entry.{Entry}
use Rattle.database_state.specs.State.{DatabaseState}
use Rattle.database_state.specs.Step.{state_after_all}
use Rattle.jet_volume.specs.Crash.{CrashLeaves, IsSettled, LeavesOnly}
use Rattle.jet_volume.specs.Image.{Image as Files}
use Rattle.jet_volume.specs.Moments.{goes_on_by, leaves_weaker, started}
use Rattle.jet_volume.specs.declared.files.LogStart.{LogStart}
use Rattle.entry_log.specs.LogState.{empty_stream}
use Rattle.log_ring.specs.Blocks.{Scans}
use Rattle.laws_engine.specs.EngineState.{EngineState, HasRoomForEnds}
use Rattle.laws_engine.specs.HoldsState.{HoldsState}
use Rattle.laws_images.specs.SoundStates.{IsSoundState}
use Rattle.loggable_steps.specs.Replays.{closed, opened_state}
use Rattle.engine_core.specs.LoggedState.{LoggedState}
use Rattle.store_core.specs.declared.store.Store.{Store}
use Rattle.store_core.specs.Stands.{Checkpoint, Stands, number_of, start_of}
use Rattle.store_core.specs.Store.{store_end, store_volume, IsOpened}
use Rattle.log_keeper.specs.Keeping.{between}
use Rattle.recovered_states.specs.Recovers.{Recovers, RecoversFrom, RecoversUpTo}
use Rattle.soft_recovery.specs.declared.opening.Recovered.{Recovered}
use Rattle.soft_recovery.specs.Opening.{CountsCause, HasOpeningBounds, IsRecovered, IsUntouched}
use Rattle.kept_engine.specs.declared.kept.KeptEngine.{KeptEngine}
use Rattle.kept_engine.specs.declared.opening.OpenFault.{OpenFault}
use Rattle.kept_engine.specs.Keeping.{kept_depth, kept_given, kept_logged, kept_span, kept_store, kept_volume, Begins, IsFresh, Keeps, StandsAlone}
use Rattle.ordered_run.specs.declared.flushed.After.{After}
use Rattle.ordered_run.specs.declared.flushed.After.TheVariants.{Fault}
use Rattle.kept_engine.specs.KeptLaws.{KeptLaws}
use Rattle.kept_engine.specs.Opening.{opened_volume, opening_of, CountsOpeningFault, HoldsWhatStands, IsAtOpening, IsNextSpan, IsOpenedOn}
use Rattle.kept_engine.specs.Spans.{LogSpan, span_of, with_checkpoint}
use Rattle.kept_engine.specs.Told.{CountsFault}
use Rattle.kept_engine.proofs.Surviving.{stands_alone}

-- ---- what it begins with

-- the state that an engine holds with its limits
abbrev pub HoldsSoundly : EngineState → Type 0
HoldsSoundly engine = (state : DatabaseState) × HoldsState engine state × IsSoundState state

pub logged_of : {kept logged : LoggedState} {engine : EngineState} → kept ≡ logged → logged.engine ≡ engine → kept.engine ≡ engine
logged_of logged_is engine_is = ap (λ (l : LoggedState). l.engine) logged_is ∙ engine_is

-- the next checkpoint of a store
pub next_of : {V : Type 0} → (kept : KeptEngine V) (store : Store V) → kept_store kept ≡ store → with_checkpoint (kept_span kept) ≡ with_checkpoint (span_of store)
next_of {V} kept store is = ap (λ (s : Store V). with_checkpoint (span_of s)) is

-- it is fresh
pub fresh_of : {V : Type 0} → (kept : KeptEngine V) (logged : LoggedState) (engine : EngineState) (store : Store V) → kept_logged kept ≡ logged → logged.engine ≡ engine → logged.stream ≡ empty_stream → kept_store kept ≡ store
    → kept_given kept ≡ 0 → HoldsSoundly engine → HasRoomForEnds engine → HasOpeningBounds store → IsFresh kept
fresh_of kept logged engine store logged_is engine_is stream_is store_is given holds room bounds =
    let is : (kept_logged kept).engine ≡ engine = logged_of logged_is engine_is in
    let opened = subst HasOpeningBounds (sym store_is) bounds in
    record {
      holds = subst HoldsSoundly (sym is) holds;
      room = subst HasRoomForEnds (sym is) room;
      stream = ap (λ (l : LoggedState). l.stream) logged_is ∙ stream_is;
      given = given;
      up = opened.up;
      number = opened.number;
      generation = opened.generation;
      position = opened.position;
    }

-- and once its image is written it has no session, and its log begins
pub at_opening : {V : Type 0} → (limit depth : ℕ) (kept : KeptEngine V) (logged : LoggedState) (engine : EngineState) (span : LogSpan) → kept_logged kept ≡ logged → logged.engine ≡ engine → logged.stream ≡ empty_stream
    → engine.limit ≡ limit → engine.sessions ≡ [] → kept_depth kept ≡ depth → kept_given kept ≡ 0 → kept_span kept ≡ with_checkpoint span → IsAtOpening limit depth kept
at_opening limit depth kept logged engine span logged_is engine_is stream_is limit_is sessions depth_is given span_is =
    let is : (kept_logged kept).engine ≡ engine = logged_of logged_is engine_is in
    record {
      limit_is = ap (λ (e : EngineState). e.limit) is ∙ limit_is;
      depth_is = depth_is;
      sessions = ap (λ (e : EngineState). e.sessions) is ∙ sessions;
      stream = ap (λ (l : LoggedState). l.stream) logged_is ∙ stream_is;
      given = given;
      start = ap (λ (s : LogSpan). s.start) span_is ∙ sym (ap (λ (s : LogSpan). s.end) span_is);
    }

-- ---- the opening's image

module _ {V : Type 0} (seen : V → Files) (moment : V → ℕ) (left_at : V → ℕ → Files → Type 0) where
  abbrev AllBegin : KeptEngine V → KeptEngine V → After → Type 0
  AllBegin kept new after = (opening : DatabaseState) → HoldsState (kept_logged kept).engine opening → IsSoundState opening → (checkpoint : Option Checkpoint) (stream : List ℕ) → RecoversFrom checkpoint stream opening
      → IsOpened seen moment left_at (kept_store kept) checkpoint stream → Begins seen moment left_at opening kept new after

  -- what comes of it over what was recovered
  pub begins_over : (recovered : Recovered V) (kept new : KeptEngine V) (after : After) (opening : DatabaseState) → (kept_logged kept).engine ≡ recovered.engine → kept_store kept ≡ recovered.store → AllBegin kept new after
      → HoldsWhatStands seen moment left_at recovered opening → Begins seen moment left_at opening kept new after
  begins_over recovered kept new after opening engine store begins stood =
      begins opening (subst (λ (e : EngineState). HoldsState e opening) (sym engine) stood.holds) stood.sound stood.checkpoint stood.stream stood.from
      (subst (λ (s : Store V). IsOpened seen moment left_at s stood.checkpoint stood.stream) (sym store) stood.opened)

  -- and what a crash leaves of it
  pub begins_leaves : (recovered : Recovered V) (kept new : KeptEngine V) (after : After) (now : V) (opening : DatabaseState) → (kept_logged kept).engine ≡ recovered.engine → kept_store kept ≡ recovered.store → AllBegin kept new after
      → now ≡ kept_volume new → HoldsWhatStands seen moment left_at recovered opening → LeavesOnly moment left_at (store_volume recovered.store) now (RecoversUpTo opening [] 0)
  begins_leaves recovered kept new after now opening engine store begins is stood =
      subst (λ (v : V). LeavesOnly moment left_at (store_volume recovered.store) v (RecoversUpTo opening [] 0)) (sym is)
      (subst (λ (s : Store V). LeavesOnly moment left_at (store_volume s) (kept_volume new) (RecoversUpTo opening [] 0)) store
      (begins_over recovered kept new after opening engine store begins stood).any_moment)

module _ {V : Type 0} (faults identity : V → ℕ) where
  -- the count of faults stays without one, and rises at one
  pub sound_counted : (store : Store V) (kept new : KeptEngine V) (after : After) (now : V) → kept_store kept ≡ store → CountsFault faults identity kept new after → now ≡ kept_volume new → after ≢ Fault
      → faults now ≡ faults (store_volume store)
  sound_counted store kept new after now is counts now_is sound = ap faults now_is ∙ counts.sound sound ∙ ap (λ (s : Store V). faults (store_volume s)) is

  pub fault_counted : (store : Store V) (kept new : KeptEngine V) (after : After) (now : V) → kept_store kept ≡ store → CountsFault faults identity kept new after → now ≡ kept_volume new → after ≡ Fault
      → faults (store_volume store) < faults now
  fault_counted store kept new after now is counts now_is fault = omega (arith, ap faults now_is, counts.fault fault, ap (λ (s : Store V). faults (store_volume s)) is)

  -- and the volume is the same object
  pub same_object : (store : Store V) (kept new : KeptEngine V) (after : After) (now : V) → kept_store kept ≡ store → CountsFault faults identity kept new after → now ≡ kept_volume new → identity now ≡ identity (store_volume store)
  same_object store kept new after now is counts now_is = ap identity now_is ∙ counts.same ∙ ap (λ (s : Store V). identity (store_volume s)) is

-- ---- what stands on the files

no_byte_between : (base at : ℕ) → between base at [] ≡ []
no_byte_between base at = ap (λ (l : List ℕ). take (at - base) l) (drop-nil base) ∙ take-nil (at - base)

module _ {V : Type 0} (seen : V → Files) (moment : V → ℕ) (left_at : V → ℕ → Files → Type 0) where
  -- a volume that was not looked at
  pub untouched : (volume : V) → IsUntouched seen moment left_at volume volume
  untouched volume = record { read = refl; any_moment = started moment left_at volume (left_at volume (moment volume)) (λ files left. left) }

  -- recovers to what it recovered to
  pub recovers_untouched : (volume : V) (state : DatabaseState) → IsSettled moment left_at seen volume → Recovers (seen volume) state → LeavesOnly moment left_at volume volume (λ files. Recovers files state)
  recovers_untouched volume state settled recovers = started moment left_at volume (λ files. Recovers files state) (λ files left. subst (λ (f : Files). Recovers f state) (sym (settled files left)) recovers)

module _ {V : Type 0} (seen : V → Files) (moment : V → ℕ) (left_at : V → ℕ → Files → Type 0) (laws : KeptLaws seen moment left_at) where
  -- of an engine that has made nothing since its opening
  opening_alone : (opening : DatabaseState) (kept : KeptEngine V) (number : ℕ) → Keeps seen moment left_at opening [] kept → (kept_span kept).number ≡ number + 1
      → CrashLeaves moment left_at (kept_volume kept) (StandsAlone (number + 1))
  opening_alone opening kept number keeps is = stands_alone seen moment left_at laws (kept_store kept) keeps.checkpoint (between keeps.base (kept_given kept) []) number (no_byte_between keeps.base (kept_given kept)) is keeps.keeps.writable

  -- ---- what a crash leaves

  -- files that recover to an opening up to none of its entries recover to it
  pub recovers_opening : (opening : DatabaseState) → closed opening ≡ opening → (files : Files) → RecoversUpTo opening [] 0 files → Recovers files opening
  recovers_opening opening is files up = subst (λ (s : DatabaseState). Recovers files s) (ap (λ (l : List Entry). closed (state_after_all opening l)) (take-nil up.k) ∙ is) up.recovers

  abbrev RecoversStill : V → V → DatabaseState → Type 0
  RecoversStill old new state = LeavesOnly moment left_at old new (λ files. Recovers files state)

  -- what is recovered to up to none of the entries, since the volume was opened
  pub recovers_since : (opening : DatabaseState) (old mid new : V) → RecoversStill old mid opening → LeavesOnly moment left_at mid new (RecoversUpTo opening [] 0) → LeavesOnly moment left_at old new (RecoversUpTo opening [] 0)
  recovers_since opening old mid new before moments =
      goes_on_by moment left_at old mid new (RecoversUpTo opening [] 0) (leaves_weaker moment left_at old mid (λ files. Recovers files opening) (RecoversUpTo opening [] 0) (λ files recovers. laws.opening files opening [] recovers) before) moments

-- ---- an engine that was opened on a volume

module _ (tells : Type 0) {V : Type 0} (seen : V → Files) (moment : V → ℕ) (left_at : V → ℕ → Files → Type 0) (laws : KeptLaws seen moment left_at) where
  abbrev Stood : Recovered V → DatabaseState → Type 0
  Stood recovered opening = HoldsWhatStands seen moment left_at recovered opening

  abbrev Has : V → Recovered V → Type 0
  Has volume recovered = IsRecovered tells seen moment left_at false volume recovered

  -- the engine that was recovered tells what its store recovers to
  pub stood : (volume : V) (recovered : Recovered V) (opening : DatabaseState) → Has volume recovered → opening ≡ opened_state recovered.engine → tells → IsSettled moment left_at seen volume → Stood recovered opening
  stood volume recovered opening has is told settled =
      let state = sym (is ∙ has.holds.tells) in
      record {
        holds = subst (λ (s : DatabaseState). HoldsState recovered.engine s) state has.holds.holds;
        sound = subst IsSoundState state has.holds.sound;
        checkpoint = has.checkpoint;
        stream = has.stream;
        from = subst (λ (s : DatabaseState). RecoversFrom has.checkpoint has.stream s) state has.holds.from;
        opened = has.opened told settled;
      }

  -- and what the volume recovers to
  pub recovered_of : (volume : V) (recovered : Recovered V) (opening : DatabaseState) → Has volume recovered → opening ≡ opened_state recovered.engine → tells → Recovers (seen volume) opening
  recovered_of volume recovered opening has is told = record {
    checkpoint = has.checkpoint;
    stream = has.stream;
    stands = has.stands told;
    from = subst (λ (s : DatabaseState). RecoversFrom has.checkpoint has.stream s) (sym (is ∙ has.holds.tells)) has.holds.from;
  }

  -- the checkpoint behind the one that stood
  next_span : (volume : V) (recovered : Recovered V) (span : LogSpan) (checkpoint : Option Checkpoint) (stream : List ℕ) → Has volume recovered → seen (store_volume recovered.store) ≡ seen volume
      → span ≡ with_checkpoint (span_of recovered.store) → tells → IsSettled moment left_at seen volume → Stands checkpoint stream (seen volume) → IsNextSpan checkpoint stream (seen volume) span
  next_span volume recovered span checkpoint stream has read is told settled stands =
      let only = has.only told checkpoint stream stands in
      let opened = has.opened told settled in
      let log : opened.log ≡ (seen volume).log = sym opened.is.read ∙ ap (λ (f : Files). f.log) read in
      let end : store_end recovered.store ≡ span.end = sym (ap (λ (s : LogSpan). s.end) is) in
      record {
        number = ap (λ (s : LogSpan). s.number) is ∙ ap (λ n. n + 1) (has.copy.number ∙ sym (ap number_of only.0));
        start = ap (λ (s : LogSpan). s.start) is ∙ end;
        end = subst (λ (e : LogStart). Scans (seen volume).log (start_of checkpoint) stream e) end
            (subst (λ (l : List ℕ). Scans l (start_of checkpoint) stream (store_end recovered.store)) log
            (subst (λ (s : List ℕ). Scans opened.log (start_of checkpoint) s (store_end recovered.store)) (sym only.1)
            (subst (λ (c : Option Checkpoint). Scans opened.log (start_of c) has.stream (store_end recovered.store)) (sym only.0) opened.scans)));
      }

  opened_on : (volume : V) (recovered : Recovered V) (kept : KeptEngine V) → Has volume recovered → IsUntouched seen moment left_at volume (store_volume recovered.store)
      → (tells → IsSettled moment left_at seen volume → (state : DatabaseState) → Recovers (seen volume) state → LeavesOnly moment left_at volume (store_volume recovered.store) (λ files. Recovers files state))
      → (kept_logged kept).engine ≡ recovered.engine → kept_span kept ≡ with_checkpoint (span_of recovered.store)
      → (tells → (opening : DatabaseState) → Stood recovered opening → Keeps seen moment left_at opening [] kept)
      → (tells → (opening : DatabaseState) → Stood recovered opening → LeavesOnly moment left_at (store_volume recovered.store) (kept_volume kept) (RecoversUpTo opening [] 0))
      → IsOpenedOn tells seen moment left_at volume kept
  opened_on volume recovered kept has looks before engine span keeps moments =
      let opening = opening_of kept in
      let is : opening ≡ opened_state recovered.engine = ap opened_state engine in
      let state : has.holds.state ≡ opening = sym (is ∙ has.holds.tells) in
      record {
        holds = subst (λ (e : EngineState). HoldsState e opening) (sym engine) (subst (λ (s : DatabaseState). HoldsState recovered.engine s) state has.holds.holds);
        sound = subst IsSoundState state has.holds.sound;
        recovers = recovered_of volume recovered opening has is;
        any_moment = λ told settled.
            recovers_since seen moment left_at laws opening volume (store_volume recovered.store) (kept_volume kept) (before told settled opening (recovered_of volume recovered opening has is told))
            (moments told opening (stood volume recovered opening has is told settled));
        keeps = λ told settled. keeps told opening (stood volume recovered opening has is told settled);
        next = λ told settled checkpoint stream stands. next_span volume recovered (kept_span kept) checkpoint stream has looks.read span told settled stands;
        alone = λ told settled checkpoint stream stands.
            opening_alone seen moment left_at laws opening kept (number_of checkpoint) (keeps told opening (stood volume recovered opening has is told settled))
            (next_span volume recovered (kept_span kept) checkpoint stream has looks.read span told settled stands).number;
      }

  pub all_opened : (volume : V) (recovered : Recovered V) (result : Result (KeptEngine V) (OpenFault V)) → Has volume recovered → IsUntouched seen moment left_at volume (store_volume recovered.store)
      → (tells → IsSettled moment left_at seen volume → (state : DatabaseState) → Recovers (seen volume) state → LeavesOnly moment left_at volume (store_volume recovered.store) (λ files. Recovers files state))
      → IfOk result (λ kept. (kept_logged kept).engine ≡ recovered.engine) → IfOk result (λ kept. kept_span kept ≡ with_checkpoint (span_of recovered.store))
      → IfOk result (λ kept. tells → (opening : DatabaseState) → Stood recovered opening → Keeps seen moment left_at opening [] kept)
      → (tells → (opening : DatabaseState) → Stood recovered opening → LeavesOnly moment left_at (store_volume recovered.store) (opened_volume result) (RecoversUpTo opening [] 0))
      → IfOk result (IsOpenedOn tells seen moment left_at volume)
  all_opened volume recovered (Ok kept) has looks before engine span keeps moments = opened_on volume recovered kept has looks before engine span keeps moments
  all_opened volume recovered (Err fault) has looks before engine span keeps moments = tt

  -- whatever the volume recovers to, a crash leaves what recovers to it
  pub recovers_on : (volume : V) (recovered : Recovered V) (new : V) (state : DatabaseState) → Has volume recovered → ((files : Files) (one other : DatabaseState) → Recovers files one → Recovers files other → one ≡ other)
      → tells → IsSettled moment left_at seen volume → Recovers (seen volume) state → LeavesOnly moment left_at volume (store_volume recovered.store) (λ files. Recovers files state)
      → (tells → (opening : DatabaseState) → Stood recovered opening → LeavesOnly moment left_at (store_volume recovered.store) new (RecoversUpTo opening [] 0))
      → LeavesOnly moment left_at volume new (λ files. Recovers files state)
  recovers_on volume recovered new state has one told settled recovers before moments =
      let opening = opened_state recovered.engine in
      let mid = store_volume recovered.store in
      let is : opening ≡ state = one (seen volume) opening state (recovered_of volume recovered opening has refl told) recovers in
      goes_on_by moment left_at volume mid new (λ files. Recovers files state) before
      (subst (λ (s : DatabaseState). LeavesOnly moment left_at mid new (λ files. Recovers files s)) is
      (leaves_weaker moment left_at mid new (RecoversUpTo opening [] 0) (λ files. Recovers files opening) (recovers_opening seen moment left_at laws opening refl)
      (moments told opening (stood volume recovered opening has refl told settled))))

-- ---- counts

module _ {V : Type 0} (faults : V → ℕ) where
  -- of a call behind one that met no fault
  pub opening_counted : (old mid : V) (result : Result (KeptEngine V) (OpenFault V)) → faults mid ≡ faults old → CountsOpeningFault faults mid result → CountsOpeningFault faults old result
  opening_counted old mid (Ok kept) same counts = counts ∙ same
  opening_counted old mid (Err fault) same counts = subst (λ n. CountsCause fault.cause n (faults fault.volume)) same counts
