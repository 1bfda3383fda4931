-- A step is made by an engine that is kept.
use Rattle.std.proofs.Common.{◌≡◌, ◌≤◌, ◌+◌, ℕ, Bool, true, false, List, [], ◌++◌, length, Option, Some, sym, ◌∙◌, ap, subst, arith, length-append}
use Rattle.index_derive.specs.declared.log.Entry.{Entry}
use Rattle.index_derive.specs.declared.log.Step.{Step}
use Rattle.index_derive.specs.Steps.{entries_of_step}
use Rattle.database_state.specs.State.{DatabaseState}
use Rattle.database_state.specs.Step.{state_after_all}
use Rattle.jet_volume.specs.Image.{Image as Files}
use Rattle.entry_log.specs.LogState.{KeptStream, appended, empty_stream, stream_end}
use Rattle.laws_engine.specs.EntryTypes.{AreOfTheirTypes}
use Rattle.laws_engine.specs.LawfulSteps.{AreLawful}
use Rattle.laws_engine.specs.EngineState.{EngineState, HasRoomForEnds, cleaned, engine_of}
use Rattle.laws_engine.specs.EngineSteps.{cleaned_for, engine_after_step}
use Rattle.laws_engine.specs.HoldsState.{HoldsState}
use Rattle.engine_core.specs.Steps.{MayTake}
use Rattle.session_local.specs.BuiltTables.{AllMakeBuilt}
use Rattle.log_grammar.specs.EntryStreams.{stream_bytes}
use Rattle.loggable_steps.specs.Loggable.{is_loggable, made_by}
use Rattle.loggable_steps.specs.Replays.{HasLogged, closed}
use Rattle.engine_core.specs.LoggedState.{MayBeCleaned}
use Rattle.store_core.specs.Stands.{Checkpoint}
use Rattle.store_core.specs.Store.{store_down, IsWritable}
use Rattle.log_keeper.specs.declared.keeper.LogKeeper.{LogKeeper}
use Rattle.log_keeper.specs.Keeping.{between, keeper_given, keeper_store}
use Rattle.recovered_states.specs.Recovers.{Covers}
use Rattle.kept_engine.specs.declared.kept.KeptEngine.{KeptEngine}
use Rattle.kept_engine.specs.Spans.{span_of}
use Rattle.kept_engine.specs.Keeping.{IsReady, IsWithinBounds, Keeps, kept_end, kept_given, kept_keeper, kept_logged, kept_store}
use Rattle.kept_engine.proofs.Parts.{between_behind, stream_append}
use Rattle.kept_engine.proofs.Sound.{KeepsSound, sound_after}

-- ---- the laws of logs and of ends

abbrev pub BeginsLog : Type 0
BeginsLog = (opening : DatabaseState) (engine : EngineState) → HoldsState engine opening → HasLogged opening [] engine empty_stream

abbrev pub GoesOnLogged : Type 0
GoesOnLogged = (opening : DatabaseState) (entries : List Entry) (engine : EngineState) (stream : KeptStream) → HasLogged opening entries engine stream
    → (state : DatabaseState) (step : Step) → HoldsState engine state → AreLawful state (entries_of_step (Some step)) → AllMakeBuilt (entries_of_step (Some step)) → AreOfTheirTypes (entries_of_step (Some step)) → is_loggable (made_by step) ≡ true
    → HasLogged opening (entries ++ entries_of_step (Some step)) (engine_after_step engine step) (appended (stream_bytes (entries_of_step (Some step))) stream)

abbrev pub CoversMore : Type 0
CoversMore = (opening : DatabaseState) (entries more : List Entry) (checkpoint : Option Checkpoint) (base : ℕ) → Covers opening entries checkpoint base → Covers opening (entries ++ more) checkpoint base

abbrev pub HasRoomAfter : Type 0
HasRoomAfter = (engine : EngineState) (state : DatabaseState) (step : Step) → HoldsState engine state → AreLawful state (entries_of_step (Some step)) → AllMakeBuilt (entries_of_step (Some step)) → AreOfTheirTypes (entries_of_step (Some step))
    → HasRoomForEnds engine → HasRoomForEnds (engine_after_step engine step)

-- once all sessions are given up nothing is to end
pub room_closed : (limit newest : ℕ) (engine : EngineState) (state : DatabaseState) → state.number ≡ engine.number → HasRoomForEnds engine → HasRoomForEnds (engine_of limit newest (closed state))
room_closed limit newest engine state number room = record { begun = omega arith; room = omega (arith, number, room.room) }

-- ---- a step

module _ {V : Type 0} (seen : V → Files) (moment : V → ℕ) (left_at : V → ℕ → Files → Type 0) where
  -- its entries stand behind those that were made
  pub made_keeps : CoversMore → (opening : DatabaseState) (entries more : List Entry) (old new : KeptEngine V) → Keeps seen moment left_at opening entries old → kept_keeper new ≡ kept_keeper old
      → HasLogged opening (entries ++ more) (kept_logged new).engine (kept_logged new).stream → Keeps seen moment left_at opening (entries ++ more) new
  made_keeps covers opening entries more old new keeps same logged =
      let whole = stream_bytes entries in
      let all_is : stream_bytes (entries ++ more) ≡ whole ++ stream_bytes more = stream_append entries more in
      record {
        held = keeps.held;
        sound = keeps.sound;
        logged = logged;
        checkpoint = keeps.checkpoint;
        base = keeps.base;
        covers = covers opening entries more keeps.checkpoint keeps.base keeps.covers;
        keeps = record {
          from = subst (λ (k : LogKeeper V). keeps.base ≤ keeper_given k) (sym same) keeps.keeps.from;
          within = omega (arith, ap (λ (k : LogKeeper V). keeper_given k) same, keeps.keeps.within, ap length all_is, length-append whole (stream_bytes more));
          writable = subst (λ (k : LogKeeper V). IsWritable seen moment left_at (keeper_store k) keeps.checkpoint (between keeps.base (keeper_given k) (stream_bytes (entries ++ more)))) (sym same)
              (subst (λ (bytes : List ℕ). IsWritable seen moment left_at (kept_store old) keeps.checkpoint bytes)
              (sym (ap (λ (l : List ℕ). between keeps.base (kept_given old) l) all_is ∙ between_behind keeps.base (kept_given old) whole (stream_bytes more) keeps.keeps.from keeps.keeps.within))
              keeps.keeps.writable);
        };
      }

-- it goes on behind a step
pub ready_made : {V : Type 0} → KeepsSound → BeginsLog → GoesOnLogged → HasRoomAfter → (old new : KeptEngine V) (step : Step) → IsReady old → MayTake (kept_logged old).engine step → is_loggable (made_by step) ≡ true
    → kept_keeper new ≡ kept_keeper old → (kept_logged new).engine ≡ engine_after_step (kept_logged old).engine step
    → (kept_logged new).stream ≡ appended (stream_bytes (entries_of_step (Some step))) (kept_logged old).stream → IsReady new
ready_made {V} sound begins goes_on room old new step ready may loggable same engine stream =
    let was = (kept_logged old).engine in
    let made = entries_of_step (Some step) in
    let state = ready.holds.0 in
    let logged : HasLogged state made (engine_after_step was step) (appended (stream_bytes made) empty_stream) =
    goes_on state [] was empty_stream (begins state was ready.holds.1) may.state step may.holds may.lawful may.built may.typed loggable in
    let given : kept_given new ≡ kept_given old = ap (λ (k : LogKeeper V). keeper_given k) same in
    let end : kept_end new ≡ kept_end old + length (stream_bytes made) = ap stream_end stream ∙ behind (kept_logged old).stream (stream_bytes made) in
    let from : (kept_logged new).stream.from ≡ (kept_logged old).stream.from = ap (λ (s : KeptStream). s.from) stream in
    record {
      holds = (state_after_all state made, subst (λ (e : EngineState). HoldsState e (state_after_all state made)) (sym engine) logged.holds, sound_after sound state made logged.lawful logged.spelled ready.holds.2);
      room = subst HasRoomForEnds (sym engine) (room was may.state step may.holds may.lawful may.built may.typed ready.room);
      from = omega (arith, from, given, ready.from);
      within = omega (arith, given, end, ready.within);
      up = ap (λ (k : LogKeeper V). store_down (keeper_store k)) same ∙ ready.up;
      bounds = subst (λ (k : LogKeeper V). IsWithinBounds (keeper_given k) (span_of (keeper_store k))) (sym same) ready.bounds;
    }
  where
    behind : (s : KeptStream) (bytes : List ℕ) → stream_end (appended bytes s) ≡ stream_end s + length bytes
    behind s bytes = omega (arith, length-append s.bytes bytes)

-- ---- a clean

abbrev pub CleansLeave : Type 0
CleansLeave = (engine : EngineState) (state : DatabaseState) → HoldsState engine state → HoldsState (cleaned engine) state

pub cleaned_holds : CleansLeave → (cleans : Bool) (engine : EngineState) (state : DatabaseState) → HoldsState engine state → HoldsState (cleaned_for cleans engine) state
cleaned_holds leaves true engine state holds = leaves engine state holds
cleaned_holds leaves false engine state holds = holds

cleaned_room : (cleans : Bool) (engine : EngineState) → HasRoomForEnds engine → HasRoomForEnds (cleaned_for cleans engine)
cleaned_room true engine room = record { begun = room.begun; room = room.room }
cleaned_room false engine room = room

-- what may have been cleaned holds what it held
pub may_be_cleaned : CleansLeave → (old new : EngineState) → MayBeCleaned old new → (state : DatabaseState) → HoldsState old state → HoldsState new state
may_be_cleaned leaves old new cleaned_is state holds = subst (λ (e : EngineState). HoldsState e state) (sym cleaned_is.1) (cleaned_holds leaves cleaned_is.0 old state holds)

-- it goes on where a step found no memory
pub ready_cleaned : {V : Type 0} → CleansLeave → (old new : KeptEngine V) → IsReady old → kept_keeper new ≡ kept_keeper old → MayBeCleaned (kept_logged old).engine (kept_logged new).engine
    → (kept_logged new).stream ≡ (kept_logged old).stream → IsReady new
ready_cleaned {V} leaves old new ready same cleaned_is stream =
    let given : kept_given new ≡ kept_given old = ap (λ (k : LogKeeper V). keeper_given k) same in
    let end : kept_end new ≡ kept_end old = ap stream_end stream in
    let from : (kept_logged new).stream.from ≡ (kept_logged old).stream.from = ap (λ (s : KeptStream). s.from) stream in
    record {
      holds = (ready.holds.0, may_be_cleaned leaves (kept_logged old).engine (kept_logged new).engine cleaned_is ready.holds.0 ready.holds.1, ready.holds.2);
      room = subst HasRoomForEnds (sym cleaned_is.1) (cleaned_room cleaned_is.0 (kept_logged old).engine ready.room);
      from = omega (arith, from, given, ready.from);
      within = omega (arith, given, end, ready.within);
      up = ap (λ (k : LogKeeper V). store_down (keeper_store k)) same ∙ ready.up;
      bounds = subst (λ (k : LogKeeper V). IsWithinBounds (keeper_given k) (span_of (keeper_store k))) (sym same) ready.bounds;
    }
