-- What is told of a flush and of an image, and when an engine that is kept can go on.
use Rattle.std.proofs.Common.{◌≡◌, ◌≢◌, ◌<◌, ◌+◌, ◌-◌, ◌^◌, ℕ, Bool, true, false, None, refl, sym, ◌∙◌, ap, subst, arith}
use Rattle.entry_log.specs.LogState.{KeptStream, stream_end, trimmed_to}
use Rattle.laws_engine.specs.EngineState.{EngineState, HasRoomForEnds}
use Rattle.laws_engine.specs.HoldsState.{HoldsState}
use Rattle.engine_core.specs.LoggedState.{LoggedState}
use Rattle.store_core.specs.Store.{store_down}
use Rattle.log_keeper.specs.declared.keeper.LogKeeper.{LogKeeper}
use Rattle.log_keeper.specs.Keeping.{keeper_given, keeper_store, keeper_volume}
use Rattle.kept_engine.specs.declared.kept.KeptEngine.{KeptEngine}
use Rattle.ordered_run.specs.declared.flushed.After.{After}
use Rattle.ordered_run.specs.declared.flushed.After.TheVariants.{Goes, Fault, Memory}
use Rattle.ordered_run.specs.declared.flushed.Flush.TheVariants.{Kept, Failed, NoRoom}
use Rattle.ordered_run.specs.declared.flushed.Flushed.{Flushed}
use Rattle.kept_engine.specs.Spans.{LogSpan, is_due, span_of, with_checkpoint, with_due}
use Rattle.kept_engine.specs.Keeping.{IsReady, IsWithinBounds, kept_depth, kept_end, kept_given, kept_keeper, kept_logged, kept_span, kept_store, kept_volume}
use Rattle.kept_engine.specs.Told.{CountsFault, FlushesTo, TellsImage}
use Rattle.kept_engine.proofs.Clashes.{failed_kept, failed_room, fault_goes, fault_memory, goes_fault, goes_memory, kept_failed, kept_room, memory_fault, memory_goes, room_failed, room_kept}
use Rattle.kept_engine.proofs.Parts.{end_trimmed}
use Rattle.kept_engine.proofs.Spans.{bounds_checkpoint, with_due_none, with_due_one}

-- ---- when it can go on

-- its log is trimmed up to what was given
pub ready_trimmed : {V : Type 0} (old new : KeptEngine V) (to : ℕ) → IsReady old → to ≡ kept_given old → kept_keeper new ≡ kept_keeper old → (kept_logged new).engine ≡ (kept_logged old).engine
    → (kept_logged new).stream ≡ trimmed_to to (kept_logged old).stream → IsReady new
ready_trimmed {V} old new to ready is same engine stream =
    let given : kept_given new ≡ kept_given old = ap (λ (k : LogKeeper V). keeper_given k) same in
    let end : kept_end new ≡ kept_end old = ap stream_end stream ∙ end_trimmed to (kept_logged old).stream (omega (arith, is, ready.within)) in
    let from : (kept_logged new).stream.from ≡ (trimmed_to to (kept_logged old).stream).from = ap (λ (s : KeptStream). s.from) stream in
    record {
      holds = (ready.holds.0, subst (λ (e : EngineState). HoldsState e ready.holds.0) (sym engine) ready.holds.1, ready.holds.2);
      room = subst HasRoomForEnds (sym engine) ready.room;
      from = omega (arith, from, given, is, ready.from);
      within = omega (arith, given, end, ready.within);
      up = ap (λ (k : LogKeeper V). store_down (keeper_store k)) same ∙ ready.up;
      bounds = subst (λ (k : LogKeeper V). IsWithinBounds (keeper_given k) (span_of (keeper_store k))) (sym same) ready.bounds;
    }

-- an image was written in the place of its log
pub ready_imaged : {V : Type 0} (faults identity : V → ℕ) (old new : KeptEngine V) (after : After) → IsReady old → (kept_span old).number < 2 ^ 62 + kept_end old → kept_logged new ≡ kept_logged old
    → TellsImage faults identity (kept_end old) old new after → after ≡ Goes → IsReady new
ready_imaged {V} faults identity old new after ready number same told goes =
    let given : kept_given new ≡ kept_end old = told.given goes in
    let end : kept_end new ≡ kept_end old = ap (λ (l : LoggedState). stream_end l.stream) same in
    let from : (kept_logged new).stream.from ≡ (kept_logged old).stream.from = ap (λ (l : LoggedState). l.stream.from) same in
    record {
      holds = (ready.holds.0, subst (λ (l : LoggedState). HoldsState l.engine ready.holds.0) (sym same) ready.holds.1, ready.holds.2);
      room = subst (λ (l : LoggedState). HasRoomForEnds l.engine) (sym same) ready.room;
      from = omega (arith, from, given, ready.from, ready.within);
      within = omega (arith, given, end);
      up = told.up goes;
      bounds = subst (λ (n : ℕ). IsWithinBounds n (kept_span new)) (sym given)
          (bounds_checkpoint (kept_end old) (kept_span old) (kept_span new) number (omega (arith, ready.bounds.generation, ready.within)) (omega (arith, ready.bounds.position, ready.within)) (told.span goes));
    }

-- ---- counts

module _ {V : Type 0} (faults identity : V → ℕ) where
  -- of what went before without a fault
  pub counts_after : (old mid new : KeptEngine V) (after : After) → faults (kept_volume mid) ≡ faults (kept_volume old) → identity (kept_volume mid) ≡ identity (kept_volume old)
      → CountsFault faults identity mid new after → CountsFault faults identity old new after
  counts_after old mid new after before object counts = record {
    fault = λ fault. omega (arith, before, counts.fault fault);
    sound = λ sound. counts.sound sound ∙ before;
    same = counts.same ∙ object;
  }

  -- of a call that met none
  pub counts_none : (old new : KeptEngine V) (after : After) → after ≢ Fault → faults (kept_volume new) ≡ faults (kept_volume old) → identity (kept_volume new) ≡ identity (kept_volume old) → CountsFault faults identity old new after
  counts_none old new after sound same object = record { fault = λ fault. absurd (sound fault); sound = λ _. same; same = object }

  -- ---- images

  -- it was written
  pub tells_image : (to : ℕ) (old new : KeptEngine V) (after : After) → after ≡ Goes → kept_depth new ≡ kept_depth old → faults (kept_volume new) ≡ faults (kept_volume old) → identity (kept_volume new) ≡ identity (kept_volume old)
      → kept_given new ≡ to → kept_span new ≡ with_checkpoint (kept_span old) → store_down (kept_store new) ≡ None → TellsImage faults identity to old new after
  tells_image to old new after goes depth same object given span up = record {
    counts = counts_none old new after (λ fault. goes_fault (sym goes ∙ fault)) same object;
    depth = depth;
    given = λ _. given;
    kept = λ stops. absurd (stops goes);
    span = λ _. span;
    up = λ _. up;
  }

  -- the volume met a fault
  pub tells_fault : (to : ℕ) (old new : KeptEngine V) (after : After) → after ≡ Fault → kept_depth new ≡ kept_depth old → faults (kept_volume old) < faults (kept_volume new) → identity (kept_volume new) ≡ identity (kept_volume old)
      → kept_given new ≡ kept_given old → TellsImage faults identity to old new after
  tells_fault to old new after fault depth rises object given = record {
    counts = record { fault = λ _. rises; sound = λ sound. absurd (sound fault); same = object };
    depth = depth;
    given = λ goes. absurd (fault_goes (sym fault ∙ goes));
    kept = λ _. given;
    span = λ goes. absurd (fault_goes (sym fault ∙ goes));
    up = λ goes. absurd (fault_goes (sym fault ∙ goes));
  }

  -- there was no memory for it
  pub tells_memory : (to : ℕ) (old new : KeptEngine V) (after : After) → after ≡ Memory → new ≡ old → TellsImage faults identity to old new after
  tells_memory to old new after memory same = record {
    counts = counts_none old new after (λ fault. memory_fault (sym memory ∙ fault)) (ap (λ (k : KeptEngine V). faults (kept_volume k)) same) (ap (λ (k : KeptEngine V). identity (kept_volume k)) same);
    depth = ap (λ (k : KeptEngine V). kept_depth k) same;
    given = λ goes. absurd (memory_goes (sym memory ∙ goes));
    kept = λ _. ap (λ (k : KeptEngine V). kept_given k) same;
    span = λ goes. absurd (memory_goes (sym memory ∙ goes));
    up = λ goes. absurd (memory_goes (sym memory ∙ goes));
  }

  -- what is told of it is told also with what went before
  pub image_after : (to : ℕ) (old mid new : KeptEngine V) (after : After) → kept_depth mid ≡ kept_depth old → faults (kept_volume mid) ≡ faults (kept_volume old) → identity (kept_volume mid) ≡ identity (kept_volume old)
      → kept_given mid ≡ kept_given old → kept_span mid ≡ kept_span old → TellsImage faults identity to mid new after → TellsImage faults identity to old new after
  image_after to old mid new after depth same object given span image = record {
    counts = counts_after old mid new after same object image.counts;
    depth = image.depth ∙ depth;
    given = image.given;
    kept = λ stops. image.kept stops ∙ given;
    span = λ goes. image.span goes ∙ ap (λ (s : LogSpan). with_checkpoint s) span;
    up = image.up;
  }

  -- ---- flushes

  -- what is told of a flush is told of it also with what was given before
  pub flushes_after : (due_then due : Bool) (span_then span : LogSpan) (old mid new : KeptEngine V) (told : Flushed) → kept_logged mid ≡ kept_logged old → kept_depth mid ≡ kept_depth old
      → faults (kept_volume mid) ≡ faults (kept_volume old) → identity (kept_volume mid) ≡ identity (kept_volume old) → due_then ≡ due → span_then ≡ span
      → FlushesTo faults identity due_then span_then mid new told → FlushesTo faults identity due span old new told
  flushes_after due_then due span_then span old mid new told logged depth before object due_is span_is flushes =
      let end : kept_end mid ≡ kept_end old = ap (λ (l : LoggedState). stream_end l.stream) logged in
      record {
        counts = counts_after old mid new told.after before object flushes.counts;
        depth = flushes.depth ∙ depth;
        engine = flushes.engine ∙ ap (λ (l : LoggedState). l.engine) logged;
        given = λ kept. flushes.given kept ∙ end;
        some = λ not_kept. omega (arith, flushes.some not_kept, end);
        trimmed = λ kept. flushes.trimmed kept ∙ ap (λ (l : LoggedState). trimmed_to (stream_end l.stream) l.stream) logged;
        stays = λ not_kept. flushes.stays not_kept ∙ ap (λ (l : LoggedState). l.stream) logged;
        goes = flushes.goes;
        failed = flushes.failed;
        no_room = flushes.no_room;
        memory = λ memory. sym due_is ∙ flushes.memory memory;
        span_is = λ goes. flushes.span_is goes ∙ span_is;
      }

  by_after : {P : Type 0} (after : After) → (after ≡ Goes → P) → (after ≢ Goes → P) → P
  by_after Goes goes stops = goes refl
  by_after Fault goes stops = stops fault_goes
  by_after Memory goes stops = stops memory_goes

  -- all bytes were given, the log is trimmed, and an image follows
  pub flushes_followed : (old trimmed new : KeptEngine V) (told : Flushed) → told.flush ≡ Kept → kept_given old ≡ kept_end old → kept_keeper trimmed ≡ kept_keeper old → kept_depth trimmed ≡ kept_depth old
      → (kept_logged trimmed).engine ≡ (kept_logged old).engine → (kept_logged trimmed).stream ≡ trimmed_to (kept_given old) (kept_logged old).stream → is_due (kept_depth old) (kept_span old) 0 ≡ true
      → kept_logged new ≡ kept_logged trimmed → TellsImage faults identity (kept_end trimmed) trimmed new told.after
      → FlushesTo faults identity (is_due (kept_depth old) (kept_span old) 0) (with_due (kept_depth old) (kept_span old) 0) old new told
  flushes_followed old trimmed new told kept all same depth engine stream due logged image =
      let end : kept_end trimmed ≡ kept_end old = ap stream_end stream ∙ end_trimmed (kept_given old) (kept_logged old).stream (omega (arith, all)) in
      record {
        counts = counts_after old trimmed new told.after (ap (λ (k : LogKeeper V). faults (keeper_volume k)) same) (ap (λ (k : LogKeeper V). identity (keeper_volume k)) same) image.counts;
        depth = image.depth ∙ depth;
        engine = ap (λ (l : LoggedState). l.engine) logged ∙ engine;
        given = λ _. by_after told.after (λ goes. image.given goes ∙ end) (λ stops. image.kept stops ∙ ap (λ (k : LogKeeper V). keeper_given k) same ∙ all);
        some = λ not_kept. absurd (not_kept kept);
        trimmed = λ _. ap (λ (l : LoggedState). l.stream) logged ∙ stream ∙ ap (λ (n : ℕ). trimmed_to n (kept_logged old).stream) all;
        stays = λ not_kept. absurd (not_kept kept);
        goes = λ _. kept;
        failed = λ failed. absurd (kept_failed (sym kept ∙ failed));
        no_room = λ room. absurd (kept_room (sym kept ∙ room));
        memory = λ _. due;
        span_is = λ goes. image.span goes ∙ ap (λ (k : LogKeeper V). with_checkpoint (span_of (keeper_store k))) same ∙ with_due_one (kept_depth old) (kept_span old) 0 due;
      }

  -- and none follows
  pub flushes_alone : (old trimmed : KeptEngine V) (told : Flushed) → told.flush ≡ Kept → told.after ≡ Goes → kept_given old ≡ kept_end old → kept_keeper trimmed ≡ kept_keeper old → kept_depth trimmed ≡ kept_depth old
      → (kept_logged trimmed).engine ≡ (kept_logged old).engine → (kept_logged trimmed).stream ≡ trimmed_to (kept_given old) (kept_logged old).stream → is_due (kept_depth old) (kept_span old) 0 ≡ false
      → FlushesTo faults identity (is_due (kept_depth old) (kept_span old) 0) (with_due (kept_depth old) (kept_span old) 0) old trimmed told
  flushes_alone old trimmed told kept goes all same depth engine stream due = record {
    counts = counts_none old trimmed told.after (λ fault. goes_fault (sym goes ∙ fault)) (ap (λ (k : LogKeeper V). faults (keeper_volume k)) same) (ap (λ (k : LogKeeper V). identity (keeper_volume k)) same);
    depth = depth;
    engine = engine;
    given = λ _. ap (λ (k : LogKeeper V). keeper_given k) same ∙ all;
    some = λ not_kept. absurd (not_kept kept);
    trimmed = λ _. stream ∙ ap (λ (n : ℕ). trimmed_to n (kept_logged old).stream) all;
    stays = λ not_kept. absurd (not_kept kept);
    goes = λ _. kept;
    failed = λ failed. absurd (kept_failed (sym kept ∙ failed));
    no_room = λ room. absurd (kept_room (sym kept ∙ room));
    memory = λ memory. absurd (goes_memory (sym goes ∙ memory));
    span_is = λ _. ap (λ (k : LogKeeper V). span_of (keeper_store k)) same ∙ with_due_none (kept_depth old) (kept_span old) 0 due;
  }

  -- an image takes the place of bytes that found no room, and the log is trimmed
  pub flushes_replaced : (old mid new : KeptEngine V) (after : After) (told : Flushed) → after ≡ Goes → told.flush ≡ Kept → told.after ≡ Goes → kept_logged mid ≡ kept_logged old
      → TellsImage faults identity (kept_end old) old mid after → kept_keeper new ≡ kept_keeper mid → kept_depth new ≡ kept_depth mid → (kept_logged new).engine ≡ (kept_logged mid).engine
      → (kept_logged new).stream ≡ trimmed_to (kept_given mid) (kept_logged mid).stream → FlushesTo faults identity true (with_checkpoint (kept_span old)) old new told
  flushes_replaced old mid new after told goes kept told_goes logged image same depth engine stream = record {
    counts = counts_none old new told.after (λ fault. goes_fault (sym told_goes ∙ fault)) (ap (λ (k : LogKeeper V). faults (keeper_volume k)) same ∙ image.counts.sound (λ fault. goes_fault (sym goes ∙ fault)))
        (ap (λ (k : LogKeeper V). identity (keeper_volume k)) same ∙ image.counts.same);
    depth = depth ∙ image.depth;
    engine = engine ∙ ap (λ (l : LoggedState). l.engine) logged;
    given = λ _. ap (λ (k : LogKeeper V). keeper_given k) same ∙ image.given goes;
    some = λ not_kept. absurd (not_kept kept);
    trimmed = λ _. stream ∙ ap (λ (n : ℕ). trimmed_to n (kept_logged mid).stream) (image.given goes) ∙ ap (λ (l : LoggedState). trimmed_to (kept_end old) l.stream) logged;
    stays = λ not_kept. absurd (not_kept kept);
    goes = λ _. kept;
    failed = λ failed. absurd (kept_failed (sym kept ∙ failed));
    no_room = λ room. absurd (kept_room (sym kept ∙ room));
    memory = λ _. refl;
    span_is = λ _. ap (λ (k : LogKeeper V). span_of (keeper_store k)) same ∙ image.span goes;
  }

  -- the volume met a fault before all bytes were kept
  pub flushes_failed : (due : Bool) (span : LogSpan) (old new : KeptEngine V) (told : Flushed) → told.flush ≡ Failed → told.after ≡ Fault → kept_logged new ≡ kept_logged old → kept_depth new ≡ kept_depth old
      → kept_given new < kept_end old → CountsFault faults identity old new Fault → FlushesTo faults identity due span old new told
  flushes_failed due span old new told failed fault logged depth some counts = record {
    counts = record { fault = λ _. counts.fault refl; sound = λ sound. absurd (sound fault); same = counts.same };
    depth = depth;
    engine = ap (λ (l : LoggedState). l.engine) logged;
    given = λ kept. absurd (failed_kept (sym failed ∙ kept));
    some = λ _. some;
    trimmed = λ kept. absurd (failed_kept (sym failed ∙ kept));
    stays = λ _. ap (λ (l : LoggedState). l.stream) logged;
    goes = λ goes. absurd (fault_goes (sym fault ∙ goes));
    failed = λ _. fault;
    no_room = λ room. absurd (failed_room (sym failed ∙ room));
    memory = λ memory. absurd (fault_memory (sym fault ∙ memory));
    span_is = λ goes. absurd (fault_goes (sym fault ∙ goes));
  }

  -- there was no memory for the image in their place
  pub flushes_nothing : (span : LogSpan) (old new : KeptEngine V) (told : Flushed) → told.flush ≡ NoRoom → told.after ≡ Memory → kept_logged new ≡ kept_logged old → kept_depth new ≡ kept_depth old
      → kept_given new < kept_end old → CountsFault faults identity old new Memory → FlushesTo faults identity true span old new told
  flushes_nothing span old new told room memory logged depth some counts = record {
    counts = record { fault = λ fault. absurd (memory_fault (sym memory ∙ fault)); sound = λ _. counts.sound memory_fault; same = counts.same };
    depth = depth;
    engine = ap (λ (l : LoggedState). l.engine) logged;
    given = λ kept. absurd (room_kept (sym room ∙ kept));
    some = λ _. some;
    trimmed = λ kept. absurd (room_kept (sym room ∙ kept));
    stays = λ _. ap (λ (l : LoggedState). l.stream) logged;
    goes = λ goes. absurd (memory_goes (sym memory ∙ goes));
    failed = λ failed. absurd (room_failed (sym room ∙ failed));
    no_room = λ _. memory;
    memory = λ _. refl;
    span_is = λ goes. absurd (memory_goes (sym memory ∙ goes));
  }
