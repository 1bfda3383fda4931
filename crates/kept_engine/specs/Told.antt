-- What is told of a flush and of an image, whether or not a volume tells what it holds.
use Rattle.std.specs.Prelude.{◌≡◌, ◌≢◌, ◌<◌, ◌-◌, ℕ, Bool, true, None}
use Rattle.entry_log.specs.LogState.{trimmed_to}
use Rattle.store_core.specs.Store.{store_down}
use Rattle.kept_engine.specs.declared.kept.KeptEngine.{KeptEngine}
use Rattle.ordered_run.specs.declared.flushed.After.{After}
use Rattle.ordered_run.specs.declared.flushed.After.TheVariants.{Goes, Fault, Memory}
use Rattle.ordered_run.specs.declared.flushed.Flush.TheVariants.{Kept, Failed, NoRoom}
use Rattle.ordered_run.specs.declared.flushed.Flushed.{Flushed}
use Rattle.kept_engine.specs.Spans.{LogSpan, is_due_after, span_after, with_checkpoint}
use Rattle.kept_engine.specs.Keeping.{kept_depth, kept_end, kept_given, kept_logged, kept_span, kept_store, kept_volume}

module _ {V : Type 0} (faults identity : V → ℕ) where
  -- The volume's count of faults rises at a fault alone, and the volume is the same object.
  pub record CountsFault (old new : KeptEngine V) (after : After) : Type 0 where
    pub fault : after ≡ Fault → faults (kept_volume old) < faults (kept_volume new)
    pub sound : after ≢ Fault → faults (kept_volume new) ≡ faults (kept_volume old)
    pub same : identity (kept_volume new) ≡ identity (kept_volume old)

  -- The next checkpoint was written, in the place of the log up to this position, or none was.
  pub record TellsImage (to : ℕ) (old new : KeptEngine V) (after : After) : Type 0 where
    pub counts : CountsFault old new after
    pub depth : kept_depth new ≡ kept_depth old
    pub given : after ≡ Goes → kept_given new ≡ to
    pub kept : after ≢ Goes → kept_given new ≡ kept_given old
    pub span : after ≡ Goes → kept_span new ≡ with_checkpoint (kept_span old)
    pub up : after ≡ Goes → store_down (kept_store new) ≡ None

  -- All bytes of the log are kept, and given up in memory, or some were not given. No memory is wanted but where a checkpoint is due;
  -- and where the run goes on, this is the span of the log.
  pub record FlushesTo (due : Bool) (span : LogSpan) (old new : KeptEngine V) (told : Flushed) : Type 0 where
    pub counts : CountsFault old new told.after
    pub depth : kept_depth new ≡ kept_depth old
    pub engine : (kept_logged new).engine ≡ (kept_logged old).engine
    pub given : told.flush ≡ Kept → kept_given new ≡ kept_end old
    pub some : told.flush ≢ Kept → kept_given new < kept_end old
    pub trimmed : told.flush ≡ Kept → (kept_logged new).stream ≡ trimmed_to (kept_end old) (kept_logged old).stream
    pub stays : told.flush ≢ Kept → (kept_logged new).stream ≡ (kept_logged old).stream
    pub goes : told.after ≡ Goes → told.flush ≡ Kept
    pub failed : told.flush ≡ Failed → told.after ≡ Fault
    pub no_room : told.flush ≡ NoRoom → told.after ≡ Memory
    pub memory : told.after ≡ Memory → due ≡ true
    pub span_is : told.after ≡ Goes → kept_span new ≡ span

  -- The lengths alone decide whether a checkpoint is due, and where the log goes on.
  abbrev pub TellsFlush : KeptEngine V → KeptEngine V → Flushed → Type 0
  TellsFlush old new told =
      let count = kept_end old - kept_given old in FlushesTo (is_due_after (kept_depth old) (kept_span old) count) (span_after (kept_depth old) (kept_span old) count) old new told
