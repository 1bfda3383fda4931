-- What becomes of a line by the flush of its log.
use Rattle.std.specs.Prelude.{◌≡◌, Bool, true, false, List, [], ◌∷◌}
use Rattle.jet_base.specs.declared.replies.Jet.{Jet}
use Rattle.jet_base.specs.declared.replies.Jet.TheVariants as jet
use Rattle.session_local.specs.declared.reply.Reply.{Reply}
use Rattle.session_local.specs.declared.reply.Value.TheVariants as value
use Rattle.session_local.specs.Answer.{Row}
use Rattle.session_local.specs.Run.{LineOutcome, served, no_memory, flush_failed, unserved}
use Rattle.ordered_run.specs.declared.flushed.After.TheVariants.{Goes, Fault, Memory}
use Rattle.ordered_run.specs.declared.flushed.Flush.{Flush}
use Rattle.ordered_run.specs.declared.flushed.Flush.TheVariants.{Kept, Failed, NoRoom}
use Rattle.ordered_run.specs.declared.flushed.Flushed.{Flushed}

-- A run goes on only where a flush kept all bytes. One that failed met a fault of the volume, and one that found no room found no
-- memory for an image.
pub record IsFlushOutcome (told : Flushed) : Type 0 where
  pub kept : told.after ≡ Goes → told.flush ≡ Kept
  pub failed : told.flush ≡ Failed → told.after ≡ Fault
  pub no_room : told.flush ≡ NoRoom → told.after ≡ Memory

-- nothing was to be flushed
abbrev pub nothing_flushed : Flushed
nothing_flushed = record { flush = Kept; after = Goes }

-- What becomes of a line that flushes, by its flush: it is served where all bytes are kept; its reply is that of a failed log write where
-- the volume met a fault; and where there was no room for them, and no memory for an image, it is not answered.
abbrev pub outcome_of_flush : Flush → LineOutcome
outcome_of_flush Kept = served
outcome_of_flush Failed = flush_failed jet.LogWriteFail
outcome_of_flush NoRoom = unserved

-- A line that found no memory tells so by its reply; no other reply does.
abbrev pub outcome_of_jet : Jet → Flush → LineOutcome
outcome_of_jet jet.OutOfMemory flush = no_memory
outcome_of_jet _ flush = outcome_of_flush flush

-- the reply once the log was flushed for it
abbrev pub reply_by_flush : Flush → Reply → Reply
reply_by_flush Kept reply = reply
reply_by_flush Failed reply = record { jet = jet.LogWriteFail; value = value.Nothing }
reply_by_flush NoRoom reply = reply

-- whether the line is not answered
abbrev pub found_no_room : Flush → Bool
found_no_room Kept = false
found_no_room Failed = false
found_no_room NoRoom = true

-- the rows that are printed
abbrev pub rows_by_flush : Flush → Row → List Row
rows_by_flush Kept row = row ∷ []
rows_by_flush Failed row = row ∷ []
rows_by_flush NoRoom row = []
