-- How a call ends, as it is told of a volume by less.
use Rattle.std.proofs.Common.{◌≡◌, ◌⊎◌, inl, inr, ℕ, List, [], take, Option}
use Rattle.database_state.specs.State.{DatabaseState}
use Rattle.jet_volume.specs.declared.files.LogStart.{LogStart}
use Rattle.jet_volume.specs.Image.{Image as Files}
use Rattle.session_local.specs.Run.{Line, LineOutcome}
use Rattle.recovered_states.specs.Recovers.{Recovers, RecoversUpTo}
use Rattle.soft_recovery.specs.declared.refusals.RecoverCause.{RecoverCause}
use Rattle.ordered_run.specs.Outcomes.{AreOutcomesOf, run_transcript}
use Rattle.kept_engine.specs.Acknowledged.{RecoversAcknowledged, log_of}
use Rattle.store_core.specs.Stands.{Checkpoint}
use Rattle.esentutl.specs.declared.words.Inspection.{Inspection}
use Rattle.esentutl.specs.declared.words.RunOptions.{RunOptions}
use Rattle.esentutl.specs.Inspections.{InspectionEnd, told_whole, told_in_part, untold, not_inspected, IsTold}
use Rattle.esentutl.specs.declared.words.Topic.{Topic}
use Rattle.esentutl.specs.TopCall.{Outside, Ending, done, bad_words, told, sink_failed_telling, too_long, source_failed, sink_failed, want_of_memory, bad_script, not_opened, volume_failed, recovered, sink_failed_recovering, not_recovered, inspected, Took, IsScript, IsOpened, OnlyLooks, InspectionEnds, LeavesOpening, LeavesLines, LeavesClosed, IsUnopened, IsRecovered, StopsAtFlush, is_unserved, checkpoints_of_run, EndsBy}
use Rattle.esentutl.specs.Volumes.{VolumeSide}

-- what the one tells, the other tells as well
pub record Tells (v w : VolumeSide) : Type 1 where
  pub recovers : (state : DatabaseState) → v.recovers state → w.recovers state
  pub refuses : (why : RecoverCause) → v.refuses why → w.refuses why
  pub stands : (checkpoint : Option Checkpoint) (stream : List ℕ) → v.stands checkpoint stream → w.stands checkpoint stream
  pub accepts : v.accepts → w.accepts
  pub since : (Has : Files → Type 0) → v.since Has → w.since Has
  pub now : (Has : Files → Type 0) → v.now Has → w.now Has
  pub checkpoints : (count : ℕ → LogStart → ℕ) → v.checkpoints count → w.checkpoints count
  pub is_unwritten : v.is_unwritten → w.is_unwritten
  pub is_unused : v.is_unused → w.is_unused
  -- of the states that the files recover to
  pub stays : ((state : DatabaseState) → v.recovers state → LeavesOpening v state) → (state : DatabaseState) → w.recovers state → LeavesOpening w state

opened : (o : Outside) (v w : VolumeSide) (opening : DatabaseState) → Tells v w → IsOpened o v opening → IsOpened o w opening
opened o v w opening tells is = (is.0, tells.recovers opening is.1, tells.accepts is.2)

lines : (v w : VolumeSide) (opening : DatabaseState) (limit : ℕ) (pairs : List (Line × LineOutcome)) → Tells v w → LeavesLines v opening limit pairs → LeavesLines w opening limit pairs
lines v w opening limit pairs tells leaves = (tells.since (RecoversUpTo opening (log_of opening limit pairs) 0) leaves.0, tells.now (RecoversAcknowledged opening limit pairs) leaves.1)

closes : (v w : VolumeSide) (options : RunOptions) (opening : DatabaseState) (pairs : List (Line × LineOutcome)) → Tells v w → LeavesClosed v options opening pairs → LeavesClosed w options opening pairs
closes v w options opening pairs tells leaves = (tells.now _ leaves.0, tells.checkpoints (checkpoints_of_run options opening pairs) leaves.1)

unopened : (o : Outside) (v w : VolumeSide) (text : List ℕ) (why : RecoverCause) → Tells v w → IsUnopened o v text why → IsUnopened o w text why
unopened o v w text why tells is = (is.0, is.1, is.2, is.3, tells.refuses why is.4, λ files. tells.is_unwritten (is.5 files), tells.stays is.6)

recovers : (o : Outside) (v w : VolumeSide) (opening : DatabaseState) (text : List ℕ) → Tells v w → IsRecovered o v opening text → IsRecovered o w opening text
recovers o v w opening text tells is = (is.0, opened o v w opening tells is.1, is.2, tells.since (λ files. Recovers files opening) is.3, tells.checkpoints (λ number end. 1) is.4)

-- nothing was printed, or the whole transcript of some first lines
abbrev Lacks : RunOptions → Outside → VolumeSide → DatabaseState → List ℕ → Type 0
Lacks options o v opening text =
    (Took o [] × LeavesOpening v opening)
    ⊎ ((lines : List Line) × (pairs : List (Line × LineOutcome)) × (count : ℕ) × IsScript o text lines
    × (AreOutcomesOf opening options.span_limit (take count lines) pairs ⊎ StopsAtFlush is_unserved opening options.span_limit (take count lines) pairs)
    × Took o (run_transcript opening options.span_limit pairs) × LeavesLines v opening options.span_limit pairs)

lacks : (options : RunOptions) (o : Outside) (v w : VolumeSide) (opening : DatabaseState) (text : List ℕ) → Tells v w → Lacks options o v opening text → Lacks options o w opening text
lacks options o v w opening text tells (inl none) = inl (none.0, tells.since (λ files. Recovers files opening) none.1)
lacks options o v w opening text tells (inr run) = inr (run.0, run.1, run.2, run.3, run.4, run.5, lines v w opening options.span_limit run.1 tells run.6)

looks : (o : Outside) (v w : VolumeSide) (text : List ℕ) → Tells v w → OnlyLooks o v text → OnlyLooks o w text
looks o v w text tells is = (is.0, is.1, tells.is_unwritten is.2)

is_told : (v w : VolumeSide) (asked : Inspection) (state : DatabaseState) (text : List ℕ) → Tells v w → IsTold v asked state text → IsTold w asked state text
is_told v w asked state text tells is = record { checkpoint = is.checkpoint; stream = is.stream; within = is.within; stands = tells.stands is.checkpoint is.stream is.stands; from = is.from; is = is.is }

inspects : (o : Outside) (v w : VolumeSide) (opening : DatabaseState) (text : List ℕ) (asked : Inspection) (end : InspectionEnd) → Tells v w → InspectionEnds asked o v opening text end → InspectionEnds asked o w opening text end
inspects o v w opening text asked told_whole tells ends =
    let all = ends.3 in (looks o v w text tells ends.0, opened o v w opening tells ends.1, ends.2, (all.0, is_told v w asked opening all.0 tells all.1, all.2))
inspects o v w opening text asked told_in_part tells ends =
    let front = ends.3 in (looks o v w text tells ends.0, opened o v w opening tells ends.1, ends.2, (front.0, front.1, is_told v w asked opening front.0 tells front.2, front.3, front.4))
inspects o v w opening text asked untold tells ends = (looks o v w text tells ends.0, ends.1, ends.2, ends.3)
inspects o v w opening text asked (not_inspected why) tells ends = (looks o v w text tells ends.0, ends.1, ends.2, tells.refuses why ends.3)

pub weaker : (options : RunOptions) (o : Outside) (v w : VolumeSide) (opening : DatabaseState) (text : List ℕ) (ending : Ending) → Tells v w → EndsBy options o v opening text ending → EndsBy options o w opening text ending
weaker options o v w opening text done tells ends =
    let run = ends.3 in (
      ends.0,
      ends.1,
      opened o v w opening tells ends.2,
      (run.0, run.1, run.2, run.3, run.4, lines v w opening options.span_limit run.1 tells run.5, closes v w options opening run.1 tells run.6),
    )
weaker options o v w opening text bad_words tells ends = (ends.0, ends.1, ends.2, ends.3, tells.is_unused ends.4)
weaker options o v w opening text (told topic) tells ends = (ends.0, ends.1, ends.2, ends.3, ends.4, tells.is_unused ends.5)
weaker options o v w opening text (sink_failed_telling topic) tells ends = (ends.0, ends.1, ends.2, ends.3, ends.4, tells.is_unused ends.5)
weaker options o v w opening text too_long tells ends = (ends.0, ends.1, ends.2, opened o v w opening tells ends.3, tells.since (λ files. Recovers files opening) ends.4)
weaker options o v w opening text source_failed tells ends = (ends.0, ends.1, opened o v w opening tells ends.2, tells.since (λ files. Recovers files opening) ends.3)
weaker options o v w opening text sink_failed tells ends =
    let run = ends.3 in (
      ends.0,
      ends.1,
      opened o v w opening tells ends.2,
      (run.0, run.1, run.2, run.3, run.4, run.5, run.6, run.7, lines v w opening options.span_limit run.1 tells run.8),
    )
weaker options o v w opening text want_of_memory tells ends = (ends.0, ends.1, opened o v w opening tells ends.2, lacks options o v w opening text tells ends.3)
weaker options o v w opening text (bad_script number) tells ends = (ends.0, ends.1, ends.2, ends.3, ends.4, opened o v w opening tells ends.5, tells.since (λ files. Recovers files opening) ends.6)
weaker options o v w opening text (not_opened why) tells ends = unopened o v w text why tells ends
weaker options o v w opening text volume_failed tells ends =
    let run = ends.4 in (
      ends.0,
      ends.1,
      tells.recovers opening ends.2,
      tells.accepts ends.3,
      (run.0, run.1, run.2, run.3, run.4, lines v w opening options.span_limit run.1 tells run.5),
    )
weaker options o v w opening text recovered tells ends = (recovers o v w opening text tells ends.0, ends.1, ends.2)
weaker options o v w opening text sink_failed_recovering tells ends = (recovers o v w opening text tells ends.0, ends.1, ends.2)
weaker options o v w opening text (not_recovered why) tells ends = unopened o v w text why tells ends
weaker options o v w opening text (inspected asked end) tells ends = inspects o v w opening text asked end tells ends
