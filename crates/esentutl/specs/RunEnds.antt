-- How the run of a script's calls ends, over a volume that was opened.
use Rattle.std.specs.Prelude.{◌≡◌, ℕ, ◌+◌, ◌<◌, ◌⊎◌, List, [], take, codes, Option}
use Rattle.index_derive.specs.declared.log.Entry.{Entry}
use Rattle.std.specs.Io.KnownBytes.{append_known}
use Rattle.database_state.specs.State.{DatabaseState}
use Rattle.database_state.specs.Step.{state_after_all}
use Rattle.jet_volume.specs.Image.{Image as Files}
use Rattle.jet_volume.specs.Crash.{CrashLeaves}
use Rattle.session_local.specs.Run.{Line, LineOutcome, run_from}
use Rattle.loggable_steps.specs.Replays.{closed}
use Rattle.recovered_states.specs.Recovers.{Recovers}
use Rattle.ordered_run.specs.declared.flushed.After.{After}
use Rattle.ordered_run.specs.declared.flushed.After.TheVariants as after
use Rattle.ordered_run.specs.declared.run.LineFault.{LineFault}
use Rattle.ordered_run.specs.declared.run.LineFault.TheVariants as fault
use Rattle.ordered_run.specs.Outcomes.{AreOutcomesOf, run_transcript, EndsInLast}
use Rattle.kept_engine.specs.declared.kept.KeptEngine.{KeptEngine}
use Rattle.kept_engine.specs.Acknowledged.{log_of}
use Rattle.kept_engine.specs.Checkpoints.{checkpoints_of, progress_of}
use Rattle.kept_engine.specs.Keeping.{kept_depth, kept_logged, kept_span, kept_volume, Ends, Keeps, StandsAlone}
use Rattle.kept_engine.specs.KeptRuns.{KeepsSoFar, LeavesRun}
use Rattle.kept_engine.specs.Opening.{opening_of}
use Rattle.kept_engine.specs.Told.{CountsFault}
use Rattle.esentutl.specs.Words.{last_line}
use Rattle.esentutl.specs.TopCall.{Ending, done, bad_words, told, sink_failed_telling, too_long, source_failed, sink_failed, want_of_memory, bad_script, not_opened, volume_failed, recovered, sink_failed_recovering, not_recovered, inspected, Says, StopsAtFlush, is_by_fault, is_unserved}

-- ---- why a run stops

-- the status, and the line that tells of it; a fault of the sink says no more
abbrev pub status_of_stop : LineFault → ℕ
status_of_stop fault.Memory = 7
status_of_stop fault.Sink = 6
status_of_stop fault.Volume = 4
status_of_stop fault.VolumeAndSink = 4
status_of_stop fault.Image = 7

-- a sink that is told nothing
abbrev pub IsSilent : Option (List ℕ) → Option (List ℕ) → ℕ → ℕ → Type 0
IsSilent before after faults_before faults_after = (after ≡ before) × (faults_after ≡ faults_before)

abbrev pub SaysStop : Option (List ℕ) → Option (List ℕ) → ℕ → ℕ → LineFault → Type 0
SaysStop before after faults_before faults_after fault.Memory = IsSilent before after faults_before faults_after
SaysStop before after faults_before faults_after fault.Sink = IsSilent before after faults_before faults_after
SaysStop before after faults_before faults_after fault.Volume = Says before after faults_before faults_after (last_line (codes "volume"))
SaysStop before after faults_before faults_after fault.VolumeAndSink = IsSilent before after faults_before faults_after
SaysStop before after faults_before faults_after fault.Image = IsSilent before after faults_before faults_after

-- ---- the closing

abbrev pub status_of_closing : After → ℕ
status_of_closing after.Goes = 0
status_of_closing after.Fault = 4
status_of_closing after.Memory = 7

abbrev pub SaysClosing : Option (List ℕ) → Option (List ℕ) → ℕ → ℕ → After → Type 0
SaysClosing before now faults_before faults_after after.Goes = IsSilent before now faults_before faults_after
SaysClosing before now faults_before faults_after after.Fault = Says before now faults_before faults_after (last_line (codes "volume"))
SaysClosing before now faults_before faults_after after.Memory = IsSilent before now faults_before faults_after

-- ---- a run

module _ (tells : Type 0) {V : Type 0} (seen : V → Files) (moment : V → ℕ) (left_at : V → ℕ → Files → Type 0) (faults identity : V → ℕ) where
  -- An engine was closed: this came of the closing image, and the volume is that of the engine behind it.
  pub record IsClosed (kept : KeptEngine V) (volume : V) (closing : After) : Type 0 where
    pub behind : KeptEngine V
    pub volume_is : volume ≡ kept_volume behind
    pub ends : tells → (opening : DatabaseState) (entries : List Entry) → Keeps seen moment left_at opening entries kept → Ends seen moment left_at opening entries kept behind closing
    pub counts : CountsFault faults identity kept behind closing

  -- what a run of these lines leaves, wherever its engine was opened since a volume was as at a start
  abbrev pub LeavesSince : DatabaseState → ℕ → KeptEngine V → V → List (Line × LineOutcome) → Type 0
  LeavesSince opening limit kept volume pairs = (start : V) → tells → KeepsSoFar seen moment left_at opening limit start [] kept → LeavesRun seen moment left_at opening limit start volume pairs

  -- Behind the closing image every crash leaves what recovers to the state after all lines, and its checkpoint is told by lengths.
  pub record LeavesLast (opening : DatabaseState) (limit : ℕ) (kept : KeptEngine V) (volume : V) (pairs : List (Line × LineOutcome)) : Type 0 where
    pub state : (start : V) → tells → KeepsSoFar seen moment left_at opening limit start [] kept
        → CrashLeaves moment left_at volume (λ files. Recovers files (closed (state_after_all opening (log_of opening limit pairs))))
    pub alone : (start : V) → tells → KeepsSoFar seen moment left_at opening limit start [] kept
        → CrashLeaves moment left_at volume (StandsAlone ((kept_span kept).number + checkpoints_of (kept_depth kept) limit (run_from opening) (progress_of kept) pairs + 1))

  abbrev pub RunEndsBy : ℕ → List Line → KeptEngine V → V → Option (List ℕ) → Option (List ℕ) → ℕ → ℕ → Ending → Type 0
  RunEndsBy limit lines kept volume before now faults_before faults_after done =
      (faults_after ≡ faults_before) × (faults volume ≡ faults (kept_volume kept))
      × ((pairs : List (Line × LineOutcome)) × AreOutcomesOf (opening_of kept) limit lines pairs × (now ≡ append_known before (run_transcript (opening_of kept) limit pairs))
      × LeavesSince (opening_of kept) limit kept volume pairs × LeavesLast (opening_of kept) limit kept volume pairs)
  RunEndsBy limit lines kept volume before now faults_before faults_after sink_failed =
      (faults_before < faults_after) × (faults volume ≡ faults (kept_volume kept))
      × ((pairs : List (Line × LineOutcome)) × (count n : ℕ) × AreOutcomesOf (opening_of kept) limit (take count lines) pairs × EndsInLast (opening_of kept) limit pairs n
      × (now ≡ append_known before (take n (run_transcript (opening_of kept) limit pairs))) × LeavesSince (opening_of kept) limit kept volume pairs)
  -- nothing was served, or some first lines
  RunEndsBy limit lines kept volume before now faults_before faults_after want_of_memory =
      (faults_after ≡ faults_before) × (faults volume ≡ faults (kept_volume kept))
      × (((now ≡ before) × (volume ≡ kept_volume kept))
      ⊎ ((pairs : List (Line × LineOutcome)) × (count : ℕ)
      × (AreOutcomesOf (opening_of kept) limit (take count lines) pairs ⊎ StopsAtFlush is_unserved (opening_of kept) limit (take count lines) pairs)
      × (now ≡ append_known before (run_transcript (opening_of kept) limit pairs)) × LeavesSince (opening_of kept) limit kept volume pairs))
  RunEndsBy limit lines kept volume before now faults_before faults_after volume_failed =
      (faults (kept_volume kept) < faults volume)
      × ((pairs : List (Line × LineOutcome))
      × (AreOutcomesOf (opening_of kept) limit lines pairs ⊎ ((count : ℕ) × StopsAtFlush is_by_fault (opening_of kept) limit (take count lines) pairs))
      × (Says (append_known before (run_transcript (opening_of kept) limit pairs)) now faults_before faults_after (last_line (codes "volume"))
      ⊎ ((n : ℕ) × EndsInLast (opening_of kept) limit pairs n × (now ≡ append_known before (take n (run_transcript (opening_of kept) limit pairs))) × (faults_before < faults_after)))
      × LeavesSince (opening_of kept) limit kept volume pairs)
  -- no other ending is that of a run
  RunEndsBy limit lines kept volume before now faults_before faults_after bad_words = ⊥
  RunEndsBy limit lines kept volume before now faults_before faults_after (told topic) = ⊥
  RunEndsBy limit lines kept volume before now faults_before faults_after (sink_failed_telling topic) = ⊥
  RunEndsBy limit lines kept volume before now faults_before faults_after too_long = ⊥
  RunEndsBy limit lines kept volume before now faults_before faults_after source_failed = ⊥
  RunEndsBy limit lines kept volume before now faults_before faults_after (bad_script number) = ⊥
  RunEndsBy limit lines kept volume before now faults_before faults_after (not_opened why) = ⊥
  RunEndsBy limit lines kept volume before now faults_before faults_after recovered = ⊥
  RunEndsBy limit lines kept volume before now faults_before faults_after sink_failed_recovering = ⊥
  RunEndsBy limit lines kept volume before now faults_before faults_after (not_recovered why) = ⊥
  RunEndsBy limit lines kept volume before now faults_before faults_after (inspected asked end) = ⊥
