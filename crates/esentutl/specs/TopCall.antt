-- What a call of the program comes to.
use Rattle.std.specs.Prelude.{◌≡◌, ◌<◌, ◌≤◌, ◌⊎◌, ℕ, ◌+◌, Bool, true, false, List, [], ◌∷◌, ◌++◌, length, take, codes, Option, Ok, Err, IfSome}
use Rattle.std.specs.List.{list_all}
use Rattle.std.specs.Io.KnownBytes.{append_known}
use Rattle.jet_base.specs.declared.replies.Jet.{Jet}
use Rattle.jet_base.specs.declared.replies.Jet.TheVariants as jet
use Rattle.database_state.specs.State.{DatabaseState}
use Rattle.database_state.specs.Step.{state_after_all}
use Rattle.jet_volume.specs.declared.files.LogStart.{LogStart}
use Rattle.session_local.specs.Run.{Line, LineOutcome, served, no_memory, flush_failed, unserved, flushes, run_after_all, run_from}
use Rattle.script_text.specs.Grammar.{script_lines}
use Rattle.loggable_steps.specs.Replays.{closed}
use Rattle.recovered_states.specs.Recovers.{Recovers, RecoversUpTo}
use Rattle.soft_recovery.specs.declared.refusals.RecoverCause.{RecoverCause}
use Rattle.soft_recovery.specs.declared.refusals.RecoverCause.TheVariants as cause
use Rattle.soft_recovery.specs.Opening.{CountsCause}
use Rattle.soft_recovery.specs.Refusals.{IsFromOutside}
use Rattle.ordered_run.specs.Outcomes.{is_plain, AreOutcomesOf, MayComeTo, run_transcript, EndsInLast}
use Rattle.kept_engine.specs.Acknowledged.{RecoversAcknowledged, log_of}
use Rattle.kept_engine.specs.Checkpoints.{LogProgress, checkpoints_of}
use Rattle.kept_engine.specs.Spans.{with_checkpoint}
use Rattle.esentutl.specs.declared.words.Form.{Form}
use Rattle.esentutl.specs.declared.words.Form.TheVariants as form
use Rattle.esentutl.specs.declared.words.RunOptions.{RunOptions}
use Rattle.esentutl.specs.declared.words.Topic.{Topic}
use Rattle.esentutl.specs.Words.{last_line, bad_line, recovered_line}
use Rattle.esentutl.specs.declared.words.Inspection.{Inspection}
use Rattle.esentutl.specs.About.{text_about}
use Rattle.esentutl.specs.Inspections.{InspectionEnd, told_whole, told_in_part, untold, not_inspected, IsTold, line_of_finding, status_of_finding}
use Rattle.esentutl.specs.Volumes.{VolumeSide}

-- the most bytes of a script
abbrev pub script_limit : ℕ
script_limit = 16777216

-- ---- the outside

-- the source and the sink before a call and after it: their bytes where they tell them, and their counts of faults; and that of the volume
pub record Outside : Type 0 where
  pub left_before : Option (List ℕ)
  pub left_after : Option (List ℕ)
  pub source_before : ℕ
  pub source_after : ℕ
  pub taken_before : Option (List ℕ)
  pub taken_after : Option (List ℕ)
  pub sink_before : ℕ
  pub sink_after : ℕ
  pub volume_before : ℕ
  pub volume_after : ℕ

-- the sink took these bytes more
abbrev pub Took : Outside → List ℕ → Type 0
Took o bytes = o.taken_after ≡ append_known o.taken_before bytes

abbrev pub SourceIsSound : Outside → Type 0
SourceIsSound o = o.source_after ≡ o.source_before

abbrev pub SinkIsSound : Outside → Type 0
SinkIsSound o = o.sink_after ≡ o.sink_before

abbrev pub VolumeIsSound : Outside → Type 0
VolumeIsSound o = o.volume_after ≡ o.volume_before

-- the source was read to its end
abbrev pub IsReadOut : Outside → Type 0
IsReadOut o = IfSome o.left_after (λ rest. rest ≡ [])

-- A sink took all of a line, or a front of it and failed.
abbrev pub Says : Option (List ℕ) → Option (List ℕ) → ℕ → ℕ → List ℕ → Type 0
Says before after faults_before faults_after line =
    ((after ≡ append_known before line) × (faults_after ≡ faults_before))
    ⊎ ((n : ℕ) × (n < length line) × (after ≡ append_known before (take n line)) × (faults_before < faults_after))

-- The one line that is printed where no script runs.
abbrev pub SaysOnly : Outside → List ℕ → Type 0
SaysOnly o line = Says o.taken_before o.taken_after o.sink_before o.sink_after line

-- ---- why a volume is not opened

-- the line that tells why, none for want of memory, and the status
abbrev pub line_of_cause : RecoverCause → List ℕ
line_of_cause cause.CheckpointCorrupt = last_line (codes "JET_errCheckpointCorrupt")
line_of_cause cause.LogSequenceEnd = last_line (codes "JET_errLogSequenceEnd")
line_of_cause cause.ReadVerifyFailure = last_line (codes "JET_errReadVerifyFailure")
line_of_cause (cause.DatabaseCorrupted found) = last_line (codes "JET_errDatabaseCorrupted")
line_of_cause cause.LogFileCorrupt = last_line (codes "JET_errLogFileCorrupt")
line_of_cause cause.VolumeFault = last_line (codes "volume")
line_of_cause cause.OutOfMemory = []

abbrev pub status_of_cause : RecoverCause → ℕ
status_of_cause cause.CheckpointCorrupt = 3
status_of_cause cause.LogSequenceEnd = 3
status_of_cause cause.ReadVerifyFailure = 3
status_of_cause (cause.DatabaseCorrupted found) = 3
status_of_cause cause.LogFileCorrupt = 3
status_of_cause cause.VolumeFault = 4
status_of_cause cause.OutOfMemory = 7

-- the same of a volume that is only looked at
abbrev pub line_of_inspected : Inspection → RecoverCause → List ℕ
line_of_inspected asked (cause.DatabaseCorrupted found) = line_of_finding asked found
line_of_inspected asked cause.CheckpointCorrupt = line_of_cause cause.CheckpointCorrupt
line_of_inspected asked cause.LogSequenceEnd = line_of_cause cause.LogSequenceEnd
line_of_inspected asked cause.ReadVerifyFailure = line_of_cause cause.ReadVerifyFailure
line_of_inspected asked cause.LogFileCorrupt = line_of_cause cause.LogFileCorrupt
line_of_inspected asked cause.VolumeFault = line_of_cause cause.VolumeFault
line_of_inspected asked cause.OutOfMemory = line_of_cause cause.OutOfMemory

abbrev pub status_of_inspected : Inspection → RecoverCause → ℕ
status_of_inspected asked (cause.DatabaseCorrupted found) = status_of_finding asked
status_of_inspected asked cause.CheckpointCorrupt = 3
status_of_inspected asked cause.LogSequenceEnd = 3
status_of_inspected asked cause.ReadVerifyFailure = 3
status_of_inspected asked cause.LogFileCorrupt = 3
status_of_inspected asked cause.VolumeFault = 4
status_of_inspected asked cause.OutOfMemory = 7

-- ---- how a call ends

pub data Ending : Type 0 where
  -- every line ran
  done : Ending
  -- the words are of no form
  bad_words : Ending
  -- the text that the words ask for was written
  told : Topic → Ending
  -- the sink failed in it
  sink_failed_telling : Topic → Ending
  too_long : Ending
  source_failed : Ending
  sink_failed : Ending
  want_of_memory : Ending
  -- the first line that is outside the grammar
  bad_script : ℕ → Ending
  -- of a run: its volume was not opened
  not_opened : RecoverCause → Ending
  -- the volume met a fault behind its opening
  volume_failed : Ending
  -- of `/r`: the volume was recovered, and what it holds was told
  recovered : Ending
  -- the sink failed in that
  sink_failed_recovering : Ending
  -- of `/r`: the volume was not opened
  not_recovered : RecoverCause → Ending
  -- of a volume that is only looked at
  inspected : Inspection → InspectionEnd → Ending

abbrev pub status_of_inspection : Inspection → InspectionEnd → ℕ
status_of_inspection asked told_whole = 0
status_of_inspection asked told_in_part = 6
status_of_inspection asked untold = 7
status_of_inspection asked (not_inspected why) = status_of_inspected asked why

abbrev pub status_of : Ending → ℕ
status_of done = 0
status_of bad_words = 1
status_of (told topic) = 0
status_of (sink_failed_telling topic) = 6
status_of too_long = 2
status_of source_failed = 5
status_of sink_failed = 6
status_of want_of_memory = 7
status_of (bad_script number) = 2
status_of (not_opened why) = status_of_cause why
status_of volume_failed = 4
status_of recovered = 0
status_of sink_failed_recovering = 6
status_of (not_recovered why) = status_of_cause why
status_of (inspected asked end) = status_of_inspection asked end

-- the form of the words of a call that ends so, where a run has these options
abbrev pub form_of_ending : RunOptions → Ending → Form
form_of_ending options bad_words = form.Unknown
form_of_ending options (told topic) = form.About topic
form_of_ending options (sink_failed_telling topic) = form.About topic
form_of_ending options recovered = form.Recovery
form_of_ending options sink_failed_recovering = form.Recovery
form_of_ending options (not_recovered why) = form.Recovery
form_of_ending options (inspected asked end) = form.Inspection asked
form_of_ending options _ = form.OrderedRun options

-- the script is read, is not too long, and these are its lines
abbrev pub IsScript : Outside → List ℕ → List Line → Type 0
IsScript o text lines = IsReadOut o × (length text ≤ script_limit) × (script_lines text ≡ Ok lines)

-- ---- the volume

-- it was opened with this state, and no call of it failed
abbrev pub IsOpened : Outside → VolumeSide → DatabaseState → Type 0
IsOpened o v opening = VolumeIsSound o × v.recovers opening × v.accepts

-- it still recovers to the state that it was opened with, at any moment
abbrev pub LeavesOpening : VolumeSide → DatabaseState → Type 0
LeavesOpening v opening = v.since (λ files. Recovers files opening)

-- A crash at any moment leaves what recovers to the state after some first entries of these lines, closed; and one when the call ends
-- leaves at least those of each acknowledged line.
abbrev pub LeavesLines : VolumeSide → DatabaseState → ℕ → List (Line × LineOutcome) → Type 0
LeavesLines v opening limit pairs = v.since (RecoversUpTo opening (log_of opening limit pairs) 0) × v.now (RecoversAcknowledged opening limit pairs)

-- the log of a volume that was opened: its checkpoint is the next one, at the end of the log that was found
abbrev pub opened_log : ℕ → LogStart → LogProgress
opened_log number end = record { span = with_checkpoint (record { number = number; start = end; end = end }); left = 0 }

-- the number of checkpoints of a whole run of these lines: one for the opening, one for the closing, and those of its flushes
abbrev pub checkpoints_of_run : RunOptions → DatabaseState → List (Line × LineOutcome) → ℕ → LogStart → ℕ
checkpoints_of_run options opening pairs number end = checkpoints_of options.depth options.span_limit (run_from opening) (opened_log number end) pairs + 2

-- every image that a crash leaves recovers to the state after all lines, closed, and so many checkpoints were written
abbrev pub LeavesClosed : VolumeSide → RunOptions → DatabaseState → List (Line × LineOutcome) → Type 0
LeavesClosed v options opening pairs =
    v.now (λ files. Recovers files (closed (state_after_all opening (log_of opening options.span_limit pairs))))
    × v.checkpoints (checkpoints_of_run options opening pairs)

-- ---- lines at which a run stops

-- the outcomes of a line at which the volume failed: its flush did, or the checkpoint that followed it
abbrev pub is_by_fault : LineOutcome → Bool
is_by_fault served = true
is_by_fault no_memory = false
is_by_fault (flush_failed jet.LogWriteFail) = true
is_by_fault (flush_failed _) = false
is_by_fault unserved = false

-- a line that is not answered, for want of memory for the checkpoint in the place of its flush
abbrev pub is_unserved : LineOutcome → Bool
is_unserved unserved = true
is_unserved _ = false

-- These lines were served, and each but the last was answered as in any run. The last flushes the log, and has an outcome of this kind.
pub record StopsAtFlush (may_be : LineOutcome → Bool) (opening : DatabaseState) (limit : ℕ) (lines : List Line) (pairs : List (Line × LineOutcome)) : Type 0 where
  pub outcomes : MayComeTo opening limit lines pairs
  pub before : List (Line × LineOutcome)
  pub last : Line
  pub outcome : LineOutcome
  pub pairs_are : pairs ≡ before ++ (last, outcome) ∷ []
  pub plain : list_all (λ pair. is_plain pair.1) before ≡ true
  pub flushes_log : flushes limit (run_after_all limit (run_from opening) before) last ≡ true
  pub outcome_is : may_be outcome ≡ true

-- ---- what an ending says

-- The volume was not opened for this cause: its files are refused, and nothing was written; or a call of it failed, or there was no memory.
-- What its files recover to stays the same.
abbrev pub IsUnopened : Outside → VolumeSide → List ℕ → RecoverCause → Type 0
IsUnopened o v text why =
    SourceIsSound o × SaysOnly o (line_of_cause why) × (text ≡ [])
    × CountsCause why o.volume_before o.volume_after × v.refuses why × ((IsFromOutside why → ⊥) → v.is_unwritten)
    × ((state : DatabaseState) → v.recovers state → LeavesOpening v state)

-- The volume was recovered by one checkpoint, behind which no entry stands.
abbrev pub IsRecovered : Outside → VolumeSide → DatabaseState → List ℕ → Type 0
IsRecovered o v opening text = SourceIsSound o × IsOpened o v opening × (text ≡ []) × LeavesOpening v opening × v.checkpoints (λ number end. 1)

-- the line that tells so
abbrev pub line_of_state : DatabaseState → List ℕ
line_of_state state = recovered_line state.number (length state.tables)

-- Nothing was read of a script, and nothing was written to the volume.
abbrev pub OnlyLooks : Outside → VolumeSide → List ℕ → Type 0
OnlyLooks o v text = SourceIsSound o × (text ≡ []) × v.is_unwritten

-- what was told of a volume, over the state that it recovers to
abbrev pub InspectionEnds : Inspection → Outside → VolumeSide → DatabaseState → List ℕ → InspectionEnd → Type 0
-- the output is the text
InspectionEnds asked o v opening text told_whole =
    OnlyLooks o v text × IsOpened o v opening × SinkIsSound o × ((told : List ℕ) × IsTold v asked opening told × Took o told)
-- the output is a front of it
InspectionEnds asked o v opening text told_in_part =
    OnlyLooks o v text × IsOpened o v opening × (o.sink_before < o.sink_after)
    × ((told : List ℕ) × (n : ℕ) × IsTold v asked opening told × (n < length told) × Took o (take n told))
InspectionEnds asked o v opening text untold = OnlyLooks o v text × VolumeIsSound o × SinkIsSound o × Took o []
-- the output is the line that tells why, or a front of it
InspectionEnds asked o v opening text (not_inspected why) =
    OnlyLooks o v text × SaysOnly o (line_of_inspected asked why) × CountsCause why o.volume_before o.volume_after × v.refuses why

-- What each ending says, over the options of a run, the state that the volume was opened with, and the text that the source gave.
abbrev pub EndsBy : RunOptions → Outside → VolumeSide → DatabaseState → List ℕ → Ending → Type 0
-- the output is the transcript of all lines
EndsBy options o v opening text done =
    SourceIsSound o × SinkIsSound o × IsOpened o v opening
    × ((lines : List Line) × (pairs : List (Line × LineOutcome)) × IsScript o text lines × AreOutcomesOf opening options.span_limit lines pairs × Took o (run_transcript opening options.span_limit pairs)
    × LeavesLines v opening options.span_limit pairs × LeavesClosed v options opening pairs)
EndsBy options o v opening text bad_words = SourceIsSound o × SaysOnly o (last_line (codes "words")) × (text ≡ []) × VolumeIsSound o × v.is_unused
-- the output is the text, or a front of it; nothing was read
EndsBy options o v opening text (told topic) = SourceIsSound o × SinkIsSound o × Took o (text_about topic) × (text ≡ []) × VolumeIsSound o × v.is_unused
EndsBy options o v opening text (sink_failed_telling topic) =
    SourceIsSound o × (o.sink_before < o.sink_after)
    × ((n : ℕ) × (n < length (text_about topic)) × Took o (take n (text_about topic))) × (text ≡ []) × VolumeIsSound o × v.is_unused
EndsBy options o v opening text too_long =
    SourceIsSound o × SaysOnly o (last_line (codes "script too long")) × IfSome o.left_before (λ bytes. script_limit < length bytes)
    × IsOpened o v opening × LeavesOpening v opening
EndsBy options o v opening text source_failed = (o.source_before < o.source_after) × SaysOnly o (last_line (codes "source")) × IsOpened o v opening × LeavesOpening v opening
-- the output is the whole transcript of some first lines but the last of them, and a front of that one's
EndsBy options o v opening text sink_failed =
    SourceIsSound o × (o.sink_before < o.sink_after) × IsOpened o v opening
    × ((lines : List Line) × (pairs : List (Line × LineOutcome)) × (count n : ℕ) × IsScript o text lines × AreOutcomesOf opening options.span_limit (take count lines) pairs
    × EndsInLast opening options.span_limit pairs n × Took o (take n (run_transcript opening options.span_limit pairs)) × LeavesLines v opening options.span_limit pairs)
-- nothing was printed, or the whole transcript of some first lines, of which the last may not be answered
EndsBy options o v opening text want_of_memory =
    SourceIsSound o × SinkIsSound o × IsOpened o v opening
    × ((Took o [] × LeavesOpening v opening)
    ⊎ ((lines : List Line) × (pairs : List (Line × LineOutcome)) × (count : ℕ) × IsScript o text lines
    × (AreOutcomesOf opening options.span_limit (take count lines) pairs ⊎ StopsAtFlush is_unserved opening options.span_limit (take count lines) pairs)
    × Took o (run_transcript opening options.span_limit pairs) × LeavesLines v opening options.span_limit pairs))
EndsBy options o v opening text (bad_script number) =
    SourceIsSound o × SaysOnly o (bad_line number)
    × IsReadOut o × (length text ≤ script_limit) × (script_lines text ≡ Err number) × IsOpened o v opening × LeavesOpening v opening
EndsBy options o v opening text (not_opened why) = IsUnopened o v text why
-- all lines ran, and the closing failed, or the run stopped at a flush: the output is the whole transcript of these lines, and the line
-- that tells of the fault, or a front of that; or the sink failed in the last of the lines
EndsBy options o v opening text volume_failed =
    SourceIsSound o × (o.volume_before < o.volume_after) × v.recovers opening × v.accepts
    × ((lines : List Line) × (pairs : List (Line × LineOutcome)) × IsScript o text lines
    × (AreOutcomesOf opening options.span_limit lines pairs ⊎ ((count : ℕ) × StopsAtFlush is_by_fault opening options.span_limit (take count lines) pairs))
    × (Says (append_known o.taken_before (run_transcript opening options.span_limit pairs)) o.taken_after o.sink_before o.sink_after (last_line (codes "volume"))
    ⊎ ((n : ℕ) × EndsInLast opening options.span_limit pairs n × Took o (take n (run_transcript opening options.span_limit pairs)) × (o.sink_before < o.sink_after)))
    × LeavesLines v opening options.span_limit pairs)
-- the output is the line that tells what was recovered, or a front of it
EndsBy options o v opening text recovered = IsRecovered o v opening text × SinkIsSound o × Took o (line_of_state opening)
EndsBy options o v opening text sink_failed_recovering =
    IsRecovered o v opening text × (o.sink_before < o.sink_after) × ((n : ℕ) × (n < length (line_of_state opening)) × Took o (take n (line_of_state opening)))
EndsBy options o v opening text (not_recovered why) = IsUnopened o v text why
EndsBy options o v opening text (inspected asked end) = InspectionEnds asked o v opening text end
