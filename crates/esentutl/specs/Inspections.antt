-- What is told of a volume that is only looked at.
use Rattle.std.specs.Prelude.{◌≡◌, ℕ, ◌==◌, Bool, true, false, not, List, [], Option, Some, None, length, codes}
use Rattle.index_derive.specs.declared.log.Entry.{Entry}
use Rattle.checkpoint.specs.declared.rest.TheConstants.{FORMAT_VERSION}
use Rattle.database_state.specs.State.{DatabaseState}
use Rattle.engine_image.specs.FoundFaults.{finding_told}
use Rattle.engine_image.specs.declared.fault.Finding.{Finding}
use Rattle.image_findings.specs.Findings.{IsConsistent, engine_in}
use Rattle.image_findings.specs.Images.{ImageContents}
use Rattle.laws_engine.specs.HoldsState.{HoldsState}
use Rattle.log_grammar.specs.EntryStreams.{Holds}
use Rattle.recovered_states.specs.Recovers.{RecoversFrom}
use Rattle.soft_recovery.specs.Inspecting.{entries_of, has_session}
use Rattle.soft_recovery.specs.declared.refusals.RecoverCause.{RecoverCause}
use Rattle.soft_recovery.specs.declared.refusals.RecoverCause.TheVariants as cause
use Rattle.store_core.specs.Stands.{Checkpoint, number_of, pages_of, start_of}
use Rattle.store_core.specs.Store.{may_be_opened}
use Rattle.tool_dump.specs.declared.database.DatabaseHeader.{DatabaseHeader}
use Rattle.tool_dump.specs.DumpTexts.{IsLogText, checkpoint_text, header_text}
use Rattle.tool_dump.specs.SpaceTexts.{space_text}
use Rattle.tool_integrity.specs.IntegrityLines.{clean_line, finding_line}
use Rattle.esentutl.specs.declared.words.Form.{Form}
use Rattle.esentutl.specs.declared.words.Form.TheVariants as form
use Rattle.esentutl.specs.declared.words.Inspection.{Inspection}
use Rattle.esentutl.specs.declared.words.Inspection.TheVariants as inspection
use Rattle.esentutl.specs.Volumes.{VolumeSide}
use Rattle.esentutl.specs.Words.{last_line}

-- ---- texts, of a checkpoint or none, the stream of log bytes behind it, and the state that is recovered from the two

-- Whether the database was closed well is asked of the checkpoint and of the whole entries behind it; the numbers are the state's.
abbrev pub header_of : Option Checkpoint → List Entry → DatabaseState → DatabaseHeader
header_of checkpoint entries state = record {
  has_session = has_session checkpoint;
  has_entry = not (length entries == 0);
  format = FORMAT_VERSION;
  number = state.number;
  tables = length state.tables;
}

pub record IsHeaderText (checkpoint : Option Checkpoint) (stream : List ℕ) (state : DatabaseState) (text : List ℕ) : Type 0 where
  pub entries : List Entry
  pub rest : List ℕ
  pub holds : Holds stream entries rest
  pub is : text ≡ header_text (header_of checkpoint entries state)

-- The text of the pages of a consistent image that shows the state.
pub record IsImageText (state : DatabaseState) (text : List ℕ) : Type 0 where
  pub image : ImageContents
  pub consistent : IsConsistent image
  pub holds : HoldsState (engine_in 0 image) state
  pub is : text ≡ space_text image.pages (Some image.catalog_root)

-- a new volume has no page
abbrev pub IsSpaceText : Option Checkpoint → DatabaseState → List ℕ → Type 0
IsSpaceText None state text = text ≡ space_text [] None
IsSpaceText (Some checkpoint) state text = IsImageText state text

abbrev pub IsTextOf : Inspection → Option Checkpoint → List ℕ → DatabaseState → List ℕ → Type 0
IsTextOf inspection.Header checkpoint stream state text = IsHeaderText checkpoint stream state text
IsTextOf inspection.Checkpoint checkpoint stream state text = text ≡ checkpoint_text (number_of checkpoint) (start_of checkpoint) (length (pages_of checkpoint))
IsTextOf inspection.Log checkpoint stream state text = IsLogText (entries_of checkpoint) stream text
IsTextOf inspection.Space checkpoint stream state text = IsSpaceText checkpoint state text
IsTextOf inspection.Integrity checkpoint stream state text = text ≡ clean_line state.number (length state.tables)

-- A checkpoint, or none, stands on the volume with a stream behind it; the state is recovered from these, and the text is theirs.
pub record IsTold (v : VolumeSide) (asked : Inspection) (state : DatabaseState) (text : List ℕ) : Type 0 where
  pub checkpoint : Option Checkpoint
  pub stream : List ℕ
  pub within : may_be_opened checkpoint ≡ true
  pub stands : v.stands checkpoint stream
  pub from : RecoversFrom checkpoint stream state
  pub is : IsTextOf asked checkpoint stream state text

-- ---- a volume that is refused

-- Asked for its integrity, an image of which something is found is no refused volume: that is told, with a status of its own.
abbrev pub status_of_finding : Inspection → ℕ
status_of_finding inspection.Integrity = 8
status_of_finding _ = 3

abbrev pub line_of_finding : Inspection → Finding → List ℕ
line_of_finding inspection.Integrity found = finding_line (finding_told found)
line_of_finding _ found = last_line (codes "JET_errDatabaseCorrupted")

-- whether something is found of an image
abbrev pub is_finding : RecoverCause → Bool
is_finding (cause.DatabaseCorrupted found) = true
is_finding _ = false

abbrev pub status_of_refused : Inspection → RecoverCause → ℕ
status_of_refused asked (cause.DatabaseCorrupted found) = status_of_finding asked
status_of_refused asked _ = 3

-- the status with which words of a form end where files are refused for a cause
abbrev pub status_of_refusal : Form → RecoverCause → ℕ
status_of_refusal (form.Inspection asked) why = status_of_refused asked why
status_of_refusal _ why = 3

-- whether the words ask to look at a volume
abbrev pub is_inspection : Form → Bool
is_inspection (form.Inspection asked) = true
is_inspection _ = false

-- ---- how a call ends that looks at a volume

pub data InspectionEnd : Type 0 where
  -- the text was written
  told_whole : InspectionEnd
  -- the sink failed in it
  told_in_part : InspectionEnd
  -- there was no memory for it
  untold : InspectionEnd
  -- the volume is refused
  not_inspected : RecoverCause → InspectionEnd
