-- How what was asked of a volume is told to a sink.
use Rattle.std.specs.Prelude.{◌≡◌, ◌⊎◌, ℕ, true, List, Option}
use Rattle.soft_recovery.specs.declared.refusals.RecoverCause.{RecoverCause}
use Rattle.esentutl.specs.About.{Tells}
use Rattle.esentutl.specs.RunEnds.{IsSilent}
use Rattle.esentutl.specs.declared.words.Inspection.{Inspection}
use Rattle.esentutl.specs.Inspections.{is_finding}
use Rattle.esentutl.specs.TopCall.{Says, line_of_inspected, status_of_inspected}

-- A text of this kind was told, or there was no memory for it and nothing was.
abbrev pub TellsText : (List ℕ → Type 0) → Option (List ℕ) → Option (List ℕ) → ℕ → ℕ → ℕ → Type 0
TellsText IsText before after faults_before faults_after status =
    ((text : List ℕ) × IsText text × Tells before after faults_before faults_after text status)
    ⊎ ((status ≡ 7) × IsSilent before after faults_before faults_after)

-- It was told by this line with this status, or there was no memory for the line and nothing was.
abbrev pub SaysOrLacks : Option (List ℕ) → Option (List ℕ) → ℕ → ℕ → List ℕ → ℕ → ℕ → Type 0
SaysOrLacks before after faults_before faults_after line own status =
    ((status ≡ own) × Says before after faults_before faults_after line)
    ⊎ ((status ≡ 7) × IsSilent before after faults_before faults_after)

-- Why a volume is not looked at was told; of what is found there may be no memory for the line.
abbrev pub SaysWhy : Option (List ℕ) → Option (List ℕ) → ℕ → ℕ → Inspection → RecoverCause → ℕ → Type 0
SaysWhy before after faults_before faults_after asked why status =
    ((status ≡ status_of_inspected asked why) × Says before after faults_before faults_after (line_of_inspected asked why))
    ⊎ ((status ≡ 7) × IsSilent before after faults_before faults_after × (is_finding why ≡ true))
