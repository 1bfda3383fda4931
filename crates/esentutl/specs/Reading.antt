-- Why a run stops early, and what each reason says before its line is printed.
use Rattle.std.specs.Prelude.{◌≡◌, ℕ, ◌<◌, ◌≤◌, List, [], codes, length, Option, Result, Ok, Err, IfSome}
use Rattle.jet_base.specs.declared.ids.Session.{Session}
use Rattle.session_local.specs.declared.request.Request.{Request}
use Rattle.script_text.specs.Grammar.{script_lines}
use Rattle.script_text.specs.Parsed.{calls_of}
use Rattle.script_text.specs.Parser.{LinesRead, result_with}
use Rattle.esentutl.specs.declared.reading.ReadScriptFault.{ReadScriptFault}
use Rattle.esentutl.specs.declared.reading.ReadScriptFault.TheVariants as fault
use Rattle.esentutl.specs.Words.{last_line, bad_line}
use Rattle.esentutl.specs.TopCall.{script_limit}

-- the source before a call and after it
pub record SourceChange : Type 0 where
  pub left_before : Option (List ℕ)
  pub left_after : Option (List ℕ)
  pub faults_before : ℕ
  pub faults_after : ℕ

-- a script that was read to its end, and is not too long
abbrev pub IsWholeScript : SourceChange → List ℕ → Type 0
IsWholeScript s text = (s.faults_after ≡ s.faults_before) × IfSome s.left_after (λ rest. rest ≡ []) × (length text ≤ script_limit)

-- over the text that the source gave: its calls, or why there are none
abbrev pub ReadsAs : SourceChange → List ℕ → Result (List (Session × Request)) ReadScriptFault → Type 0
ReadsAs s text (Ok lines) = IsWholeScript s text × (script_lines text ≡ Ok (calls_of lines))
ReadsAs s text (Err fault.Source) = s.faults_before < s.faults_after
ReadsAs s text (Err fault.TooLong) = (s.faults_after ≡ s.faults_before) × IfSome s.left_before (λ bytes. script_limit < length bytes)
ReadsAs s text (Err (fault.BadLine number)) = IsWholeScript s text × (script_lines text ≡ Err number)
ReadsAs s text (Err fault.Memory) = s.faults_after ≡ s.faults_before

-- what is known of the source's counts of faults where one piece of a script was asked for
abbrev pub CountsPiece : Result ℕ ReadScriptFault → ℕ → ℕ → Type 0
CountsPiece (Ok count) before now = now ≡ before
CountsPiece (Err fault.Source) before now = before < now
CountsPiece (Err fault.TooLong) before now = ⊥
CountsPiece (Err (fault.BadLine number)) before now = ⊥
CountsPiece (Err fault.Memory) before now = now ≡ before

-- what a script comes to where this is the rest of it
abbrev pub FinishesAs : LinesRead → List ℕ → Result (List (Session × Request)) ReadScriptFault → Type 0
FinishesAs read rest (Ok calls) = result_with read rest ≡ Ok (calls_of calls)
FinishesAs read rest (Err fault.Source) = ⊥
FinishesAs read rest (Err fault.TooLong) = ⊥
FinishesAs read rest (Err (fault.BadLine number)) = result_with read rest ≡ Err number
FinishesAs read rest (Err fault.Memory) = Unit {0}

-- the line that tells why, none for want of memory, and the status
abbrev pub line_of_fault : ReadScriptFault → List ℕ
line_of_fault fault.Source = last_line (codes "source")
line_of_fault fault.TooLong = last_line (codes "script too long")
line_of_fault (fault.BadLine number) = bad_line number
line_of_fault fault.Memory = []

abbrev pub status_of_fault : ReadScriptFault → ℕ
status_of_fault fault.Source = 5
status_of_fault fault.TooLong = 2
status_of_fault (fault.BadLine number) = 2
status_of_fault fault.Memory = 7
