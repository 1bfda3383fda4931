-- A script from its bytes to its transcript's bytes, over the definitions, where every line is served.
use Rattle.std.specs.Prelude.{ℕ, List, [], ◌∷◌, ◌++◌, Ok, Err}
use Rattle.session_local.specs.Answer.{Row}
use Rattle.session_local.specs.Run.{served_rows}
use Rattle.script_text.specs.Grammar.{ScriptResult, script_lines}
use Rattle.script_transcript.specs.TranscriptLine.{transcript_of}
use Rattle.script_text.specs.Computing as script
use Rattle.session_local.specs.Computing as engine

-- the rows of a run from an empty database, none where a line is outside the grammar
abbrev pub rows_of_lines : ℕ → ScriptResult → List Row
rows_of_lines limit (Ok lines) = served_rows limit lines
rows_of_lines limit (Err number) = []

abbrev pub script_rows : ℕ → List ℕ → List Row
script_rows limit script = rows_of_lines limit (script_lines script)

-- The transcript of a script that is run in order, with this limit of the version store's span.
abbrev pub script_transcript : ℕ → List ℕ → List ℕ
script_transcript limit script = transcript_of (script_rows limit script)

-- the lines of a script or a transcript, each ended by byte 0A
abbrev pub text_of : List (List ℕ) → List ℕ
text_of [] = []
text_of (line ∷ lines) = line ++ 10 ∷ text_of lines

-- opens all that a run computes with
unfoldable pub running : Unit {0}
unfolding script.computing engine.computing
running = tt
