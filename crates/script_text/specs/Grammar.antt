-- The grammar of a script, byte by byte, and the first line that is outside it.
use Rattle.std.specs.Prelude.{ℕ, ◌+◌, Bool, true, ◌==◌, if◌then◌else◌, List, [], ◌∷◌, Option, Some, None, Result, Ok, Err}
use Rattle.session_local.specs.declared.request.Request.{Request}
use Rattle.script_words.specs.Words.{◌>>=◌, first_word, lines_of, words_of, label_of}
use Rattle.script_text.specs.Calls.{named_call}

-- whether a line says nothing: an empty one, and one that begins with `#` (byte 23), whatever its bytes
abbrev pub is_skipped : List ℕ → Bool
is_skipped [] = true
is_skipped (first ∷ bytes) = first == 35

-- the lines that say something, each with its number: every line counts, from the number given
abbrev pub numbered_from : ℕ → List (List ℕ) → List (ℕ × List ℕ)
numbered_from number [] = []
numbered_from number (line ∷ lines) = if is_skipped line then numbered_from (number + 1) lines else (number, line) ∷ numbered_from (number + 1) lines

-- the same of a whole script, whose first line is number 1
abbrev pub said_lines : List ℕ → List (ℕ × List ℕ)
said_lines bytes = numbered_from 1 (lines_of bytes)

-- the words of a line: the label of a session, the name of a call, and the words of that call
unfoldable pub words_request : List (List ℕ) → Option (ℕ × Request)
words_request words = do
  first ← first_word words
  second ← first_word first.1
  session ← label_of first.0
  request ← named_call second.0 second.1
  Some (session, request)

-- a line: who calls, and what
unfoldable pub line_request : List ℕ → Option (ℕ × Request)
line_request line = words_request (words_of line)

-- what a script, or the rest of one, is: its calls, or the number of the first bad line
abbrev pub ScriptResult : Type 0
ScriptResult = Result (List (ℕ × Request)) ℕ

-- one more call in front of those of the rest
abbrev pub with_front : ℕ × Request → ScriptResult → ScriptResult
with_front first (Ok others) = Ok (first ∷ others)
with_front first (Err number) = Err number

-- the calls of numbered lines, or the first of their numbers whose line is outside the grammar
abbrev pub requests_of : List (ℕ × List ℕ) → ScriptResult
requests_of [] = Ok []
requests_of ((number, line) ∷ lines) = elim (line_request line) [
  | None ↦ Err number
  | Some request ↦ with_front request (requests_of lines)
]

-- the calls of a script in order, or the number of its first bad line
abbrev pub script_lines : List ℕ → ScriptResult
script_lines bytes = requests_of (said_lines bytes)
