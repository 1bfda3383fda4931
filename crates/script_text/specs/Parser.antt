-- What a script is by the lines that were read of it and those that follow.
use Rattle.std.specs.Prelude.{ℕ, ◌+◌, List, ◌++◌, Option, Some, None, Ok, Err}
use Rattle.jet_base.specs.declared.ids.Session.{Session}
use Rattle.session_local.specs.declared.request.Request.{Request}
use Rattle.script_words.specs.Words.{lines_of}
use Rattle.script_text.specs.Grammar.{ScriptResult, numbered_from, requests_of}
use Rattle.script_text.specs.Parsed.{calls_of}

-- the calls of the lines that were read, how many these are, and the first of them that is outside the grammar
pub record LinesRead : Type 0 where
  pub calls : List (Session × Request)
  pub number : ℕ
  pub bad_line : Option ℕ

-- calls in front of those of the rest
abbrev pub with_calls : List (ℕ × Request) → ScriptResult → ScriptResult
with_calls front (Ok rest) = Ok (front ++ rest)
with_calls front (Err number) = Err number

-- what is left of a script behind so many lines
abbrev pub left_from : ℕ → List (List ℕ) → ScriptResult
left_from number lines = requests_of (numbered_from (number + 1) lines)

-- what the script is where these lines follow
abbrev pub result_with_lines : LinesRead → List (List ℕ) → ScriptResult
result_with_lines read lines = elim (read.bad_line) [
  | Some line ↦ Err line
  | None ↦ with_calls (calls_of read.calls) (left_from read.number lines)
]

-- what the script is where this text follows
abbrev pub result_with : LinesRead → List ℕ → ScriptResult
result_with read text = result_with_lines read (lines_of text)
