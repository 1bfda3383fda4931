use Rattle.std.proofs.Common.{◌≡◌, ◌+◌, ◌≤◌, ◌++◌, ◌∷◌, None, ℕ, List, length}
use Rattle.script_words.specs.Words.{lines_of}
use Rattle.script_text.specs.Parser.{result_with, result_with_lines}
use Rattle.script_text.proofs.parser.ScriptParser.feed.Given as goal

-- the lines that were read and those that are left are those of the text
abbrev pub invariant-loop-line : goal.invariant-loop-line
invariant-loop-line l = record {
  read : (rest : List ℕ) → result_with_lines (record { calls = l.self-inside.kept.calls; number = l.self-inside.number; bad_line = None }) (l.lines ++ lines_of rest) ≡ result_with l.fn.self (l.text ++ 10 ∷ rest);
  good : l.self-inside.bad_line ≡ None;
  number : l.self-inside.number + length l.lines ≤ l.fn.self.number + length l.text + 1;
}

abbrev pub decreases-loop-line : goal.decreases-loop-line
decreases-loop-line l = length l.lines
