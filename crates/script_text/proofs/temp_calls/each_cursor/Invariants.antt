use Rattle.std.proofs.Common.{◌≡◌, ◌++◌, length, Some}
use Rattle.script_words.specs.Words.{◌>>=◌}
use Rattle.script_text.specs.Calls.{cursor_of, each_of}
use Rattle.script_text.proofs.temp_calls.each_cursor.Given as goal

-- those so far, and behind them those of the words that are left, are those of all words
abbrev pub invariant-loop-word : goal.invariant-loop-word
invariant-loop-word l = (each_of cursor_of l.words >>= λ others. Some (l.cursors ++ others)) ≡ each_of cursor_of l.initial.words

abbrev pub decreases-loop-word : goal.decreases-loop-word
decreases-loop-word l = length l.words
