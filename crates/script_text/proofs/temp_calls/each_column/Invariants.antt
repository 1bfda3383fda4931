use Rattle.std.proofs.Common.{◌≡◌, ◌++◌, length, Some}
use Rattle.script_words.specs.Words.{◌>>=◌}
use Rattle.script_text.specs.Calls.{each_of, temp_column_of}
use Rattle.script_text.proofs.temp_calls.each_column.Given as goal

-- those so far, and behind them those of the words that are left, are those of all words
abbrev pub invariant-loop-word : goal.invariant-loop-word
invariant-loop-word l = (each_of temp_column_of l.words >>= λ others. Some (l.columns ++ others)) ≡ each_of temp_column_of l.initial.words

abbrev pub decreases-loop-word : goal.decreases-loop-word
decreases-loop-word l = length l.words
