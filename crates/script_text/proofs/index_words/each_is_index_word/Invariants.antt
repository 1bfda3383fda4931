use Rattle.std.proofs.Common.{◌≡◌, length}
use Rattle.std.specs.List.{list_all}
use Rattle.script_text.specs.Calls.{is_index_word}
use Rattle.script_text.proofs.index_words.each_is_index_word.Given as goal

-- all words are so where those that are left are
abbrev pub invariant-loop-word : goal.invariant-loop-word
invariant-loop-word l = list_all is_index_word l.ahead ≡ list_all is_index_word l.words

abbrev pub decreases-loop-word : goal.decreases-loop-word
decreases-loop-word l = length l.ahead
