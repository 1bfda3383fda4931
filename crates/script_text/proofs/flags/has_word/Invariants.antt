use Rattle.std.proofs.Common.{◌≡◌, length}
use Rattle.script_words.specs.Words.{has_word}
use Rattle.script_text.proofs.flags.has_word.Given as goal

-- the word stands among all words where it stands among those that are left
abbrev pub invariant-loop-word : goal.invariant-loop-word
invariant-loop-word l = has_word l.expected l.ahead ≡ has_word l.expected l.words

abbrev pub decreases-loop-word : goal.decreases-loop-word
decreases-loop-word l = length l.ahead
