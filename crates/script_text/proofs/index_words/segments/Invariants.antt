use Rattle.std.proofs.Common.{◌≡◌, ◌++◌, length}
use Rattle.std.specs.List.{filter_map}
use Rattle.script_text.specs.Calls.{segment_of}
use Rattle.script_text.proofs.index_words.segments.Given as goal

-- those so far and those of the words that are left are those of all words
abbrev pub invariant-loop-word : goal.invariant-loop-word
invariant-loop-word l = l.made ++ filter_map segment_of l.ahead ≡ filter_map segment_of l.words

abbrev pub decreases-loop-word : goal.decreases-loop-word
decreases-loop-word l = length l.ahead
