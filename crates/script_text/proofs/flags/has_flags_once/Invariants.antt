use Rattle.std.proofs.Common.{◌≡◌, length}
use Rattle.script_text.specs.Calls.{has_flags_once}
use Rattle.script_text.proofs.flags.has_flags_once.Given as goal

-- all words are so where those that are left are
abbrev pub invariant-loop-word : goal.invariant-loop-word
invariant-loop-word l = has_flags_once l.ahead ≡ has_flags_once l.words

abbrev pub decreases-loop-word : goal.decreases-loop-word
decreases-loop-word l = length l.ahead
