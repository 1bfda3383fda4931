use Rattle.std.proofs.Common.{◌≡◌, length}
use Rattle.std.specs.Prelude.{◌&&◌}
use Rattle.std.specs.List.{list_all}
use Rattle.script_words.specs.Words.{are_distinct}
use Rattle.script_text.specs.Calls.{is_column_flag}
use Rattle.script_text.proofs.flags.are_column_flags.Given as goal

-- all words are so where those that are left are
abbrev pub invariant-loop-word : goal.invariant-loop-word
invariant-loop-word l = (list_all is_column_flag l.ahead && are_distinct l.ahead) ≡ (list_all is_column_flag l.words && are_distinct l.words)

abbrev pub decreases-loop-word : goal.decreases-loop-word
decreases-loop-word l = length l.ahead
