use Rattle.std.specs.Prelude.{Some}
use Rattle.index_derive.specs.Steps.{entries_of_step}
use Rattle.history_word.proofs.word.Word.append.Given as goal

abbrev pub ghosts-grow : goal.ghosts-grow
ghosts-grow a = record { entries = entries_of_step (Some a.made.now) }
