use Rattle.history_word.proofs.word.Word.give.Given as goal

abbrev pub ghosts-raise : goal.ghosts-raise
ghosts-raise a = record { to = a.to; count = a.faults }
