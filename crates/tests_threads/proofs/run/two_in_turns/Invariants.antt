use Rattle.tests_threads.proofs.run.two_in_turns.Given as goal

-- the word that was just made
abbrev pub ghosts-take_turns : goal.ghosts-take_turns
ghosts-take_turns a = record { word = a.word }
