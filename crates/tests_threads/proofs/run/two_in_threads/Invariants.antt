use Rattle.tests_threads.proofs.run.two_in_threads.Given as goal

-- the word that was just made
abbrev pub ghosts-append_in_threads : goal.ghosts-append_in_threads
ghosts-append_in_threads g a = record { word = a.word }
