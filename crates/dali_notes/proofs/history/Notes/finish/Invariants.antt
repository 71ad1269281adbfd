use Rattle.dali_notes.proofs.history.Notes.finish.Given as goal

abbrev pub ghosts-close : goal.ghosts-close
ghosts-close g a = record { count = a.board.now.key }
