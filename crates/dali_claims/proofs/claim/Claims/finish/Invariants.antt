use Rattle.dali_claims.proofs.claim.Claims.finish.Given as goal

abbrev pub ghosts-close : goal.ghosts-close
ghosts-close a = record { count = a.board.now.key.0; seats = a.board.now.key.1 }
