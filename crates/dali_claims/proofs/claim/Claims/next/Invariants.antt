use Rattle.dali_claims.proofs.claim.Claims.next.Given as goal

abbrev pub ghosts-draw_one : goal.ghosts-draw_one
ghosts-draw_one a = record { count = a.board.now.key.0; seats = a.board.now.key.1 }
