use Rattle.dali_claims.proofs.Moves.{begins}
use Rattle.dali_claims.proofs.claim.Claims.new.Goals as goal

pub of_words-requires : goal.of_words-requires
of_words-requires c = begins _ _
