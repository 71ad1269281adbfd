use Rattle.dali_round.proofs.Made.{OverTo}
use Rattle.dali_round.proofs.rounds.are_over.Given as goal

abbrev pub invariant-loop-client : goal.invariant-loop-client
invariant-loop-client l = OverTo l.client-index l.clients
