use Rattle.dali_run.proofs.Going.{round_begins, rounds_begin}
use Rattle.dali_run.proofs.chains.rounds_begin_again.Goals as goal

pub returns-clause-round : goal.returns-clause-round
returns-clause-round g c = round_begins g.V.Store

pub returns-clause-rounds : goal.returns-clause-rounds
returns-clause-rounds g c = rounds_begin g.V.Store
