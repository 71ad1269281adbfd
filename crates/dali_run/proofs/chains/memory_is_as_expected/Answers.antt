use Rattle.dali_run.proofs.Shown.{shows_expected}
use Rattle.dali_run.proofs.Verifying.{verifies}
use Rattle.dali_run.proofs.chains.memory_is_as_expected.Goals as goal

pub returns-clause-records : goal.returns-clause-records
returns-clause-records g c = shows_expected g.V.Store g.met.V.Store.reads_now

pub returns-clause-verifies : goal.returns-clause-verifies
returns-clause-verifies g c = verifies g.V.Store g.met.V.Store.reads_now
