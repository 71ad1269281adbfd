use Rattle.dali_run.proofs.Unpoked.{unpoked_shows, unpoked_verifies}
use Rattle.dali_run.proofs.laws.what_nobody_poked_is_as_expected.Goals as goal

pub returns-clause-shows : goal.returns-clause-shows
returns-clause-shows g c =
    let met = g.met.V.Store in unpoked_shows g.V.Store met.reads_now met.counts_now

pub returns-clause-verifies : goal.returns-clause-verifies
returns-clause-verifies g c =
    let met = g.met.V.Store in unpoked_verifies g.V.Store met.reads_now met.counts_now
