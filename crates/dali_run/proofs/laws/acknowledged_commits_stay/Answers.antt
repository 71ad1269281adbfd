use Rattle.dali_run.proofs.Durable.{acknowledged_stay}
use Rattle.dali_run.proofs.laws.acknowledged_commits_stay.Goals as goal

pub returns : goal.returns
returns g c =
    let met = g.met.V.Store in
    acknowledged_stay g.V.Store met.reads_now met.counts_now met.only_now
