use Rattle.dali_run.proofs.Keeping.{acknowledged_survive}
use Rattle.dali_run.proofs.laws.acknowledged_commits_survive.Goals as goal

pub returns : goal.returns
returns g c =
    let met = g.met.V.Store in
    acknowledged_survive g.V.Store met.reads_now met.counts_now met.only_now
