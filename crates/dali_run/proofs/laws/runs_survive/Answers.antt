use Rattle.dali_run.proofs.Survived.{runs_survive}
use Rattle.dali_run.proofs.laws.runs_survive.Goals as goal

pub returns : goal.returns
returns g c =
    let met = g.met.V.Store in
    runs_survive g.V.Store met.reads_now met.counts_now
