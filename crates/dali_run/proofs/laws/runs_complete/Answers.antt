use Rattle.dali_run.proofs.Completing.{runs_complete}
use Rattle.dali_run.proofs.laws.runs_complete.Goals as goal

pub returns : goal.returns
returns g c =
    let met = g.met.V.Store in
    λ limit precheck.
    runs_complete g.V.Store met.reads_now met.counts_now limit precheck
