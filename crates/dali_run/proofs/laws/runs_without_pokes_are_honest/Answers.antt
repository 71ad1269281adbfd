use Rattle.dali_run.proofs.Honest.{runs_are_honest}
use Rattle.dali_run.proofs.Unharmed.{cores_are_honest, rounds_are_honest}
use Rattle.dali_run.proofs.laws.runs_without_pokes_are_honest.Goals as goal

pub returns-clause-cores : goal.returns-clause-cores
returns-clause-cores g c = cores_are_honest g.V.Store

pub returns-clause-runs : goal.returns-clause-runs
returns-clause-runs g c =
    let met = g.met.V.Store in
    runs_are_honest g.V.Store met.reads_now met.counts_now

pub returns-clause-rounds : goal.returns-clause-rounds
returns-clause-rounds g c = rounds_are_honest g.V.Store
