use Rattle.dali_run.proofs.Summarized.{summary_depends}
use Rattle.dali_run.proofs.laws.the_summary_follows_from_the_numbers.Goals as goal

pub returns : goal.returns
returns g c =
    let met = g.met.V.Store in
    summary_depends g.V.Store met.reads_now met.counts_now
