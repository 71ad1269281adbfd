use Rattle.dali_runs.proofs.FactsLemmas.Begun.{holds_the_begun}
use Rattle.dali_runs.proofs.facts.a_run_holds_the_begun.Goals as goal

pub returns : goal.returns
returns c = holds_the_begun
