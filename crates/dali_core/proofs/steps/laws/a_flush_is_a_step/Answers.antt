use Rattle.dali_core.proofs.StepsLemmas.Steps.{flush_goes, flush_faults, flush_is_right_in}
use Rattle.dali_core.proofs.steps.laws.a_flush_is_a_step.Goals as goal

pub returns : goal.returns
returns g c = record { ok = flush_goes g.V.Store; fault = flush_faults g.V.Store; inside = flush_is_right_in g.V.Store }
