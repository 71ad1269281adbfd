use Rattle.dali_core.proofs.StepsLemmas.Steps.{header_goes, table_goes, head_faults}
use Rattle.dali_core.proofs.steps.laws.a_heads_write_is_a_step.Goals as goal

pub returns : goal.returns
returns g c = record { header = header_goes g.V.Store; table = table_goes g.V.Store; fault = head_faults g.V.Store }
