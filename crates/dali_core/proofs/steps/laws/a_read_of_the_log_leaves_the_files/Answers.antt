use Rattle.dali_core.proofs.StepsLemmas.Steps.{read_stays, read_faults}
use Rattle.dali_core.proofs.steps.laws.a_read_of_the_log_leaves_the_files.Goals as goal

pub returns : goal.returns
returns g c = record { ok = read_stays g.V.Store; fault = read_faults g.V.Store }
