use Rattle.dali_crash.proofs.Starts.{restart_starts}
use Rattle.dali_crash.proofs.Closing.{lawful_restarts}
use Rattle.dali_crash.proofs.laws.a_restart_starts_a_run.Goals as goal

pub returns : goal.returns
returns c = record { starts = restart_starts; lawful = lawful_restarts }
