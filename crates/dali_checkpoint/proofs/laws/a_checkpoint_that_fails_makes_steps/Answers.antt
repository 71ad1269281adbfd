use Rattle.dali_checkpoint.proofs.Faults.{start_faults, copy_faults_end, run_faults_end, settle_faults, certify_faults, failure_ends, gave_up}
use Rattle.dali_checkpoint.proofs.laws.a_checkpoint_that_fails_makes_steps.Goals as goal

pub returns : goal.returns
returns g c = record {
  start = start_faults g.V.Store;
  copy = copy_faults_end g.V.Store;
  run = run_faults_end g.V.Store;
  settle = settle_faults g.V.Store;
  certify = certify_faults g.V.Store;
  audit = failure_ends g.V.Store;
  given_up = gave_up g.V.Store;
}
