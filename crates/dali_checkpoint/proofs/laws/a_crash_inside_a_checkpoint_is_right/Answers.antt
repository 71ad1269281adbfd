use Rattle.dali_checkpoint.proofs.Moments.{start_right, copy_right, settle_right, certify_right, failure_right}
use Rattle.dali_checkpoint.proofs.laws.a_crash_inside_a_checkpoint_is_right.Goals as goal

pub returns : goal.returns
returns g c = record {
  start = start_right g.V.Store;
  copy = copy_right g.V.Store;
  settle = settle_right g.V.Store;
  certify = certify_right g.V.Store;
  failure = failure_right g.V.Store;
}
