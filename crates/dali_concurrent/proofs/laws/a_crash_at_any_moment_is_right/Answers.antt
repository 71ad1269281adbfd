use Rattle.dali_concurrent.proofs.Moments.{moments_begin, moments_go_on, moments_meet, call_adds, flush_leaves_right, history_leaves_right}
use Rattle.dali_concurrent.proofs.laws.a_crash_at_any_moment_is_right.Goals as goal

pub returns : goal.returns
returns g c = record {
  begins = moments_begin g.V.Store;
  further = moments_go_on g.V.Store;
  meets = moments_meet g.V.Store;
  call = call_adds g.V.Store;
  flush = flush_leaves_right g.V.Store;
  closed = history_leaves_right g.V.Store;
}
