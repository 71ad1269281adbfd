use Rattle.dali_concurrent.proofs.CallMoments.{flush_adds, write_adds, run_adds, sync_adds, turn_adds}
use Rattle.dali_concurrent.proofs.checkpoints.a_crash_inside_a_call_is_right.Goals as goal

pub returns : goal.returns
returns g c = record {
  flush = flush_adds g.V.Store;
  write = write_adds g.V.Store;
  run = run_adds g.V.Store;
  synced = sync_adds g.V.Store;
  turn = turn_adds g.V.Store;
}
