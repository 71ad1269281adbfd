use Rattle.dali_concurrent.proofs.Calls.{head_fault_holds, sync_fault_holds, turn_fault_holds}
use Rattle.dali_concurrent.proofs.checkpoints.the_vault_is_there_behind_a_fault.Goals as goal

pub returns : goal.returns
returns g c = record {
  head = head_fault_holds g.V.Store;
  sync = sync_fault_holds g.V.Store;
  turn = turn_fault_holds g.V.Store;
}
