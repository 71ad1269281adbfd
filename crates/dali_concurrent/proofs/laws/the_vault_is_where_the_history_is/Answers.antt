use Rattle.dali_concurrent.proofs.Starts.{vault_starts}
use Rattle.dali_concurrent.proofs.Calls.{flush_holds, fault_holds}
use Rattle.dali_concurrent.proofs.Stored.{vault_meets, none_in_hand_meets}
use Rattle.dali_concurrent.proofs.laws.the_vault_is_where_the_history_is.Goals as goal

pub returns : goal.returns
returns g c = record {
  starts = vault_starts g.V.Store;
  meets = vault_meets g.V.Store;
  taken = none_in_hand_meets g.V.Store;
  flush = flush_holds g.V.Store;
  fault = fault_holds g.V.Store;
}
