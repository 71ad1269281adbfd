use Rattle.dali_record.proofs.Pushes.{undos_of_push, calls_of_push, committed_push, txn_state_push, state_stays}
use Rattle.dali_record.proofs.laws.one_more_record_of_a_transaction.Goals as goal

pub returns : goal.returns
returns c = record {
  undos = undos_of_push;
  calls = calls_of_push;
  commits = committed_push;
  state = txn_state_push;
  others = state_stays;
}
