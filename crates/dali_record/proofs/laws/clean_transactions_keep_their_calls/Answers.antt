use Rattle.dali_record.proofs.Keeping.{calls_of-clean}
use Rattle.dali_record.proofs.laws.clean_transactions_keep_their_calls.Goals as goal

pub returns : goal.returns
returns c = calls_of-clean
