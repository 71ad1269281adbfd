use Rattle.dali_concurrent.proofs.Beside.{others_leave_be}
use Rattle.dali_concurrent.proofs.laws.others_leave_its_transaction_be.Goals as goal

pub returns : goal.returns
returns c = others_leave_be
