use Rattle.dali_record.proofs.Pushes.{IsLegalFor-push, IsLockLegal-push}
use Rattle.dali_record.proofs.laws.one_more_allowed_record.Goals as goal

pub returns : goal.returns
returns c = record { legal = IsLegalFor-push; locks = IsLockLegal-push }
