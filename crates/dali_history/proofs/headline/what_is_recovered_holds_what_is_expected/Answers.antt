use Rattle.dali_history.proofs.HeadlineLemmas.EpochByEpoch.{recovered_holds}
use Rattle.dali_history.proofs.headline.what_is_recovered_holds_what_is_expected.Goals as goal

pub returns : goal.returns
returns c = recovered_holds
