use Rattle.dali_history.proofs.HeadlineLemmas.KeptEpochs.{history_is_kept}
use Rattle.dali_history.proofs.headline.kept_as_the_law_asks.Goals as goal

pub returns : goal.returns
returns c = history_is_kept
