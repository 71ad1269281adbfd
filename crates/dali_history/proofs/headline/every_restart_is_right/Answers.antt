use Rattle.dali_history.proofs.HeadlineLemmas.Headline.{restart_is_right}
use Rattle.dali_history.proofs.headline.every_restart_is_right.Goals as goal

pub returns : goal.returns
returns c = restart_is_right
