use Rattle.dali_history.proofs.HeadlineLemmas.RestartsAgain.{gives_the_same, no_second_restart}
use Rattle.dali_history.proofs.HeadlineLemmas.NothingToFree.{recovered-restarted_history}
use Rattle.dali_history.proofs.headline.a_restart_may_be_stopped.Goals as goal

pub returns : goal.returns
returns c = record { same = gives_the_same; once = no_second_restart; image = recovered-restarted_history }
