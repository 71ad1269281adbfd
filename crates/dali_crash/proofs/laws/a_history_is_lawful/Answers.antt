use Rattle.dali_crash.proofs.Starts.{history_is_lawful}
use Rattle.dali_crash.proofs.laws.a_history_is_lawful.Goals as goal

pub returns : goal.returns
returns c = history_is_lawful
