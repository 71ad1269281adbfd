use Rattle.dali_words.proofs.Apart.{apart_commute}
use Rattle.dali_words.proofs.laws.effects_apart_commute.Goals as goal

pub returns : goal.returns
returns c = apart_commute
