use Rattle.dali_checkpoint.proofs.Far.{words_go, words_skip}
use Rattle.dali_checkpoint.proofs.laws.copied_words_make_steps.Goals as goal

pub returns : goal.returns
returns g c = record { copied = words_go g.V.Store; passed = words_skip g.V.Store }
