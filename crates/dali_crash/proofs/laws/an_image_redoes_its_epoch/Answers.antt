use Rattle.dali_crash.proofs.Fitting.{redoes_the_epoch}
use Rattle.dali_crash.proofs.laws.an_image_redoes_its_epoch.Goals as goal

pub returns : goal.returns
returns c = redoes_the_epoch
