use Rattle.dali_during.proofs.Lives.{nobody_is_deleted}
use Rattle.dali_during.proofs.laws.nobody_is_deleted_in_any_life.Goals as goal

pub returns : goal.returns
returns c = nobody_is_deleted
