use Rattle.dali_store.proofs.Drops.{follows_none}
use Rattle.std.specs.Prelude.{⊤}
use Rattle.dali_trial.proofs.unsteady.UnsteadyStore.drop_log.Goals as goal

pub returns-clause-crash : goal.returns-clause-crash
returns-clause-crash g c = follows_none c.args._below (λ files. ⊤)
