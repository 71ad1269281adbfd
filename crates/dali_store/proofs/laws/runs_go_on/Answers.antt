use Rattle.std.specs.Prelude.{IsTrue}
use Rattle.dali_store.proofs.Moments.{a_run_goes_on}
use Rattle.dali_store.proofs.laws.runs_go_on.Goals as goal

pub returns : goal.returns
returns g c = λ test. a_run_goes_on g.V.Store.moment g.V.Store.left_since (λ files. IsTrue (test files))
