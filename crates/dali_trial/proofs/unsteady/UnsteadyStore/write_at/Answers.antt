use Rattle.std.proofs.Common.{refl, arith}
use Rattle.dali_trial.proofs.unsteady.UnsteadyStore.write_at.Goals as goal

pub returns-in_err-length-clause-crash : goal.returns-in_err-length-clause-crash
returns-in_err-length-clause-crash g c = λ f left. (f, tt, record { torn = record { before = refl; after = refl; no_shorter = omega arith; no_longer = omega arith }; same = λ other is. refl })

pub returns-clause-crash : goal.returns-clause-crash
returns-clause-crash g c = λ f left. (f, tt, record { torn = record { before = refl; after = refl; no_shorter = omega arith; no_longer = omega arith }; same = λ other is. refl })
