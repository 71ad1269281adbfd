use Rattle.dali_checkpoint.proofs.Far.{run_goes_on, run_skips_on}
use Rattle.dali_checkpoint.proofs.laws.a_run_of_copies_makes_steps.Goals as goal

pub returns : goal.returns
returns g c = record { copied = run_goes_on g.V.Store; skipped = run_skips_on g.V.Store }
