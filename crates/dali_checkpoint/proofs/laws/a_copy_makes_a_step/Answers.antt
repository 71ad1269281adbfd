use Rattle.dali_checkpoint.proofs.Calls.{copy_goes_on, skip_goes_on}
use Rattle.dali_checkpoint.proofs.laws.a_copy_makes_a_step.Goals as goal

pub returns : goal.returns
returns g c = record { copied = copy_goes_on g.V.Store; skipped = skip_goes_on g.V.Store }
