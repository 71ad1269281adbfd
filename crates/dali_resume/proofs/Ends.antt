-- A log of three epochs behind a format.
use Rattle.std.proofs.Common.{refl}
use Rattle.dali_resume.specs.Ends.{EndsEpochs}

pub ends_epochs : EndsEpochs
ends_epochs = record {
  passes = refl;
  rolled = refl;
  next = refl;
  number = refl;
  first_wrong = refl;
  second_wrong = refl;
  older_named = refl;
  outlived = refl;
  given_again = refl;
}
