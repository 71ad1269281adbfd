use Rattle.dali_concurrent.proofs.Own.{yields_by_own, gives_back_right, recovers_by_own}
use Rattle.dali_concurrent.proofs.refusals.what_a_client_has_makes_right.Goals as goal

pub returns : goal.returns
returns c = record {
  yields = yields_by_own;
  given = gives_back_right;
  recovers = recovers_by_own;
}
