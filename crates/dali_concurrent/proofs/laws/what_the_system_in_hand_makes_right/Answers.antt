use Rattle.dali_concurrent.proofs.Sorts.{record_is_right, grant_is_right, claim_is_right}
use Rattle.dali_concurrent.proofs.Locking.{yields_right, finds_dead_right}
use Rattle.dali_concurrent.proofs.laws.what_the_system_in_hand_makes_right.Goals as goal

pub returns : goal.returns
returns c = record {
  logged = record_is_right;
  granted = grant_is_right;
  claimed = claim_is_right;
  yields = yields_right;
  dead = finds_dead_right;
}
