use Rattle.dali_concurrent.proofs.Sorts.{system_lands, both_land, region_lands, region_steps_land, flush_lands, frame_stays, fault_lands}
use Rattle.dali_concurrent.proofs.laws.a_step_of_the_value_in_hand_lands.Goals as goal

pub returns : goal.returns
returns c = record {
  system = system_lands;
  both = both_land;
  region = region_lands;
  steps = region_steps_land;
  flush = flush_lands;
  frame = frame_stays;
  fault = fault_lands;
}
