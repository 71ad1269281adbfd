use Rattle.dali_concurrent.proofs.Refused.{refusal_lands, stopped_for, full_for, damaged_for, under_way_for}
use Rattle.dali_concurrent.proofs.refusals.refusals_land.Goals as goal

pub returns : goal.returns
returns c = record {
  lands = refusal_lands;
  stopped = stopped_for;
  full = full_for;
  damaged = damaged_for;
  under_way = under_way_for;
}
