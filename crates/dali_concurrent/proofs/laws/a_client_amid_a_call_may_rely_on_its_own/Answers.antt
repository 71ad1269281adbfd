use Rattle.dali_concurrent.proofs.Amid.{own_hold_is_seen, none_live_is_seen, own_hold_stays, dead_is_seen, freed_stays_free}
use Rattle.dali_concurrent.proofs.Beside.{others_log}
use Rattle.dali_concurrent.proofs.Held.{held_region_stays}
use Rattle.dali_concurrent.proofs.laws.a_client_amid_a_call_may_rely_on_its_own.Goals as goal

pub returns : goal.returns
returns c = record {
  hold = own_hold_is_seen;
  none = none_live_is_seen;
  stays = own_hold_stays;
  region = held_region_stays;
  others = others_log;
  dead = dead_is_seen;
  freed = freed_stays_free;
}
