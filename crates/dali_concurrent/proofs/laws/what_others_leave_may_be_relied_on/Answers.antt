use Rattle.dali_concurrent.proofs.Holds.{holds_are_told, hold_is_of_actor, none_is_live, dead_is_named, states_are_told, next_is_fresh, next_may_begin, actor_stays, look_stays}
use Rattle.dali_concurrent.proofs.Locking.{locks_are_told}
use Rattle.dali_concurrent.proofs.laws.what_others_leave_may_be_relied_on.Goals as goal

pub returns : goal.returns
returns c = record {
  holds = holds_are_told;
  actors = hold_is_of_actor;
  live = none_is_live;
  dead = dead_is_named;
  states = states_are_told;
  fresh = next_is_fresh;
  begins = next_may_begin;
  locks = locks_are_told;
  stays = actor_stays;
  looks = look_stays;
}
