use Rattle.dali_log.proofs.Fronts.{log_from_place, tail_from_place, bad_from_place}
use Rattle.dali_log.proofs.laws.a_log_goes_on_from_a_place.Goals as goal

pub returns : goal.returns
returns c = λ bytes L p has front. record {
  log = λ M e tail. log_from_place bytes L M p e front has tail;
  tail = λ M e log. tail_from_place bytes L M p e log front.place;
  bad = λ at bad. bad_from_place bytes L bad.0 p at front has bad.1;
}
