use Rattle.dali_concurrent.proofs.Round.{round_is_done_there, round_is_cut_there}
use Rattle.dali_concurrent.proofs.laws.a_closed_round_is_a_round.Goals as goal

pub returns : goal.returns
returns c = record {
  done = round_is_done_there;
  cut = round_is_cut_there;
}
