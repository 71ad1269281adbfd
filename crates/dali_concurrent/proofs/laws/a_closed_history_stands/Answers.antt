use Rattle.dali_concurrent.proofs.Closed.{round_stands}
use Rattle.dali_concurrent.proofs.Rests.{none_holds}
use Rattle.dali_concurrent.proofs.laws.a_closed_history_stands.Goals as goal

pub returns : goal.returns
returns c = record {
  stands = round_stands;
  holds = none_holds;
}
