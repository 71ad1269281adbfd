use Rattle.dali_concurrent.proofs.Idle.{round_may_begin, idle_round_ends}
use Rattle.dali_concurrent.proofs.examples.an_idle_round_ends.Goals as goal

pub returns : goal.returns
returns g c = record {
  begins = round_may_begin g.V.Store;
  ends = idle_round_ends g.V.Store;
}
