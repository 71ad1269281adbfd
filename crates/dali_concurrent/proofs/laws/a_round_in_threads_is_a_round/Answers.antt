use Rattle.dali_concurrent.proofs.Leads.{outset_begins, round_is_led}
use Rattle.dali_concurrent.proofs.laws.a_round_in_threads_is_a_round.Goals as goal

pub returns : goal.returns
returns g c = record {
  begins = outset_begins g.V.Store;
  leads = round_is_led g.V.Store;
}
