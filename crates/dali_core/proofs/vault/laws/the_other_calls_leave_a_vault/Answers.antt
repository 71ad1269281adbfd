use Rattle.dali_core.proofs.VaultLemmas.Stepped.{turn_is_counted, others_leave}
use Rattle.dali_core.proofs.vault.laws.the_other_calls_leave_a_vault.Goals as goal

pub returns : goal.returns
returns g c = record { turn = turn_is_counted g.V.Store.faults; others = others_leave g.V.Store.faults }
