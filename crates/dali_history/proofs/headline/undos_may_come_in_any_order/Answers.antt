use Rattle.dali_history.proofs.HeadlineLemmas.AnyOrder.{rolls_back, recovered_in_any_order}
use Rattle.dali_history.proofs.headline.undos_may_come_in_any_order.Goals as goal

pub returns : goal.returns
returns c = record { epoch = rolls_back; recovered = recovered_in_any_order }
