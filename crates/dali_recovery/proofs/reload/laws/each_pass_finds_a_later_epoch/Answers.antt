use Rattle.dali_recovery.proofs.ReloadLemmas.Passes.{finds_later}
use Rattle.dali_recovery.proofs.reload.laws.each_pass_finds_a_later_epoch.Goals as goal

pub returns : goal.returns
returns c = finds_later
