use Rattle.std.proofs.Common.{sym, refl, ◌∙◌}
use Rattle.dali_recovery.proofs.Epochs.{hands_out}
use Rattle.dali_recovery.proofs.Ordered.{hands_ordered}
use Rattle.dali_recovery.proofs.recovery.Recovery.finish.Goals as goal

pub returns-clause-ok : goal.returns-clause-ok
returns-clause-ok c = hands_out c.args.self _ c.recover.new.redo (sym c.is_unscanned.ensures ∙ c.if-is_unscanned.false) c.in_ok-rolled_back.ensures.ok c.recover.ensures c.into_regions.ensures.words refl refl

pub returns-clause-ordered : goal.returns-clause-ordered
returns-clause-ordered c = hands_ordered c.args.self _ c.recover.new.redo c.in_ok-rolled_back.ensures.ordered c.recover.ensures c.into_regions.ensures.whole refl
