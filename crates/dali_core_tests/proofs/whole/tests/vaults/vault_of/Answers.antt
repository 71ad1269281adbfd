use Rattle.dali_log.proofs.Formats.{log_formatted}
use Rattle.dali_log.proofs.Anchors.{anchor_formatted}
use Rattle.dali_core_tests.proofs.whole.tests.vaults.vault_of.Goals as goal

pub new-requires-clause-closed : goal.new-requires-clause-closed
new-requires-clause-closed g c = log_formatted (g.V.Store.may_leave c.is_formatted.new.store) (g.V.Store.may_leave c.format.new.store) c.args.first.now.body c.in-Ok.end (g.V.Store.told c.is_formatted.new.store) (g.V.Store.told c.format.new.store) c.format.ensures.tells c.in-Ok.ensures.next c.in-Ok.ensures.acknowledged

pub new-requires-clause-anchored : goal.new-requires-clause-anchored
new-requires-clause-anchored g c = anchor_formatted (g.V.Store.may_leave c.is_formatted.new.store) (g.V.Store.may_leave c.format.new.store) c.args.first.now.body (g.V.Store.told c.is_formatted.new.store) (g.V.Store.told c.format.new.store) c.format.ensures.tells c.in-Ok.ensures.acknowledged
