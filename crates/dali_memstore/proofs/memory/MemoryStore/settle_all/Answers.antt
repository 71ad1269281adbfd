use Rattle.dali_memstore.proofs.Events.{happened_push, quiet_cut, not_waiting}
use Rattle.dali_memstore.specs.declared.event.Event.TheVariants.{Cut}
use Rattle.dali_memstore.proofs.memory.MemoryStore.settle_all.Goals as goal

pub returns-then-is_pending_at_all-clause-history : goal.returns-then-is_pending_at_all-clause-history
returns-then-is_pending_at_all-clause-history c = happened_push (Cut c.args.choice) _ _ c.crash.ensures.history

pub returns-else-is_pending_at_all-clause-history : goal.returns-else-is_pending_at_all-clause-history
returns-else-is_pending_at_all-clause-history c = quiet_cut c.args.choice c.args.self.now.history (not_waiting _ (c.if-is_pending_at_all.ensures {u = tt}))
