use Rattle.dali_memstore.proofs.Events.{happened_push, quiet_sync, not_waiting}
use Rattle.dali_memstore.specs.declared.event.Event.TheVariants.{Synced}
use Rattle.dali_memstore.proofs.memory.MemoryStore.settle.Goals as goal

pub returns-then-is_pending-clause-history : goal.returns-then-is_pending-clause-history
returns-then-is_pending-clause-history c = happened_push (Synced c.args.file) _ _ c.keep.ensures.history

pub returns-else-is_pending-clause-history : goal.returns-else-is_pending-clause-history
returns-else-is_pending-clause-history c = quiet_sync c.args.file c.args.self.now.history (not_waiting _ (c.if-is_pending.ensures {u = tt}))
