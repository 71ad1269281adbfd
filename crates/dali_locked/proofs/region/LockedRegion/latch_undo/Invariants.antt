use Rattle.dali_locked.specs.Regions.{latch_item}
use Rattle.dali_locked.proofs.region.LockedRegion.latch_undo.Given as goal

abbrev pub ghosts-latch_undo_as : goal.ghosts-latch_undo_as
ghosts-latch_undo_as g a = record { item = latch_item a.client.now.id a.self.now.number a.plan.now.txn }
