use Rattle.std.proofs.Common.{true}
use Rattle.dali_locked.specs.Regions.{logged_item, freed_item}
use Rattle.dali_locked.proofs.region.LockedRegion.commit_undo.Given as goal

abbrev pub ghosts-commit_undo_as-D-RegionItem : goal.ghosts-commit_undo_as-D-RegionItem
ghosts-commit_undo_as-D-RegionItem g a = record { item = logged_item a.client.now.id true a.plan.now.txn a.plan.now.operation a.system.now.served.state }

abbrev pub ghosts-commit_undo_as-E-RegionItem : goal.ghosts-commit_undo_as-E-RegionItem
ghosts-commit_undo_as-E-RegionItem g a = record { item = freed_item a.client.now.id a.self.now.number }
