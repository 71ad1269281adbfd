use Rattle.dali_locked.specs.RegionWords.{word_item}
use Rattle.dali_locked.proofs.region.LockedRegion.update_undo.Given as goal

abbrev pub ghosts-update_undo_as : goal.ghosts-update_undo_as
ghosts-update_undo_as g a = record { item = word_item a.client.now.id a.self.now.number a.self.now.region }
