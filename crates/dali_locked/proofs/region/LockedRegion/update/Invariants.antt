use Rattle.dali_locked.specs.RegionWords.{word_item}
use Rattle.dali_locked.proofs.region.LockedRegion.update.Given as goal

abbrev pub ghosts-write : goal.ghosts-write
ghosts-write g a = record { item = word_item a.by.0 a.by.1 a.region.now }
