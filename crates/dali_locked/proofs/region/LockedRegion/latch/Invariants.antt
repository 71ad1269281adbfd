use Rattle.dali_locked.specs.Regions.{latch_item}
use Rattle.dali_locked.proofs.region.LockedRegion.latch.Given as goal

abbrev pub ghosts-tell_both : goal.ghosts-tell_both
ghosts-tell_both g a = record { item = latch_item a.id a.about.now.0 a.about.now.1 }
