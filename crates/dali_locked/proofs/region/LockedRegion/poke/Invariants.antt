use Rattle.dali_locked.specs.Regions.{stray_item}
use Rattle.dali_locked.proofs.region.LockedRegion.poke.Given as goal

abbrev pub ghosts-tell_both : goal.ghosts-tell_both
ghosts-tell_both g a = record { item = stray_item a.id a.about.now.0 a.about.now.1 a.about.now.2 }
