use Rattle.dali_locked.specs.Regions.{pass_item}
use Rattle.dali_locked.proofs.region.LockedRegion.pass.Given as goal

abbrev pub ghosts-tell_pass : goal.ghosts-tell_pass
ghosts-tell_pass g a = record { item = pass_item a.number a.begin a.right }
