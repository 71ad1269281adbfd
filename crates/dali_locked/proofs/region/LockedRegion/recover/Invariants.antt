use Rattle.dali_locked.specs.Dying.{recovered_item}
use Rattle.dali_locked.proofs.region.LockedRegion.recover.Given as goal

abbrev pub ghosts-sign_recovery : goal.ghosts-sign_recovery
ghosts-sign_recovery g a = record { item = recovered_item a.about.now.0 a.about.now.1 a.region.now }
