use Rattle.dali_locked.specs.Dying.{gives_item}
use Rattle.dali_locked.proofs.region.LockedRegion.give_back.Given as goal

abbrev pub ghosts-sign_death : goal.ghosts-sign_death
ghosts-sign_death g a = record { item = gives_item a.about.now.0 a.about.now.1 a.about.now.2 a.after.now.state }
