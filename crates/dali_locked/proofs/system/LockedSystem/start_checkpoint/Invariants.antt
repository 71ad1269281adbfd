use Rattle.dali_locked.specs.SystemSteps.{starting_item}
use Rattle.dali_locked.proofs.system.LockedSystem.start_checkpoint.Given as goal

abbrev pub ghosts-tell : goal.ghosts-tell
ghosts-tell g a = record { item = starting_item a.about.now a.id a.after.now.state }
