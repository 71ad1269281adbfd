use Rattle.std.specs.Prelude.{[], ◌∷◌, None}
use Rattle.dali_runs.specs.Courses.{GivesBack as GivesItBack}
use Rattle.dali_crash.specs.Checkpoints.{Does}
use Rattle.dali_transcripts.specs.World.{GivesBack}
use Rattle.dali_concurrent.specs.Entries.{Did}
use Rattle.dali_concurrent.specs.Told.{OnSystem}
use Rattle.dali_locked.proofs.system.LockedSystem.give_back.Given as goal

abbrev pub ghosts-tell : goal.ghosts-tell
ghosts-tell g a = record { item = (Did (GivesBack a.about.now None) a.id, OnSystem a.after.now.state, Does (GivesItBack a.about.now None) ∷ []) }
