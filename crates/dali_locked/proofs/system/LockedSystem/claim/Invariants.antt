use Rattle.std.specs.Prelude.{[], ◌∷◌}
use Rattle.dali_runs.specs.Courses.{Claims as ClaimsIt}
use Rattle.dali_crash.specs.Checkpoints.{Does}
use Rattle.dali_transcripts.specs.World.{Claims}
use Rattle.dali_concurrent.specs.Entries.{Did}
use Rattle.dali_concurrent.specs.Told.{OnSystem}
use Rattle.dali_locked.proofs.system.LockedSystem.claim.Given as goal

abbrev pub ghosts-tell : goal.ghosts-tell
ghosts-tell g a = record { item = (Did (Claims a.about.now) a.id, OnSystem a.after.now.state, Does (ClaimsIt a.about.now) ∷ []) }
