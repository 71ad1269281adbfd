use Rattle.std.specs.Prelude.{[], ◌∷◌}
use Rattle.dali_runs.specs.Courses.{Locks, Refuses}
use Rattle.dali_crash.specs.Checkpoints.{Does}
use Rattle.dali_transcripts.specs.World.{GetsLock}
use Rattle.dali_concurrent.specs.Entries.{Did}
use Rattle.dali_concurrent.specs.Told.{OnSystem}
use Rattle.dali_locked.specs.SystemSteps.{deed_of}
use Rattle.dali_locked.proofs.system.LockedSystem.request.Given as goal

abbrev pub ghosts-tell : goal.ghosts-tell
ghosts-tell g a = record { item = (Did (GetsLock a.about.now.0 a.about.now.1 a.about.now.2) a.id, OnSystem a.after.now.state, Does (Locks a.about.now.0 a.about.now.1 a.about.now.2) ∷ []) }

abbrev pub ghosts-tell-2 : goal.ghosts-tell-2
ghosts-tell-2 g a = record { item = (Did (deed_of a.about.now.1 a.about.now.0) a.id, OnSystem a.after.now.state, Does (Refuses a.about.now.0.txn a.about.now.0.key a.about.now.0.mode a.about.now.0.holder) ∷ []) }
