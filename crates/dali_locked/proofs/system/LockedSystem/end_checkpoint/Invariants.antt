use Rattle.std.specs.Prelude.{[], ◌∷◌}
use Rattle.dali_crash.specs.Checkpoints.{Finishes}
use Rattle.dali_transcripts.specs.World.{EndsCheckpoint}
use Rattle.dali_concurrent.specs.Entries.{Did}
use Rattle.dali_concurrent.specs.Told.{OnSystem}
use Rattle.dali_locked.proofs.system.LockedSystem.end_checkpoint.Given as goal

abbrev pub ghosts-tell : goal.ghosts-tell
ghosts-tell g a = record { item = (Did EndsCheckpoint a.id, OnSystem a.after.now.state, Finishes ∷ []) }
