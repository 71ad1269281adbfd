use Rattle.std.specs.Prelude.{[]}
use Rattle.dali_transcripts.specs.Words.{StoppedBy}
use Rattle.dali_transcripts.specs.World.{Meets}
use Rattle.dali_concurrent.specs.Entries.{Did}
use Rattle.dali_concurrent.specs.Told.{Leaves}
use Rattle.dali_locked.proofs.system.LockedSystem.meet_stop.Given as goal

abbrev pub ghosts-tell : goal.ghosts-tell
ghosts-tell g a = record { item = (Did (Meets (StoppedBy a.about.now)) a.id, Leaves, []) }
