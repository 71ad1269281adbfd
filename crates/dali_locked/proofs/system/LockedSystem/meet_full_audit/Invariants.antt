use Rattle.std.specs.Prelude.{[]}
use Rattle.dali_transcripts.specs.Words.{Full}
use Rattle.dali_transcripts.specs.World.{Meets}
use Rattle.dali_concurrent.specs.Entries.{Did}
use Rattle.dali_concurrent.specs.Told.{Leaves}
use Rattle.dali_locked.proofs.system.LockedSystem.meet_full_audit.Given as goal

abbrev pub ghosts-tell : goal.ghosts-tell
ghosts-tell g a = record { item = (Did (Meets (Full a.about.now.0 a.about.now.1)) a.id, Leaves, []) }
