use Rattle.std.specs.Prelude.{[], ◌∷◌}
use Rattle.dali_runs.specs.Steps.{audit_record}
use Rattle.dali_runs.specs.Courses.{AuditEnds}
use Rattle.dali_crash.specs.Checkpoints.{Does}
use Rattle.dali_transcripts.specs.World.{Logs}
use Rattle.dali_concurrent.specs.Entries.{Did}
use Rattle.dali_concurrent.specs.Told.{OnSystem}
use Rattle.dali_locked.proofs.system.LockedSystem.end_audit.Given as goal

abbrev pub ghosts-tell : goal.ghosts-tell
ghosts-tell g a = record { item = (Did (Logs (audit_record a.about.now.begin a.about.now.failing)) a.id, OnSystem a.after.now.state, Does (AuditEnds a.about.now.begin a.about.now.failing) ∷ []) }
