use Rattle.std.specs.Prelude.{[], ◌∷◌}
use Rattle.dali_record.specs.declared.records.Record.TheVariants.{AuditBegin}
use Rattle.dali_runs.specs.Courses.{AuditBegins}
use Rattle.dali_crash.specs.Checkpoints.{Does}
use Rattle.dali_transcripts.specs.World.{Logs}
use Rattle.dali_concurrent.specs.Entries.{Did}
use Rattle.dali_concurrent.specs.Told.{OnSystem}
use Rattle.dali_locked.proofs.system.LockedSystem.begin_audit.Given as goal

abbrev pub ghosts-tell : goal.ghosts-tell
ghosts-tell g a = record { item = (Did (Logs AuditBegin) a.id, OnSystem a.after.now.state, Does AuditBegins ∷ []) }
