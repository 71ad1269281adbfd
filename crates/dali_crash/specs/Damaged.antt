-- A crash of the worked run with damage: the log that is left is a history, although a block in it read the damage. A restart keeps the
-- transaction that read nothing, and deletes the one that read the damage, although its commit was acknowledged.
use Rattle.std.specs.Prelude.{◌≡◌, [], ◌∷◌}
use Rattle.dali_geometry.specs.Places.{formatted_image}
use Rattle.dali_record.specs.Epochs.{last_epoch}
use Rattle.dali_record.specs.Files.{Files}
use Rattle.dali_record.specs.Settled.{IsSoundAt}
use Rattle.dali_history.specs.Serial.{survivors}
use Rattle.dali_history.specs.Acknowledged.{IsDeletedByChain}
use Rattle.dali_runs.specs.Run.{log_in}
use Rattle.dali_runs.specs.Crashes.{NoneEscapes, IsAcknowledged}
use Rattle.dali_runs.specs.Courses.{Moment, CoreTraced}
use Rattle.dali_runs.specs.Worked.{small, first_log, start, damage, first_files}
use Rattle.dali_crash.specs.Restarts.{RestartsRight}

pub record DamagedRun : Type 0 where
  pub finish : Moment
  pub crash : Files
  pub trace : CoreTraced (start (formatted_image small)) first_files damage finish crash
  -- the look of transaction 2
  pub unsound : IsSoundAt (formatted_image small) (last_epoch (log_in crash)).records 3 → ⊥
  pub escapes : NoneEscapes (last_epoch (log_in crash)) finish.core
  pub right : RestartsRight first_log finish.core crash
  pub acknowledged : IsAcknowledged first_log finish.core 2
  pub survive : survivors (log_in crash) ≡ 1 ∷ []
  pub deleted : IsDeletedByChain (log_in crash) 2
