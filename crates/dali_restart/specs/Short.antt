-- The record of a restart fits a batch.
--     DoesNotFit fs o          these files are read as o, the record of the restart is due, and it would have more than 2^30 bytes
--     IsShortRestart           what the log of files that are found says makes a record of at most 2^30 bytes
use Rattle.std.specs.Prelude.{◌≡◌, ◌≤◌, ◌<◌, ◌^◌, false, length}
use Rattle.dali_record.specs.Files.{Files}
use Rattle.dali_record.specs.Log.{last_of}
use Rattle.dali_store.specs.Store.{Files as Disk}
use Rattle.dali_resume.specs.Again.{Outcome}
use Rattle.dali_resume.specs.Batches.{records_of}
use Rattle.dali_resume.specs.Rules.{ends_restarted}
use Rattle.dali_resume.specs.Interrupted.Found.{FindsIt}
use Rattle.dali_restart.specs.Renewal.Logged.{restart_length}
use Rattle.dali_restart.specs.Restarting.{IsReadAs, told_by}

abbrev pub IsShortRestart : Type 0
IsShortRestart = (F : Files) → FindsIt F → restart_length (told_by F).rolled (told_by F).deleted ≤ 2 ^ 30

-- it is due where a record stands behind the image, and the last is none of a restart
pub record DoesNotFit (fs : Disk) (o : Outcome) : Type 0 where
  pub is : IsReadAs fs o
  pub some : 0 < length (records_of is.batches)
  pub last : ends_restarted (last_of (records_of is.batches)) ≡ false
  pub long : 2 ^ 30 < restart_length o.rolled o.deleted
