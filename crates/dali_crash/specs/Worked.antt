-- A worked run. A store of one index region and one heap region is formatted; transaction 1 begins, commits without a call and is taken to be flushed; transaction 2 begins. Then
-- the first one is flushed; transaction 2 gets a shared lock on key 5, looks for it in region 0, finds nothing and is answered so.
--     look                     the block of the look
--     steps                    the steps
--     WorkedRun                a crash image that came along them has the first commit, and restarts right
use Rattle.std.specs.Prelude.{◌≡◌, List, [], ◌∷◌, replicate}
use Rattle.dali_geometry.specs.Places.{formatted_image}
use Rattle.dali_record.specs.declared.operations.Block.{Block}
use Rattle.dali_record.specs.declared.operations.Op.TheVariants.{Look}
use Rattle.dali_record.specs.declared.records.Call.TheVariants.{Get}
use Rattle.dali_record.specs.declared.records.Answer.TheVariants.{Missing}
use Rattle.dali_record.specs.declared.records.Record.TheVariants.{Format, Begin, Forward, Done, Commit}
use Rattle.dali_record.specs.Blocks.{made}
use Rattle.dali_record.specs.Files.{Files}
use Rattle.dali_locks.specs.declared.mode.Mode.TheVariants.{Shared}
use Rattle.dali_runs.specs.Regions.{Latch, NoteReads}
use Rattle.dali_runs.specs.Crashes.{IsAcknowledged}
use Rattle.dali_runs.specs.Courses.{Step, Begins, Operates, Answers, Commits, Locks, OnRegion, Takes, Flushes, Moment, CoreTraced}
use Rattle.dali_runs.specs.Worked.{small, first_log, start, first_files}
use Rattle.dali_crash.specs.Restarts.{RestartsRight}

-- the look finds nothing
unfoldable pub look : Block
look = made (replicate 64 0) 5 0 Look

abbrev pub steps : List Step
steps =
    Begins ∷ Commits 1 ∷ Takes ∷ Begins ∷ Flushes
    ∷ Locks 2 5 Shared ∷ OnRegion 0 (Latch 2) ∷ OnRegion 0 (NoteReads look.read) ∷ Operates 2 look ∷ Answers 2 (Get 5) Missing ∷ []

pub record WorkedRun : Type 0 where
  pub finish : Moment
  pub log : finish.log ≡ Format 1 1 ∷ Begin 1 ∷ Commit 1 ∷ Begin 2 ∷ Forward 2 look ∷ Done 2 (Get 5) Missing ∷ []
  pub acknowledged : IsAcknowledged first_log finish.core 1
  pub crash : Files
  pub trace : CoreTraced (start (formatted_image small)) first_files steps finish crash
  pub right : RestartsRight first_log finish.core crash
