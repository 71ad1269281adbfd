-- Worked checkpoints that fail: the worked checkpoint, up to a fault in a copy, in the head, in the sync
-- or in the anchor's move; and one that is given up without a fault.
--     copy_fails, head_fails, sync_fails, turn_fails
--                              the steps; before the fault in a copy a region is skipped, and behind it the
--                              checkpoint is given up
--     starts_again             the steps: it is given up behind its first copy, and another one starts
--     FailsRight xs n          the vault is stopped behind the steps xs, and a crash image with n open gates came along
--                              them, from which a restart is right
--     StartsAgain              the other one is under way behind these, and a crash image came along them, from which
--                              a restart is right
--     WorkedFaults             so it is of each of the five; along a fault in the anchor's move comes the image
--                              that was current before, and the next one
use Rattle.std.specs.Prelude.{◌≡◌, ℕ, true, false, List, [], ◌∷◌, ◌++◌, take}
use Rattle.dali_record.specs.Files.{Files}
use Rattle.dali_runs.specs.Worked.{first_log, first_files}
use Rattle.dali_crash.specs.Checkpoints.{StoreStep, Starts, Keeps, Copies, Skips, CopyFails, HeadFails, SyncFails, TurnFails, Finishes, Point, Traced}
use Rattle.dali_crash.specs.StoreRuns.{CrashIsRightWith}
use Rattle.dali_crash.specs.Checkpointed.{no_head, checkpoint_start, checkpoint_steps}

-- the copy of region 0 stands, and stays up to date at the start's count, for the audit's begin is no block; what is read of region 1 is torn;
-- so the checkpoint is given up
abbrev pub copy_fails : List StoreStep
copy_fails = take 9 checkpoint_steps ++ Skips 0 4 ∷ CopyFails 1 (7 ∷ []) 1 ∷ Finishes ∷ []

abbrev pub head_fails : List StoreStep
head_fails = take 10 checkpoint_steps ++ HeadFails no_head 1 ∷ []

abbrev pub sync_fails : List StoreStep
sync_fails = take 16 checkpoint_steps ++ SyncFails 1 ∷ []

abbrev pub turn_fails : List StoreStep
turn_fails = take 17 checkpoint_steps ++ TurnFails 1 ∷ []

-- it is given up behind the copy of region 0, and another one starts, which skips that region
abbrev pub starts_again : List StoreStep
starts_again = take 8 checkpoint_steps ++ Finishes ∷ Starts ∷ Keeps ∷ Skips 0 4 ∷ Copies 1 4 ∷ []

pub record FailsRight (xs : List StoreStep) (gates : ℕ) : Type 0 where
  pub finish : Point
  pub crash : Files
  pub trace : Traced checkpoint_start first_files xs finish crash
  pub stopped : finish.core.vault.stopped ≡ true
  pub current : crash.gates ≡ gates
  pub right : CrashIsRightWith first_log finish.core crash

pub record StartsAgain : Type 0 where
  pub finish : Point
  pub crash : Files
  pub trace : Traced checkpoint_start first_files starts_again finish crash
  pub runs : finish.core.vault.stopped ≡ false
  pub under_way : finish.core.system.checking ≡ true
  pub right : CrashIsRightWith first_log finish.core crash

pub record WorkedFaults : Type 0 where
  pub copy : FailsRight copy_fails 0
  pub head : FailsRight head_fails 0
  pub sync : FailsRight sync_fails 0
  pub before_turn : FailsRight turn_fails 0
  pub behind_turn : FailsRight turn_fails 1
  pub again : StartsAgain
