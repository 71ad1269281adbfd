-- A worked run behind a restart. The store of the worked checkpoint was stopped behind its first transaction, and restarted: the image stands
-- before the record of the restart, and the anchor has moved to it. Transaction 2 then inserts key 5, commits and is flushed. So a crash
-- leaves records that a restart redoes over the image.
--     restarted_log, restarted_rules, restarted_vault      the log that the restart left, what the rules keep of it, and the vault
--     put, add                 the blocks of the insert, behind the look of the worked run
--     inserts                  the steps
--     restarted_from, restarted_files      what is known of the store right after the restart, and its files
--     WorkedRestart            the log is a history, and its files are those of a restart; a crash image that came along the steps has the
--                              restart's image with records behind it, and restarts right
use Rattle.std.specs.Prelude.{◌≡◌, ℕ, true, false, List, [], ◌∷◌, ◌++◌, Some, map, replicate}
use Rattle.dali_geometry.specs.Places.{formatted_image}
use Rattle.dali_record.specs.declared.operations.Block.{Block}
use Rattle.dali_record.specs.declared.operations.Op.TheVariants.{Put, Add}
use Rattle.dali_record.specs.declared.records.Call.TheVariants.{Insert}
use Rattle.dali_record.specs.declared.records.Answer.TheVariants.{Ok as AnswerOk}
use Rattle.dali_record.specs.declared.records.Record.{Record}
use Rattle.dali_record.specs.declared.records.Record.TheVariants.{Format, Begin, Forward, Done, Commit, Ended, Restarted}
use Rattle.dali_record.specs.Blocks.{made}
use Rattle.dali_record.specs.Epochs.{last_epoch}
use Rattle.dali_record.specs.Legal.{Rules, sizes_of, rules_state}
use Rattle.dali_record.specs.Files.{Files}
use Rattle.dali_locks.specs.declared.mode.Mode.TheVariants.{Exclusive}
use Rattle.dali_history.specs.Serial.{survivors}
use Rattle.dali_history.specs.History.{IsHistory}
use Rattle.dali_runs.specs.State.{VaultState}
use Rattle.dali_runs.specs.Run.{log_in}
use Rattle.dali_runs.specs.Courses.{Step, Begins, Operates, Answers, Commits, Locks, Takes, Flushes}
use Rattle.dali_runs.specs.Worked.{small, touching, stored, first_log}
use Rattle.dali_crash.specs.Fitting.{recover_from}
use Rattle.dali_crash.specs.Checkpoints.{Does, Point, Traced}
use Rattle.dali_crash.specs.StoreRuns.{CrashIsRightWith}
use Rattle.dali_crash.specs.Worked.{look}
use Rattle.dali_crash.specs.Checkpointed.{no_head, moved_files, txn_batch}
use Rattle.dali_crash.specs.Traces.{IsFreshImage, Start, start_point}

-- ---- what the restart left
abbrev pub closed_log : List Record
closed_log = Format 1 1 ∷ Begin 1 ∷ Commit 1 ∷ Ended 1 ∷ []

abbrev pub restarted_log : List Record
restarted_log = closed_log ++ Restarted [] [] ∷ []

abbrev pub restarted_rules : Rules
restarted_rules = record { count = 5; weight = 46; next = 2; audits = []; closed = []; failed = false; restarted = true }

-- three batches, of 15, 32 and 14 bytes
abbrev pub restarted_vault : VaultState
restarted_vault = record { stopped = false; end = 61; flushed = 0; current = 1; faults_then = 0; faults = 0 }

abbrev pub restarted_from : Start
restarted_from = record {
  log = restarted_log;
  rules = restarted_rules;
  limit = 1000000;
  vault = restarted_vault;
  told = λ side r. [];
  heads = λ side. no_head;
  synced = λ side. false;
}

abbrev pub restarted_files : Files
restarted_files = moved_files (first_log ∷ txn_batch ∷ (Restarted [] [] ∷ []) ∷ [])

-- ---- the insert
-- it puts the value of the one byte 0 into cell 1
unfoldable pub put : Block
put = made (1 ∷ replicate 63 0) 5 1 (Put (0 ∷ []))

unfoldable pub add : Block
add = made (replicate 64 0) 5 0 (Add 9)

abbrev pub put_writes : List (ℕ × ℕ)
put_writes = (8, 1) ∷ (9, 5) ∷ (10, 1) ∷ (11, 0) ∷ (12, 0) ∷ (13, 0) ∷ (14, 0) ∷ (15, 0) ∷ []

abbrev pub add_writes : List (ℕ × ℕ)
add_writes = (1, 1) ∷ (2, 5) ∷ (3, 9) ∷ []

abbrev pub insert_batch : List Record
insert_batch = Begin 2 ∷ Forward 2 look ∷ Forward 2 put ∷ Forward 2 add ∷ Done 2 (Insert 5 (0 ∷ [])) AnswerOk ∷ Commit 2 ∷ []

-- ---- the run
abbrev pub inserts : List Step
inserts =
    Begins ∷ Locks 2 5 Exclusive ∷ []
    ++ touching 2 look [] (Operates 2 look)
    ++ touching 2 put put_writes (Operates 2 put)
    ++ touching 2 add add_writes (Operates 2 add)
    ++ Answers 2 (Insert 5 (0 ∷ [])) AnswerOk ∷ Commits 2 ∷ Takes ∷ Flushes ∷ []

pub record WorkedRestart : Type 0 where
  pub history : IsHistory restarted_log
  pub rules : rules_state (sizes_of restarted_log) restarted_log ≡ Some restarted_rules
  pub fresh : IsFreshImage restarted_log restarted_vault restarted_files
  pub finish : Point
  pub crash : Files
  pub trace : Traced (start_point restarted_from) restarted_files (map Does inserts) finish crash
  -- the image of the restart is the current one, and has nothing of the insert
  pub gates : crash.gates ≡ 1
  pub first : crash.first ≡ 4
  pub image : crash.image ≡ formatted_image small
  pub behind : (last_epoch (log_in crash)).records ≡ insert_batch
  -- what is redone over it stores the key
  pub redone : recover_from small crash.image crash.first (last_epoch (log_in crash)) ≡ stored
  pub survive : survivors (log_in crash) ≡ 1 ∷ 2 ∷ []
  pub right : CrashIsRightWith restarted_log finish.core crash
