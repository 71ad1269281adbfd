-- A worked life, from a format on. Transaction 1 inserts key 5, commits and ends; transaction 2 deletes it, commits, frees cell and entry, and
-- ends. Transaction 5 puts a cell for the key again and aborts. The client of transaction 6 dies in an operation, and its transaction is claimed
-- and ended. A checkpoint with a clean audit is made, and all is flushed; then the store fails and the engine stops.
--     look_free, put_again, unput          the blocks of transactions 5 and 6
--     before_checkpoint, life              the steps
--     WorkedLife               they are a course, without a stray write; a crash then leaves the checkpoint's image and all records, and restarts
--                              right: only the first two transactions survive, the map is empty, and so are the records
use Rattle.std.specs.Prelude.{◌≡◌, false, List, [], ◌∷◌, ◌++◌, Some, map}
use Rattle.std.specs.List.{list_any}
use Rattle.dali_record.specs.declared.operations.Block.{Block}
use Rattle.dali_record.specs.declared.operations.Op.TheVariants.{Look, Put, FreeCell}
use Rattle.dali_record.specs.declared.records.Call.TheVariants.{Insert, Delete}
use Rattle.dali_record.specs.declared.records.Answer.TheVariants.{Ok as AnswerOk}
use Rattle.dali_record.specs.declared.records.Record.{Record}
use Rattle.dali_record.specs.declared.records.Record.TheVariants.{Begin, Forward, Done, Commit, Ended, Solo, AuditBegin, AuditClean, Back}
use Rattle.dali_record.specs.Blocks.{made}
use Rattle.dali_record.specs.Files.{Files}
use Rattle.dali_locks.specs.declared.mode.Mode.TheVariants.{Exclusive}
use Rattle.dali_history.specs.Serial.{survivors}
use Rattle.dali_runs.specs.declared.causes.Cause.TheVariants.{Store}
use Rattle.dali_runs.specs.Courses.{Step, Begins, Operates, TakesBack, Frees, Answers, Commits, Ends, Locks, AuditBegins, AuditEnds, Passes, Dies, Claims, Recovers, Takes, Flushes, Faults, Stops}
use Rattle.dali_runs.specs.Run.{log_in}
use Rattle.dali_runs.specs.Worked.{first_log, touching, index_words, heap_words, look as found, kill_cell, kill_entry, free_cell, free_entry, first_files}
use Rattle.dali_crash.specs.Worked.{look}
use Rattle.dali_crash.specs.Restarted.{put, add, put_writes, add_writes}
use Rattle.dali_crash.specs.Checkpoints.{Head, StoreStep, Does, Starts, Keeps, Copies, WritesHead, Syncs, Turns, Finishes, Point, Traced, moment_of}
use Rattle.dali_crash.specs.Checkpointed.{checkpoint_start}
use Rattle.dali_crash.specs.StoreRuns.{CrashIsRightWith}
use Rattle.dali_crash.specs.Unpoked.{store_pokes}
use Rattle.dali_during.specs.During.{CourseIsQuiet}

unfoldable pub look_free : Block
look_free = made (index_words 0) 5 0 Look

unfoldable pub put_again : Block
put_again = made (heap_words 0) 5 1 (Put (0 ∷ []))

unfoldable pub unput : Block
unput = made (heap_words 1) 5 1 (FreeCell 1)

abbrev pub before_checkpoint : List Step
before_checkpoint =
    Begins ∷ Locks 1 5 Exclusive ∷ []
    ++ touching 1 look [] (Operates 1 look)
    ++ touching 1 put put_writes (Operates 1 put)
    ++ touching 1 add add_writes (Operates 1 add)
    ++ Answers 1 (Insert 5 (0 ∷ [])) AnswerOk ∷ Commits 1 ∷ Ends 1 ∷ Begins ∷ Locks 2 5 Exclusive ∷ []
    ++ touching 2 found [] (Operates 2 found)
    ++ touching 2 kill_cell ((8, 2) ∷ []) (Operates 2 kill_cell)
    ++ touching 2 kill_entry ((1, 2) ∷ []) (Operates 2 kill_entry)
    ++ Answers 2 (Delete 5) AnswerOk ∷ Commits 2 ∷ []
    ++ touching 2 free_cell ((8, 0) ∷ []) (Frees 2 free_cell)
    ++ touching 2 free_entry ((1, 0) ∷ []) (Frees 2 free_entry)
    ++ Ends 2 ∷ Begins ∷ Locks 5 5 Exclusive ∷ []
    ++ touching 5 look_free [] (Operates 5 look_free)
    ++ touching 5 put_again put_writes (Operates 5 put_again)
    ++ touching 5 unput ((8, 0) ∷ []) (TakesBack 5 unput)
    ++ Ends 5 ∷ Begins ∷ []
    ++ touching 6 look_free [] (Dies 6 (Some 0))
    ++ Claims 6 ∷ Recovers 0 ∷ Ends 6 ∷ []

-- the records before the checkpoint
abbrev pub worked : List Record
worked =
    Begin 1 ∷ Forward 1 look ∷ Forward 1 put ∷ Forward 1 add ∷ Done 1 (Insert 5 (0 ∷ [])) AnswerOk ∷ Commit 1 ∷ Ended 1
    ∷ Begin 2 ∷ Forward 2 found ∷ Forward 2 kill_cell ∷ Forward 2 kill_entry ∷ Done 2 (Delete 5) AnswerOk ∷ Commit 2
    ∷ Solo 3 2 free_cell ∷ Solo 4 2 free_entry ∷ Ended 2
    ∷ Begin 5 ∷ Forward 5 look_free ∷ Forward 5 put_again ∷ Back 5 unput ∷ Ended 5
    ∷ Begin 6 ∷ Ended 6 ∷ []

abbrev pub life : Head → List StoreStep
life h =
    map Does before_checkpoint
    ++ Starts ∷ Does Takes ∷ Does Flushes ∷ Keeps
    ∷ Copies 0 24 ∷ Copies 1 24 ∷ WritesHead h
    ∷ Does AuditBegins ∷ Does (Passes 24 0) ∷ Does (Passes 24 1) ∷ Does (AuditEnds 24 []) ∷ Does Takes ∷ Does Flushes
    ∷ Syncs ∷ Turns ∷ Finishes ∷ Does (Faults 1) ∷ Does Stops ∷ []

pub record WorkedLife : Type 0 where
  pub head : Head
  pub finish : Point
  pub crash : Files
  pub trace : Traced checkpoint_start first_files (life head) finish crash
  pub unpoked : list_any store_pokes (life head) ≡ false
  pub stop : finish.core.system.stop ≡ Some Store
  pub gates : crash.gates ≡ 1
  pub first : crash.first ≡ 24
  pub batches : crash.batches ≡ first_log ∷ worked ∷ (AuditBegin ∷ AuditClean 24 ∷ []) ∷ []
  pub survive : survivors (log_in crash) ≡ 1 ∷ 2 ∷ []
  pub right : CrashIsRightWith first_log finish.core crash
  pub quiet : CourseIsQuiet first_log (moment_of finish)
