-- A worked checkpoint. A store of one index region and one heap region is formatted; transaction 1 begins, commits and ends. A checkpoint starts, flushes the log and copies
-- region 0; an audit begins. The checkpoint copies region 1, which no block has changed since the start, and writes its head. The audit passes both regions and ends clean;
-- its end is flushed, the image synced, and the anchor moves.
--     batches_2, batches_3     the batches behind the first flush, and behind the second
--     checkpoint_from, checkpoint_start, checkpoint_steps   the store right after the format, and the steps
--     WorkedCheckpoint         a crash image comes along them from that of the format: it has the checkpoint's image, from which a restart
--                              is right
use Rattle.std.specs.Prelude.{◌≡◌, false, List, [], ◌∷◌}
use Rattle.dali_geometry.specs.Places.{formatted_image}
use Rattle.dali_record.specs.declared.records.Record.{Record}
use Rattle.dali_record.specs.declared.records.Record.TheVariants.{Format, Begin, Commit, Ended, AuditBegin, AuditClean}
use Rattle.dali_record.specs.Legal.{passes, rules_start}
use Rattle.dali_record.specs.Files.{Files}
use Rattle.dali_runs.specs.Courses.{Begins, Commits, Ends, AuditBegins, AuditEnds, Passes, Takes, Flushes}
use Rattle.dali_runs.specs.Worked.{small, first_log, first_vault, first_files}
use Rattle.dali_crash.specs.Checkpoints.{Head, StoreStep, Does, Starts, Keeps, Copies, WritesHead, Syncs, Turns, Finishes, Point, Traced}
use Rattle.dali_crash.specs.StoreRuns.{CrashIsRightWith}
use Rattle.dali_crash.specs.Traces.{Start, StartsAt, start_point}

-- ---- the batches
abbrev pub txn_batch : List Record
txn_batch = Begin 1 ∷ Commit 1 ∷ Ended 1 ∷ []

abbrev pub batches_2 : List (List Record)
batches_2 = first_log ∷ txn_batch ∷ []

abbrev pub batches_3 : List (List Record)
batches_3 = first_log ∷ txn_batch ∷ (AuditBegin ∷ AuditClean 4 ∷ []) ∷ []

-- the files once the anchor has moved; the place is behind the second batch, of 15 and 5 + 27 bytes
abbrev pub moved_files : List (List Record) → Files
moved_files batches = record { batches = batches; gates = 1; number = 1; place = 47; first = 4; weight = 37; next = 2; image = formatted_image small; table = [] }

-- ---- the checkpoint
abbrev pub new_head : Head
new_head = record { number = 1; place = 47; first = 4; weight = 37; next = 2; table = [] }

abbrev pub no_head : Head
no_head = record { number = 0; place = 0; first = 0; weight = 0; next = 0; table = [] }

abbrev pub checkpoint_from : Start
checkpoint_from = record {
  log = first_log;
  rules = passes rules_start (Format 1 1);
  limit = 1000000;
  vault = first_vault;
  told = λ side r. [];
  heads = λ side. no_head;
  synced = λ side. false;
}

abbrev pub checkpoint_start : Point
checkpoint_start = start_point checkpoint_from

abbrev pub checkpoint_steps : List StoreStep
checkpoint_steps =
    Does Begins ∷ Does (Commits 1) ∷ Does (Ends 1)
    ∷ Starts ∷ Does Takes ∷ Does Flushes ∷ Keeps ∷ Copies 0 4 ∷ Does AuditBegins ∷ Copies 1 4 ∷ WritesHead new_head
    ∷ Does (Passes 4 0) ∷ Does (Passes 4 1) ∷ Does (AuditEnds 4 []) ∷ Does Takes ∷ Does Flushes
    ∷ Syncs ∷ Turns ∷ Finishes ∷ []

pub record WorkedCheckpoint : Type 0 where
  pub starts : StartsAt checkpoint_from first_files
  pub finish : Point
  pub crash : Files
  pub trace : Traced checkpoint_start first_files checkpoint_steps finish crash
  pub number : finish.core.vault.current ≡ 1
  -- no checkpoint is under way, so another one may start
  pub free : finish.core.system.checking ≡ false
  pub gates : crash.gates ≡ 1
  pub first : crash.first ≡ 4
  pub right : CrashIsRightWith first_log finish.core crash
