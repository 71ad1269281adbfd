-- A worked history of two clients. The store was just formatted; a latch compares a region's words with its codeword. Clients 1 and 2 begin. Client 1 gets the lock of key 5;
-- client 2 asks for it, and is refused. Client 1 latches region 0, looks for the key there, finds nothing, is answered so and commits; a frame is taken and flushed. Both
-- transactions end. Client 1 begins once more, and dies in an operation on region 1; client 2 claims that transaction, takes the operation back, and ends it; then its audit
-- passes both regions and is clean. A frame is taken, and the store fails in its flush.
--     from, worked_bases, outset       where it begins
--     refusal                  what client 2 is refused
--     y0, y1 ..                the system at the start, and behind the lines that change it
--     begins_1, begins_2 ..    the lines
--     t0, t1 ..                so many of them
--     history                  all of them
--     WorkedHistory            each of them may follow those before it, and this is what they leave
use Rattle.std.specs.Prelude.{◌≡◌, true, List, [], ◌∷◌, ◌++◌, Some, None, ℕ, replicate}
use Rattle.dali_geometry.specs.Places.{formatted_image}
use Rattle.dali_record.specs.declared.records.Call.TheVariants.{Get}
use Rattle.dali_record.specs.declared.records.Answer.TheVariants.{Missing}
use Rattle.dali_record.specs.declared.records.Record.TheVariants.{Format, Begin, Forward, Done, Commit, Ended, AuditBegin, AuditClean}
use Rattle.dali_region.specs.State.{RegionState, loaded, latched, with_reads, touched, taken_back, dead, checked}
use Rattle.dali_locks.specs.declared.mode.Mode.TheVariants.{Shared, Exclusive}
use Rattle.dali_att.specs.declared.state.State.TheVariants.{Dead, Cleaning}
use Rattle.dali_runs.specs.declared.causes.Cause.TheVariants.{Store}
use Rattle.dali_runs.specs.declared.refusals.Refusal.{Refusal}
use Rattle.dali_runs.specs.State.{SystemState, VaultState, stable}
use Rattle.dali_runs.specs.Run.{Bases}
use Rattle.dali_runs.specs.Steps.{begun, op_logged, done_logged, commit_logged, ended_logged, granted, refused, in_state, store_stopped, audit_begun, audit_ended, taken}
use Rattle.dali_runs.specs.Flushes.{longer, faulted}
use Rattle.dali_runs.specs.Regions.{RegionStep, Latch, NoteReads}
use Rattle.dali_runs.specs.Passes.{no_audits}
use Rattle.dali_runs.specs.Courses.{Begins, Operates, Answers, Commits, Ends, Locks, Refuses, Dies, AuditBegins, AuditEnds, Passes, Claims as ClaimsTxn, Recovers, Stops, Takes, Flushes, Faults}
use Rattle.dali_runs.specs.Worked.{small, first_log, first_vault, start}
use Rattle.dali_crash.specs.Checkpoints.{Does, Point}
use Rattle.dali_crash.specs.Traces.{bases_of}
use Rattle.dali_crash.specs.Checkpointed.{checkpoint_from}
use Rattle.dali_transcripts.specs.Words.{StoreFailed}
use Rattle.dali_transcripts.specs.World.{Logs, DiesOn, Claims, GetsLock, Yields, Meets}
use Rattle.dali_transcripts.specs.Worked.{look}
use Rattle.dali_concurrent.specs.Entries.{Did, Latched, Freed, Passed, Took, Flushed}
use Rattle.dali_concurrent.specs.Rules.{Outset, log_by}
use Rattle.dali_concurrent.specs.Told.{OnRegion, OnSystem, OnVault, OnBoth, OnStop, Line, History, plain, core_told}
use Rattle.dali_concurrent.specs.Landing.{BeginsAt}
use Rattle.dali_concurrent.specs.Sorts.{steps_on}
use Rattle.dali_concurrent.specs.Kept.{AllFollow}

-- ---- where it begins
abbrev pub worked_bases : Bases
worked_bases = bases_of checkpoint_from

abbrev pub from : Point
from = record {
  log = first_log;
  core = (start (formatted_image small)).core;
  audits = no_audits;
  told = checkpoint_from.told;
  heads = checkpoint_from.heads;
  synced = checkpoint_from.synced;
  begun = None;
  copies = λ side r. None;
}

abbrev pub outset : Outset
outset = record { old = (start (formatted_image small)).core; made = first_log; precheck = true }

-- ---- the values
abbrev pub refusal : Refusal
refusal = record { txn = 2; key = 5; mode = Shared; holder = 1; at = 3 }

abbrev pub opening : List RegionStep
opening = Latch 1 ∷ NoteReads look.read ∷ []

abbrev pub index_words : List ℕ
index_words = replicate 64 0

abbrev pub heap_words : List ℕ
heap_words = 1 ∷ replicate 63 0

abbrev pub index_held : RegionState
index_held = with_reads look.read (latched 1 (loaded index_words))

abbrev pub index_done : RegionState
index_done = touched index_held

abbrev pub heap_held : RegionState
heap_held = latched 3 (loaded heap_words)

abbrev pub heap_dead : RegionState
heap_dead = dead heap_held

abbrev pub heap_free : RegionState
heap_free = taken_back heap_dead

abbrev pub flushed_vault : VaultState
flushed_vault = longer first_vault (Begin 1 ∷ Begin 2 ∷ Forward 1 look ∷ Done 1 (Get 5) Missing ∷ Commit 1 ∷ [])

abbrev pub failed_vault : VaultState
failed_vault = faulted flushed_vault 1

abbrev pub y0 : SystemState
y0 = outset.old.system

abbrev pub y1 : SystemState
y1 = begun y0

abbrev pub y2 : SystemState
y2 = begun y1

abbrev pub y3 : SystemState
y3 = granted y2 1 5 Exclusive

abbrev pub y4 : SystemState
y4 = refused y3 2 5 Shared 1

abbrev pub y5 : SystemState
y5 = op_logged y4 1 look

abbrev pub y6 : SystemState
y6 = done_logged y5 1 (Get 5) Missing

abbrev pub y7 : SystemState
y7 = commit_logged y6 1

abbrev pub y8 : SystemState
y8 = taken y7

abbrev pub y9 : SystemState
y9 = ended_logged y8 1

abbrev pub y10 : SystemState
y10 = ended_logged y9 2

abbrev pub y11 : SystemState
y11 = begun y10

abbrev pub y12 : SystemState
y12 = in_state y11 3 (Dead (Some 1))

abbrev pub y13 : SystemState
y13 = in_state y12 3 (Cleaning (Some 1))

abbrev pub y14 : SystemState
y14 = ended_logged y13 3

abbrev pub y15 : SystemState
y15 = audit_begun y14

abbrev pub y16 : SystemState
y16 = audit_ended y15 10 []

abbrev pub y17 : SystemState
y17 = taken y16

abbrev pub y18 : SystemState
y18 = store_stopped y17

-- ---- the lines
abbrev pub begins_1 : Line
begins_1 = (5 ∷ 0 ∷ [], (Did (Logs (Begin 1)) 1, OnSystem y1, Does Begins ∷ []))

abbrev pub begins_2 : Line
begins_2 = (6 ∷ 0 ∷ [], (Did (Logs (Begin 2)) 2, OnSystem y2, Does Begins ∷ []))

abbrev pub gets_lock : Line
gets_lock = (5 ∷ 0 ∷ [], (Did (GetsLock 1 5 Exclusive) 1, OnSystem y3, Does (Locks 1 5 Exclusive) ∷ []))

abbrev pub yields : Line
yields = (6 ∷ 0 ∷ [], (Did (Yields refusal) 2, OnSystem y4, Does (Refuses 2 5 Shared 1) ∷ []))

abbrev pub latches : Line
latches = (5 ∷ 2 ∷ [], (Latched 0 1 1, OnRegion 0 index_held, steps_on 0 opening))

abbrev pub operates : Line
operates = (5 ∷ 0 ∷ 2 ∷ [], (Did (Logs (Forward 1 look)) 1, OnBoth 0 index_done y5, Does (Operates 1 look) ∷ []))

abbrev pub answers : Line
answers = (5 ∷ 0 ∷ [], (Did (Logs (Done 1 (Get 5) Missing)) 1, OnSystem y6, Does (Answers 1 (Get 5) Missing) ∷ []))

abbrev pub commits : Line
commits = (5 ∷ 0 ∷ [], (Did (Logs (Commit 1)) 1, OnSystem y7, Does (Commits 1) ∷ []))

abbrev pub takes : Line
takes = (0 ∷ 1 ∷ [], (Took, OnSystem y8, Does Takes ∷ []))

abbrev pub flushes : Line
flushes = (1 ∷ [], (Flushed, OnVault flushed_vault, Does Flushes ∷ []))

abbrev pub ends_1 : Line
ends_1 = (5 ∷ 0 ∷ [], (Did (Logs (Ended 1)) 1, OnSystem y9, Does (Ends 1) ∷ []))

abbrev pub ends_2 : Line
ends_2 = (6 ∷ 0 ∷ [], (Did (Logs (Ended 2)) 2, OnSystem y10, Does (Ends 2) ∷ []))

abbrev pub begins_3 : Line
begins_3 = (5 ∷ 0 ∷ [], (Did (Logs (Begin 3)) 1, OnSystem y11, Does Begins ∷ []))

abbrev pub latches_again : Line
latches_again = (5 ∷ 3 ∷ [], (Latched 1 3 1, OnRegion 1 heap_held, steps_on 1 (Latch 3 ∷ [])))

abbrev pub dies : Line
dies = (5 ∷ 0 ∷ 3 ∷ [], (Did (DiesOn 3 1) 1, OnBoth 1 heap_dead y12, Does (Dies 3 (Some 1)) ∷ []))

abbrev pub claims : Line
claims = (6 ∷ 0 ∷ [], (Did (Claims 3) 2, OnSystem y13, Does (ClaimsTxn 3) ∷ []))

abbrev pub recovers : Line
recovers = (6 ∷ 3 ∷ [], (Freed 1 2, OnRegion 1 heap_free, Does (Recovers 1) ∷ []))

abbrev pub ends_3 : Line
ends_3 = (6 ∷ 0 ∷ [], (Did (Logs (Ended 3)) 2, OnSystem y14, Does (Ends 3) ∷ []))

abbrev pub audit_begins : Line
audit_begins = (6 ∷ 0 ∷ [], (Did (Logs AuditBegin) 2, OnSystem y15, Does AuditBegins ∷ []))

abbrev pub passes_index : Line
passes_index = (2 ∷ [], (Passed 0 10 true, OnRegion 0 (checked index_done), Does (Passes 10 0) ∷ []))

abbrev pub passes_heap : Line
passes_heap = (3 ∷ [], (Passed 1 10 true, OnRegion 1 (checked heap_free), Does (Passes 10 1) ∷ []))

abbrev pub audit_ends : Line
audit_ends = (6 ∷ 0 ∷ [], (Did (Logs (AuditClean 10)) 2, OnSystem y16, Does (AuditEnds 10 []) ∷ []))

abbrev pub takes_again : Line
takes_again = (0 ∷ 1 ∷ [], (Took, OnSystem y17, Does Takes ∷ []))

abbrev pub fails : Line
fails = (6 ∷ 0 ∷ 1 ∷ [], (Did (Meets StoreFailed) 2, OnStop failed_vault y18, Does (Faults 1) ∷ Does Stops ∷ []))

-- ---- the history
abbrev pub t0 : History
t0 = []

abbrev pub t1 : History
t1 = t0 ++ begins_1 ∷ []

abbrev pub t2 : History
t2 = t1 ++ begins_2 ∷ []

abbrev pub t3 : History
t3 = t2 ++ gets_lock ∷ []

abbrev pub t4 : History
t4 = t3 ++ yields ∷ []

abbrev pub t5 : History
t5 = t4 ++ latches ∷ []

abbrev pub t6 : History
t6 = t5 ++ operates ∷ []

abbrev pub t7 : History
t7 = t6 ++ answers ∷ []

abbrev pub t8 : History
t8 = t7 ++ commits ∷ []

abbrev pub t9 : History
t9 = t8 ++ takes ∷ []

abbrev pub t10 : History
t10 = t9 ++ flushes ∷ []

abbrev pub t11 : History
t11 = t10 ++ ends_1 ∷ []

abbrev pub t12 : History
t12 = t11 ++ ends_2 ∷ []

abbrev pub t13 : History
t13 = t12 ++ begins_3 ∷ []

abbrev pub t14 : History
t14 = t13 ++ latches_again ∷ []

abbrev pub t15 : History
t15 = t14 ++ dies ∷ []

abbrev pub t16 : History
t16 = t15 ++ claims ∷ []

abbrev pub t17 : History
t17 = t16 ++ recovers ∷ []

abbrev pub t18 : History
t18 = t17 ++ ends_3 ∷ []

abbrev pub t19 : History
t19 = t18 ++ audit_begins ∷ []

abbrev pub t20 : History
t20 = t19 ++ passes_index ∷ []

abbrev pub t21 : History
t21 = t20 ++ passes_heap ∷ []

abbrev pub t22 : History
t22 = t21 ++ audit_ends ∷ []

abbrev pub t23 : History
t23 = t22 ++ takes_again ∷ []

abbrev pub t24 : History
t24 = t23 ++ fails ∷ []

abbrev pub history : History
history = t24

pub record WorkedHistory : Type 0 where
  pub begins : BeginsAt worked_bases from outset
  pub all : AllFollow worked_bases from outset history
  pub log :
      log_by outset (plain history)
      ≡ Format 1 1 ∷ Begin 1 ∷ Begin 2 ∷ Forward 1 look ∷ Done 1 (Get 5) Missing ∷ Commit 1 ∷ Ended 1 ∷ Ended 2 ∷ Begin 3 ∷ Ended 3 ∷ AuditBegin ∷ AuditClean 10 ∷ []
  -- the commit is flushed, and what came behind it is not
  pub flushed : stable (core_told outset history) ≡ 6
  pub stop : (core_told outset history).system.stop ≡ Some Store
