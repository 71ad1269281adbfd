-- A worked checkpoint of client 2, beside client 1. The store was just formatted. Client 1 begins. Client 2 starts a checkpoint, takes and flushes all records, keeps the
-- head, writes the header and copies region 0; client 1 gets a lock; region 1 is copied, the table written and the image synced. An audit begins; between its passes
-- client 1 commits; it ends clean, and its end is flushed. So the anchor moves, and the checkpoint ends.
--     z2, z3 .., v1, v2, v3    system and vault behind the lines that change them
--     head                     what the checkpoint keeps
--     image                    what the stage tells of the image where the anchor moves
--     u1, u2 ..                so many of the lines
--     WorkedCheckpoint         each of them may follow those before it, and this is what they leave
use Rattle.std.specs.Prelude.{◌≡◌, true, false, [], ◌∷◌, ◌++◌, Some, None, ◌+◌}
use Rattle.dali_record.specs.declared.records.Record.TheVariants.{Format, Begin, Commit, AuditBegin, AuditClean}
use Rattle.dali_region.specs.declared.Side.TheVariants.{A}
use Rattle.dali_region.specs.State.{RegionState, loaded, checked}
use Rattle.dali_region.specs.Answers.{cleaned}
use Rattle.dali_locks.specs.declared.mode.Mode.TheVariants.{Exclusive}
use Rattle.dali_runs.specs.State.{SystemState, VaultState}
use Rattle.dali_runs.specs.Steps.{commit_logged, granted, in_checkpoint, audit_begun, audit_ended, taken}
use Rattle.dali_runs.specs.Flushes.{longer}
use Rattle.dali_runs.specs.Courses.{Commits, Locks, AuditBegins, AuditEnds, Passes, Takes, Flushes}
use Rattle.dali_runs.specs.Worked.{first_vault}
use Rattle.dali_crash.specs.Checkpoints.{Head, Does, Starts, Keeps, Copies, WritesHead, Syncs, Turns, Finishes, head_now}
use Rattle.dali_transcripts.specs.World.{Logs, GetsLock, StartsCheckpoint, MovesAnchor, EndsCheckpoint, under_way}
use Rattle.dali_concurrent.specs.Entries.{Did, Passed, Took, Flushed, Kept, Copied, Wrote, deeds_of}
use Rattle.dali_concurrent.specs.Rules.{log_by}
use Rattle.dali_concurrent.specs.Told.{Leaves, OnRegion, OnSystem, OnVault, Line, History, plain, core_told}
use Rattle.dali_concurrent.specs.Stages.{Image}
use Rattle.dali_concurrent.specs.Kept.{AllFollow}
use Rattle.dali_concurrent.specs.Calls.{IsReady}
use Rattle.dali_concurrent.specs.Worked.{worked_bases, from, outset, index_words, heap_words, y1, t1}

-- ---- the values
abbrev pub z2 : SystemState
z2 = in_checkpoint y1 true

abbrev pub z3 : SystemState
z3 = taken z2

abbrev pub z4 : SystemState
z4 = granted z3 1 5 Exclusive

abbrev pub z5 : SystemState
z5 = audit_begun z4

abbrev pub z6 : SystemState
z6 = commit_logged z5 1

abbrev pub z7 : SystemState
z7 = audit_ended z6 2 []

abbrev pub z8 : SystemState
z8 = taken z7

abbrev pub z9 : SystemState
z9 = in_checkpoint z8 false

abbrev pub v1 : VaultState
v1 = longer first_vault (Begin 1 ∷ [])

abbrev pub v2 : VaultState
v2 = longer v1 (AuditBegin ∷ Commit 1 ∷ AuditClean 2 ∷ [])

abbrev pub v3 : VaultState
v3 = record v2 { current = v2.current + 1 }

abbrev pub index_copied : RegionState
index_copied = cleaned A (loaded index_words)

abbrev pub heap_copied : RegionState
heap_copied = cleaned A (loaded heap_words)

abbrev pub head : Head
head = head_now (Format 1 1 ∷ Begin 1 ∷ []) (record { regions = outset.old.regions; system = z3; vault = v1 })

abbrev pub image : Image
image = record { header = head; head = head; records = 2; synced = true; begins = 2 ∷ []; clean = Some (2, 4) }

-- ---- the lines
abbrev pub starts : Line
starts = (6 ∷ 0 ∷ [], (Did StartsCheckpoint 2, OnSystem z2, Starts ∷ []))

abbrev pub takes : Line
takes = (0 ∷ 1 ∷ [], (Took, OnSystem z3, Does Takes ∷ []))

abbrev pub flushes : Line
flushes = (1 ∷ [], (Flushed, OnVault v1, Does Flushes ∷ []))

abbrev pub keeps : Line
keeps = (6 ∷ 0 ∷ 1 ∷ [], (Kept, Leaves, Keeps ∷ []))

abbrev pub writes_header : Line
writes_header = (6 ∷ 1 ∷ [], (Wrote, Leaves, WritesHead head ∷ []))

abbrev pub copies_index : Line
copies_index = (6 ∷ 2 ∷ 1 ∷ [], (Copied 0, OnRegion 0 index_copied, Copies 0 2 ∷ []))

abbrev pub gets_lock : Line
gets_lock = (5 ∷ 0 ∷ [], (Did (GetsLock 1 5 Exclusive) 1, OnSystem z4, Does (Locks 1 5 Exclusive) ∷ []))

abbrev pub copies_heap : Line
copies_heap = (6 ∷ 3 ∷ 1 ∷ [], (Copied 1, OnRegion 1 heap_copied, Copies 1 2 ∷ []))

abbrev pub writes_table : Line
writes_table = (6 ∷ 1 ∷ [], (Wrote, Leaves, WritesHead head ∷ []))

abbrev pub syncs : Line
syncs = (6 ∷ 1 ∷ [], (Wrote, Leaves, Syncs ∷ []))

abbrev pub audit_begins : Line
audit_begins = (6 ∷ 0 ∷ [], (Did (Logs AuditBegin) 2, OnSystem z5, Does AuditBegins ∷ []))

abbrev pub passes_index : Line
passes_index = (2 ∷ [], (Passed 0 2 true, OnRegion 0 (checked index_copied), Does (Passes 2 0) ∷ []))

abbrev pub commits : Line
commits = (5 ∷ 0 ∷ [], (Did (Logs (Commit 1)) 1, OnSystem z6, Does (Commits 1) ∷ []))

abbrev pub passes_heap : Line
passes_heap = (3 ∷ [], (Passed 1 2 true, OnRegion 1 (checked heap_copied), Does (Passes 2 1) ∷ []))

abbrev pub audit_ends : Line
audit_ends = (6 ∷ 0 ∷ [], (Did (Logs (AuditClean 2)) 2, OnSystem z7, Does (AuditEnds 2 []) ∷ []))

abbrev pub takes_again : Line
takes_again = (0 ∷ 1 ∷ [], (Took, OnSystem z8, Does Takes ∷ []))

abbrev pub flushes_again : Line
flushes_again = (1 ∷ [], (Flushed, OnVault v2, Does Flushes ∷ []))

abbrev pub moves_anchor : Line
moves_anchor = (6 ∷ 1 ∷ [], (Did (MovesAnchor 1) 2, OnVault v3, Turns ∷ []))

abbrev pub ends : Line
ends = (6 ∷ 0 ∷ [], (Did EndsCheckpoint 2, OnSystem z9, Finishes ∷ []))

-- ---- the history
abbrev pub u1 : History
u1 = t1

abbrev pub u2 : History
u2 = u1 ++ starts ∷ []

abbrev pub u3 : History
u3 = u2 ++ takes ∷ []

abbrev pub u4 : History
u4 = u3 ++ flushes ∷ []

abbrev pub u5 : History
u5 = u4 ++ keeps ∷ []

abbrev pub u6 : History
u6 = u5 ++ writes_header ∷ []

abbrev pub u7 : History
u7 = u6 ++ copies_index ∷ []

abbrev pub u8 : History
u8 = u7 ++ gets_lock ∷ []

abbrev pub u9 : History
u9 = u8 ++ copies_heap ∷ []

abbrev pub u10 : History
u10 = u9 ++ writes_table ∷ []

abbrev pub u11 : History
u11 = u10 ++ syncs ∷ []

abbrev pub u12 : History
u12 = u11 ++ audit_begins ∷ []

abbrev pub u13 : History
u13 = u12 ++ passes_index ∷ []

abbrev pub u14 : History
u14 = u13 ++ commits ∷ []

abbrev pub u15 : History
u15 = u14 ++ passes_heap ∷ []

abbrev pub u16 : History
u16 = u15 ++ audit_ends ∷ []

abbrev pub u17 : History
u17 = u16 ++ takes_again ∷ []

abbrev pub u18 : History
u18 = u17 ++ flushes_again ∷ []

abbrev pub u19 : History
u19 = u18 ++ moves_anchor ∷ []

abbrev pub u20 : History
u20 = u19 ++ ends ∷ []

pub record WorkedCheckpoint : Type 0 where
  pub all : AllFollow worked_bases from outset u20
  pub log : log_by outset (plain u20) ≡ Format 1 1 ∷ Begin 1 ∷ AuditBegin ∷ Commit 1 ∷ AuditClean 2 ∷ []
  -- where it moves, image and audit are as they have to be
  pub ready : IsReady outset u18 head 2 4
  -- the anchor has moved, and the checkpoint is over
  pub current : (core_told outset u20).vault.current ≡ 1
  pub over : under_way (deeds_of (plain u20)) ≡ None
