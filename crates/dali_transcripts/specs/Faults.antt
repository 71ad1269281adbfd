-- A third worked round: a checkpoint that ends, and one that meets it; a damaged region; a store that fails; a transaction that stays open.
--     told_1, lines_1          client 1 pokes region 1; its insert meets the damage there, and its commit is ok
--     told_2, lines_2          client 2 makes a checkpoint, and has a transaction open where the block ends
--     told_3, lines_3          client 3 meets that checkpoint; the store fails in its commit, and its next begin is refused
--     FaultsRun                the clause of a round, of this one
use Rattle.std.specs.Prelude.{true, List, [], ◌∷◌, Some}
use Rattle.std.specs.FinMap.{empty, insert}
use Rattle.dali_locks.specs.declared.mode.Mode.TheVariants.{Exclusive}
use Rattle.dali_att.specs.declared.state.State.TheVariants.{Committed}
use Rattle.dali_att.specs.Table.{fresh_row, with_state}
use Rattle.dali_record.specs.declared.records.Record.TheVariants.{Begin, Forward, Commit, Ended, AuditBegin, AuditClean}
use Rattle.dali_region.specs.State.{loaded, poked}
use Rattle.dali_runs.specs.declared.causes.Cause.TheVariants.{Store}
use Rattle.dali_runs.specs.State.{CoreState, TxnRow}
use Rattle.dali_runs.specs.Loads.{new_system}
use Rattle.dali_transcripts.specs.Words.{Act, Begins, Calls, Commits, Aborts, Pokes, Checkpoints, StoppedBy, Damaged, StoreFailed, UnderWay, Said, Begun, CommitOk, LeftOpen, PokeOk, CheckpointSaid, Refused}
use Rattle.dali_transcripts.specs.World.{Logs, Strays, GetsLock, StartsCheckpoint, MovesAnchor, EndsCheckpoint, Meets, Happening, World, logged_by}
use Rattle.dali_transcripts.specs.Transcripts.{Told}
use Rattle.dali_transcripts.specs.Rounds.{Rounds}
use Rattle.dali_transcripts.specs.Worked.{small, index_words, heap_words, look, insert_a, before, old_core, vault, marks}

abbrev pub happened : List Happening
happened =
    (StartsCheckpoint, 2) ∷ (Meets UnderWay, 3) ∷ (Logs AuditBegin, 2) ∷ (Logs (AuditClean 1), 2) ∷ (MovesAnchor 1, 2) ∷ (EndsCheckpoint, 2)
    ∷ (Strays 1 9 1, 1)
    ∷ (Logs (Begin 1), 1) ∷ (Logs (Begin 2), 3) ∷ (Logs (Begin 3), 2)
    ∷ (GetsLock 1 5 Exclusive, 1) ∷ (Logs (Forward 1 look), 1) ∷ (Meets (Damaged 1 1 0), 1) ∷ (Logs (Commit 1), 1) ∷ (Logs (Ended 1), 1)
    -- the store fails in this commit
    ∷ (Logs (Commit 2), 3) ∷ (Meets StoreFailed, 3) ∷ (Meets (StoppedBy Store), 3) ∷ (Meets (StoppedBy Store), 2) ∷ []

abbrev pub told_1 : List Act
told_1 = Pokes 1 9 1 ∷ Begins ∷ Calls insert_a ∷ Commits ∷ []

abbrev pub told_2 : List Act
told_2 = Checkpoints ∷ Begins ∷ []

abbrev pub told_3 : List Act
told_3 = Checkpoints ∷ Begins ∷ Commits ∷ Begins ∷ Aborts ∷ []

abbrev pub blocks : List Told
blocks = record { client = 1; acts = told_1 } ∷ record { client = 2; acts = told_2 } ∷ record { client = 3; acts = told_3 } ∷ []

abbrev pub lines_1 : List Said
lines_1 = PokeOk ∷ Begun 1 ∷ Refused (Calls insert_a) (Damaged 1 1 0) ∷ CommitOk ∷ []

abbrev pub lines_2 : List Said
lines_2 = CheckpointSaid 1 ∷ Begun 3 ∷ LeftOpen ∷ []

abbrev pub lines_3 : List Said
lines_3 = Refused Checkpoints UnderWay ∷ Begun 2 ∷ Refused Commits StoreFailed ∷ Refused Begins (StoppedBy Store) ∷ []

abbrev pub committed : TxnRow
committed = with_state Committed fresh_row

-- the last two records aren't flushed; transaction 2 is committed, and 3 runs
abbrev pub core : CoreState
core = record {
  regions = loaded index_words ∷ poked 9 1 (loaded heap_words) ∷ [];
  system = record (new_system small 10 4 200 4096) { first = 1; since = logged_by happened; taken = 9; stop = Some Store; table = insert (insert empty 2 committed) 3 fresh_row };
  vault = record vault { stopped = true; end = 150; flushed = 7; current = 1; faults = 1 };
}

abbrev pub world : World
world = record { old = old_core; before = before; precheck = true; happened = happened; core = core }

abbrev pub FaultsRun : Type 0
FaultsRun = Rounds marks true true before old_core core blocks (1 ∷ 1 ∷ 1 ∷ 1 ∷ 2 ∷ 2 ∷ 2 ∷ 3 ∷ 3 ∷ 3 ∷ 3 ∷ [])
