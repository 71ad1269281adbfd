-- A worked round: two clients insert key 5; one is refused, and tries again; the other one dies.
--     log                      what stands in the log then
--     told_1, told_2           what the clients were told
--     lines_1, lines_2         what they said
--     world                    the core that the round leaves
--     AreMade                  the blocks are those of their operations
--     ConflictRuns             the clause of a round, of this one
--     Conflict                 the transactions keep the rules of the log, and these are the transcripts of the round
use Rattle.std.specs.Prelude.{◌≡◌, ℕ, ◌+◌, ◌*◌, ◌^◌, true, false, List, [], ◌∷◌, ◌++◌, Option, Some, None, length, map, replicate, sum_by, IsSome}
use Rattle.dali_geometry.specs.Sizes.{Sizes}
use Rattle.dali_record.specs.declared.operations.Block.{Block}
use Rattle.dali_record.specs.declared.operations.Op.{Op}
use Rattle.dali_record.specs.declared.operations.Op.TheVariants.{Look, Put, Add, FreeEntry, FreeCell}
use Rattle.dali_record.specs.declared.operations.Outcome.{Outcome}
use Rattle.dali_record.specs.declared.operations.Outcome.TheVariants.{Found, Absent, Added, Put as PutIn, Undone}
use Rattle.dali_record.specs.declared.operations.Undo.{Undo}
use Rattle.dali_record.specs.declared.operations.Undo.TheVariants.{FreeCell as UndoCell, FreeEntry as UndoEntry}
use Rattle.dali_record.specs.declared.records.Call.{Call}
use Rattle.dali_record.specs.declared.records.Call.TheVariants.{Insert, Get}
use Rattle.dali_record.specs.declared.records.Answer.TheVariants.{Ok as AnswerOk}
use Rattle.dali_record.specs.declared.records.Record.{Record}
use Rattle.dali_record.specs.declared.records.Record.TheVariants.{Format, Begin, Forward, Done, Commit, Ended, Back}
use Rattle.dali_record.specs.Spelling.{record_length}
use Rattle.dali_record.specs.Legal.{txn_state}
use Rattle.dali_record.specs.Blocks.{made, rewritten}
use Rattle.dali_locks.specs.declared.mode.Mode.TheVariants.{Shared, Exclusive}
use Rattle.dali_region.specs.State.{loaded}
use Rattle.dali_runs.specs.declared.refusals.Refusal.{Refusal}
use Rattle.dali_runs.specs.State.{CoreState, VaultState}
use Rattle.dali_runs.specs.Loads.{new_system}
use Rattle.dali_transcripts.specs.Words.{Act, Begins, Calls, Arms, Commits, Said, Begun, Answered, CommitOk, Aborted, Died}
use Rattle.dali_transcripts.specs.World.{Logs, DiesOn, Claims, GetsLock, Yields, FindsDead, Happening, World, logged_by}
use Rattle.dali_transcripts.specs.Transcripts.{Told, AreTranscripts}
use Rattle.dali_transcripts.specs.Rounds.{Rounds}

abbrev pub small : Sizes
small = record { index = 1; heap = 1 }

-- ---- the blocks
-- the words of the index and of the heap: formatted, and with the key of transaction 1
abbrev pub index_words : List ℕ
index_words = replicate 64 0

abbrev pub heap_words : List ℕ
heap_words = 1 ∷ replicate 63 0

abbrev pub block : ℕ → Op → ℕ → ℕ → ℕ → List ℕ → Outcome → Option Undo → Block
block region op read xor write after outcome undo =
    record { key = 5; region = region; op = op; read = read; xor = xor; write = write; after = after; outcome = outcome; undo = undo }

abbrev pub look : Block
look = block 0 Look 0x2492492492492493 0 0 [] (Absent false) None

-- a cell and an entry that were freed keep their other words
abbrev pub put : ℕ → ℕ → Block
put byte xor = block 1 (Put (byte ∷ [])) 0xff00 xor 0xff00 (1 ∷ 5 ∷ 1 ∷ byte * 2 ^ 56 ∷ 0 ∷ 0 ∷ 0 ∷ 0 ∷ []) (PutIn 1) (Some (UndoCell 1))

abbrev pub add : ℕ → Block
add xor = block 0 (Add 9) 0xe xor 0xe (1 ∷ 5 ∷ 9 ∷ []) (Added 0) (Some (UndoEntry 0))

abbrev pub look_again : Block
look_again = block 0 Look 0xe 13 0 [] (Found 0 9) None

abbrev pub free_entry : Block
free_entry = block 0 (FreeEntry 0) 2 1 2 (0 ∷ []) Undone None

abbrev pub free_cell : Block
free_cell = block 1 (FreeCell 1) 0x100 1 0x100 (0 ∷ []) Undone None

-- ---- the round
abbrev pub insert_a : Call
insert_a = Insert 5 (97 ∷ [])

abbrev pub insert_b : Call
insert_b = Insert 5 (98 ∷ [])

abbrev pub before : List Record
before = Format 1 1 ∷ []

-- client 2 is refused while client 1 runs; later it finds that it is dead
abbrev pub refusal : Refusal
refusal = record { txn = 2; key = 5; mode = Exclusive; holder = 1; at = 7 }

abbrev pub found_dead : Refusal
found_dead = record { txn = 3; key = 5; mode = Exclusive; holder = 1; at = 10 }

-- what happens, each deed with the client that does it
abbrev pub happened : List Happening
happened =
    (Logs (Begin 1), 1) ∷ (Logs (Begin 2), 2)
    ∷ (GetsLock 1 5 Exclusive, 1) ∷ (Logs (Forward 1 look), 1) ∷ (Logs (Forward 1 (put 97 0)), 1) ∷ (Logs (Forward 1 (add 0)), 1) ∷ (Logs (Done 1 insert_a AnswerOk), 1)
    -- client 2 is refused; client 1 dies in the second operation of its get; client 2 ends
    ∷ (Yields refusal, 2) ∷ (GetsLock 1 5 Shared, 1) ∷ (Logs (Forward 1 look_again), 1) ∷ (DiesOn 1 1, 1) ∷ (Logs (Ended 2), 2)
    ∷ (Logs (Begin 3), 2)
    -- it meets the dead client's lock, and cleans up
    ∷ (FindsDead found_dead, 2) ∷ (Claims 1, 2) ∷ (Logs (Back 1 free_entry), 2) ∷ (Logs (Back 1 free_cell), 2) ∷ (Logs (Ended 1), 2)
    ∷ (GetsLock 3 5 Exclusive, 2) ∷ (Logs (Forward 3 look), 2) ∷ (Logs (Forward 3 (put 98 (97 * 2 ^ 56 + 4))), 2) ∷ (Logs (Forward 3 (add 12)), 2) ∷ (Logs (Done 3 insert_b AnswerOk), 2)
    ∷ (Logs (Commit 3), 2) ∷ (Logs (Ended 3), 2) ∷ []

abbrev pub log : List Record
log = before ++ logged_by happened

abbrev pub told_1 : List Act
told_1 = Begins ∷ Calls insert_a ∷ Arms 2 ∷ Calls (Get 5) ∷ Commits ∷ []

abbrev pub told_2 : List Act
told_2 = Begins ∷ Calls insert_b ∷ Commits ∷ []

abbrev pub blocks : List Told
blocks = record { client = 1; acts = told_1 } ∷ record { client = 2; acts = told_2 } ∷ []

abbrev pub lines_1 : List Said
lines_1 = Begun 1 ∷ Answered insert_a AnswerOk ∷ Died ∷ []

abbrev pub lines_2 : List Said
lines_2 = Begun 2 ∷ Aborted ∷ Begun 3 ∷ Answered insert_b AnswerOk ∷ CommitOk ∷ []

-- the numbers of the records that each logged
abbrev pub receipts_1 : List ℕ
receipts_1 = 1 ∷ 3 ∷ 4 ∷ 5 ∷ 6 ∷ 7 ∷ []

abbrev pub receipts_2 : List ℕ
receipts_2 = 2 ∷ 8 ∷ 9 ∷ 10 ∷ 11 ∷ 12 ∷ 13 ∷ 14 ∷ 15 ∷ 16 ∷ 17 ∷ 18 ∷ []

-- ---- what the round leaves
-- all records but the last one are flushed
abbrev pub flushed : ℕ
flushed = 17

abbrev pub vault : VaultState
vault = record { stopped = false; end = 15; flushed = 0; current = 0; faults_then = 0; faults = 0 }

-- before the round, and after it
abbrev pub old_core : CoreState
old_core = record { regions = map loaded (index_words ∷ heap_words ∷ []); system = new_system small 1 1 10 4096; vault = vault }

abbrev pub core : CoreState
core = record {
  regions = map loaded (index_words ∷ heap_words ∷ []);
  system = record (new_system small (length log) 4 (sum_by record_length log) 4096) { first = 1; since = logged_by happened; taken = flushed; refusals = refusal ∷ found_dead ∷ [] };
  vault = record vault { end = 1000; flushed = flushed };
}

abbrev pub world : World
world = record { old = old_core; before = before; precheck = false; happened = happened; core = core }

-- each block is what its operation gives on the words then
pub record AreMade : Type 0 where
  pub looks : look ≡ made index_words 5 0 Look
  pub puts_a : (put 97 0) ≡ made heap_words 5 1 (Put (97 ∷ []))
  pub puts_b : (put 98 (97 * 2 ^ 56 + 4)) ≡ made (rewritten free_cell (rewritten (put 97 0) heap_words)) 5 1 (Put (98 ∷ []))
  pub adds : add 0 ≡ made index_words 5 0 (Add 9)
  pub adds_again : add 12 ≡ made (rewritten free_entry (rewritten (add 0) index_words)) 5 0 (Add 9)
  pub looks_at_last : look ≡ made (rewritten free_entry (rewritten (add 0) index_words)) 5 0 Look
  pub looks_again : look_again ≡ made (rewritten (add 0) index_words) 5 0 Look
  pub frees_entry : free_entry ≡ made (rewritten (add 0) index_words) 5 0 (FreeEntry 0)
  pub frees_cell : free_cell ≡ made (rewritten (put 97 0) heap_words) 5 1 (FreeCell 1)

pub record Conflict : Type 0 where
  pub legal_1 : IsSome (txn_state small 1 log)
  pub legal_2 : IsSome (txn_state small 2 log)
  pub legal_3 : IsSome (txn_state small 3 log)
  pub transcripts : AreTranscripts true world blocks (lines_1 ∷ lines_2 ∷ [])

-- a text for the example: a client's number for each of its lines
abbrev pub marks : ℕ → List Said → List ℕ
marks c lines = map (λ (line : Said). c) lines

-- what the call of the round says
abbrev pub ConflictRuns : Type 0
ConflictRuns = Rounds marks false true before old_core core blocks (1 ∷ 1 ∷ 1 ∷ 2 ∷ 2 ∷ 2 ∷ 2 ∷ 2 ∷ [])
