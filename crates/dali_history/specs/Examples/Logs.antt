-- Logs of worked examples, and logs that break a rule.
use Rattle.std.specs.Prelude.{false, List, [], ◌∷◌, ◌++◌, Some, None}
use Rattle.dali_record.specs.declared.operations.Op.TheVariants.{Look, Add, KillEntry, Put, Read, Change, KillCell, FreeCell, ReviveCell, FreeEntry, ReviveEntry}
use Rattle.dali_record.specs.declared.operations.Outcome.TheVariants.{Found, Absent, Added, Killed, Put as PutIn, NoCell, Value, Changed, Undone}
use Rattle.dali_record.specs.declared.operations.Undo.TheVariants.{FreeCell as UndoFreeCell, ReviveCell as UndoReviveCell, Restore as UndoRestore, FreeEntry as UndoFreeEntry, ReviveEntry as UndoReviveEntry}
use Rattle.dali_record.specs.declared.records.Call.TheVariants.{Insert, Update, Delete, Get}
use Rattle.dali_record.specs.declared.records.Answer.TheVariants.{Ok as AnswerOk, Exists, Missing, Got, FullHeap}
use Rattle.dali_record.specs.declared.records.Record.{Record}
use Rattle.dali_record.specs.declared.records.Record.TheVariants.{Format, Begin, Forward, Done, Commit, Ended, Solo, AuditBegin, AuditClean, AuditFail, Restarted, Back}

-- ---- the first records, in front of the rest
-- transaction 1 inserts key 4
abbrev pub one_insert : List Record → List Record
one_insert rest =
    (Format 2 3) ∷
    (Begin 1) ∷
    (Forward 1 (record { key = 4; region = 0; op = Look; read = 0x2492492492492493; xor = 0x0; write = 0x0; after = []; outcome = (Absent false); undo = None })) ∷
    (Forward 1 (record { key = 4; region = 3; op = (Put (97 ∷ 98 ∷ 99 ∷ [])); read = 0xff00; xor = 0x0; write = 0xff00; after = (1 ∷ 4 ∷ 3 ∷ 7017280021047803904 ∷ 0 ∷ 0 ∷ 0 ∷ 0 ∷ []); outcome = (PutIn 1); undo = (Some (UndoFreeCell 1)) })) ∷
    (Forward 1 (record { key = 4; region = 0; op = (Add 25); read = 0xe; xor = 0x0; write = 0xe; after = (1 ∷ 4 ∷ 25 ∷ []); outcome = (Added 0); undo = (Some (UndoFreeEntry 0)) })) ∷
    (Done 1 (Insert 4 (97 ∷ 98 ∷ 99 ∷ [])) AnswerOk) ∷
    (Commit 1) ∷
    (Ended 1) ∷ rest

-- and 2 key 5, an audit is clean, and transaction 3 begins
abbrev pub two_inserts : List Record → List Record
two_inserts rest =
    one_insert
    ((Begin 2) ∷
    (Forward 2 (record { key = 5; region = 1; op = Look; read = 0x2492492492492493; xor = 0x0; write = 0x0; after = []; outcome = (Absent false); undo = None })) ∷
    (Forward 2 (record { key = 5; region = 4; op = (Put (120 ∷ 121 ∷ 122 ∷ [])); read = 0xff00; xor = 0x0; write = 0xff00; after = (1 ∷ 5 ∷ 3 ∷ 8681103897151930368 ∷ 0 ∷ 0 ∷ 0 ∷ 0 ∷ []); outcome = (PutIn 1); undo = (Some (UndoFreeCell 1)) })) ∷
    (Forward 2 (record { key = 5; region = 1; op = (Add 33); read = 0xe; xor = 0x0; write = 0xe; after = (1 ∷ 5 ∷ 33 ∷ []); outcome = (Added 0); undo = (Some (UndoFreeEntry 0)) })) ∷
    (Done 2 (Insert 5 (120 ∷ 121 ∷ 122 ∷ [])) AnswerOk) ∷
    (Commit 2) ∷
    (Ended 2) ∷
    AuditBegin ∷
    (AuditClean 15) ∷
    (Begin 3) ∷ rest)

-- transaction 1 inserts key 5, in an engine of one region of each kind
abbrev pub small_insert : List Record → List Record
small_insert rest =
    (Format 1 1) ∷
    (Begin 1) ∷
    (Forward 1 (record { key = 5; region = 0; op = Look; read = 0x2492492492492493; xor = 0x0; write = 0x0; after = []; outcome = (Absent false); undo = None })) ∷
    (Forward 1 (record { key = 5; region = 1; op = (Put (97 ∷ 98 ∷ 99 ∷ [])); read = 0xff00; xor = 0x0; write = 0xff00; after = (1 ∷ 5 ∷ 3 ∷ 7017280021047803904 ∷ 0 ∷ 0 ∷ 0 ∷ 0 ∷ []); outcome = (PutIn 1); undo = (Some (UndoFreeCell 1)) })) ∷
    (Forward 1 (record { key = 5; region = 0; op = (Add 9); read = 0xe; xor = 0x0; write = 0xe; after = (1 ∷ 5 ∷ 9 ∷ []); outcome = (Added 0); undo = (Some (UndoFreeEntry 0)) })) ∷
    (Done 1 (Insert 5 (97 ∷ 98 ∷ 99 ∷ [])) AnswerOk) ∷ rest

-- ---- the logs
-- transaction 3 reads a damaged word and then inserts key 6, which 5 reads; 4 updates key 5 and survives
abbrev pub chain_log : List Record
chain_log =
    two_inserts
    ((Forward 3 (record { key = 4; region = 0; op = Look; read = 0xe; xor = 0x1c; write = 0x0; after = []; outcome = (Found 0 25); undo = None })) ∷
    (Forward 3 (record { key = 4; region = 3; op = (Read 1); read = 0xff00; xor = 0x6062630000000006; write = 0x0; after = []; outcome = (Value (96 ∷ 98 ∷ 99 ∷ [])); undo = None })) ∷
    (Done 3 (Get 4) (Got (96 ∷ 98 ∷ 99 ∷ []))) ∷
    (Forward 3 (record { key = 6; region = 0; op = Look; read = 0x2492492492492497; xor = 0x5; write = 0x0; after = []; outcome = (Absent false); undo = None })) ∷
    (Forward 3 (record { key = 6; region = 2; op = (Put (113 ∷ 113 ∷ [])); read = 0xff00; xor = 0x0; write = 0xff00; after = (1 ∷ 6 ∷ 2 ∷ 8174314798654160896 ∷ 0 ∷ 0 ∷ 0 ∷ 0 ∷ []); outcome = (PutIn 1); undo = (Some (UndoFreeCell 1)) })) ∷
    (Forward 3 (record { key = 6; region = 0; op = (Add 17); read = 0x72; xor = 0x1; write = 0x70; after = (1 ∷ 6 ∷ 17 ∷ []); outcome = (Added 1); undo = (Some (UndoFreeEntry 1)) })) ∷
    (Done 3 (Insert 6 (113 ∷ 113 ∷ [])) AnswerOk) ∷
    (Commit 3) ∷
    (Ended 3) ∷
    (Begin 4) ∷
    (Forward 4 (record { key = 5; region = 1; op = Look; read = 0xe; xor = 0x25; write = 0x0; after = []; outcome = (Found 0 33); undo = None })) ∷
    (Forward 4 (record { key = 5; region = 4; op = (Change 1 (121 ∷ [])); read = 0xff00; xor = 0x78797a0000000007; write = 0xfc00; after = (1 ∷ 8718968878589280256 ∷ 0 ∷ 0 ∷ 0 ∷ 0 ∷ []); outcome = Changed; undo = (Some (UndoRestore 1 3 (8681103897151930368 ∷ 0 ∷ 0 ∷ 0 ∷ 0 ∷ []))) })) ∷
    (Done 4 (Update 5 (121 ∷ [])) AnswerOk) ∷
    (Commit 4) ∷
    (Ended 4) ∷
    (Begin 5) ∷
    (Forward 5 (record { key = 6; region = 0; op = Look; read = 0x76; xor = 0x13; write = 0x0; after = []; outcome = (Found 1 17); undo = None })) ∷
    (Forward 5 (record { key = 6; region = 2; op = (Read 1); read = 0xff00; xor = 0x7171000000000005; write = 0x0; after = []; outcome = (Value (113 ∷ 113 ∷ [])); undo = None })) ∷
    (Done 5 (Get 6) (Got (113 ∷ 113 ∷ []))) ∷
    (Commit 5) ∷
    (Ended 5) ∷
    AuditBegin ∷
    (AuditFail 39 (3 ∷ [])) ∷ [])

-- transaction 3 updates key 5 before it reads a damaged word; 4 reads key 5
abbrev pub undone_change_log : List Record
undone_change_log =
    two_inserts
    ((Forward 3 (record { key = 5; region = 1; op = Look; read = 0xe; xor = 0x25; write = 0x0; after = []; outcome = (Found 0 33); undo = None })) ∷
    (Forward 3 (record { key = 5; region = 4; op = (Change 1 (113 ∷ [])); read = 0xff00; xor = 0x78797a0000000007; write = 0xfc00; after = (1 ∷ 8142508126285856768 ∷ 0 ∷ 0 ∷ 0 ∷ 0 ∷ []); outcome = Changed; undo = (Some (UndoRestore 1 3 (8681103897151930368 ∷ 0 ∷ 0 ∷ 0 ∷ 0 ∷ []))) })) ∷
    (Done 3 (Update 5 (113 ∷ [])) AnswerOk) ∷
    (Forward 3 (record { key = 4; region = 0; op = Look; read = 0xe; xor = 0x1c; write = 0x0; after = []; outcome = (Found 0 25); undo = None })) ∷
    (Forward 3 (record { key = 4; region = 3; op = (Read 1); read = 0xff00; xor = 0x6062630000000006; write = 0x0; after = []; outcome = (Value (96 ∷ 98 ∷ 99 ∷ [])); undo = None })) ∷
    (Done 3 (Get 4) (Got (96 ∷ 98 ∷ 99 ∷ []))) ∷
    (Commit 3) ∷
    (Ended 3) ∷
    (Begin 4) ∷
    (Forward 4 (record { key = 5; region = 1; op = Look; read = 0xe; xor = 0x25; write = 0x0; after = []; outcome = (Found 0 33); undo = None })) ∷
    (Forward 4 (record { key = 5; region = 4; op = (Read 1); read = 0xff00; xor = 0x7100000000000005; write = 0x0; after = []; outcome = (Value (113 ∷ [])); undo = None })) ∷
    (Done 4 (Get 5) (Got (113 ∷ []))) ∷
    (Commit 4) ∷
    (Ended 4) ∷
    AuditBegin ∷
    (AuditFail 32 (3 ∷ [])) ∷ [])

-- transaction 2 updates a value of which a word is damaged
abbrev pub damaged_writer_log : List Record
damaged_writer_log =
    one_insert
    (AuditBegin ∷
    (AuditClean 8) ∷
    (Begin 2) ∷
    (Forward 2 (record { key = 4; region = 0; op = Look; read = 0xe; xor = 0x1c; write = 0x0; after = []; outcome = (Found 0 25); undo = None })) ∷
    (Forward 2 (record { key = 4; region = 3; op = (Change 1 (122 ∷ 122 ∷ [])); read = 0xff00; xor = 0x6062630000000006; write = 0xfc00; after = (2 ∷ 8825366419785908224 ∷ 0 ∷ 0 ∷ 0 ∷ 0 ∷ []); outcome = Changed; undo = (Some (UndoRestore 1 3 (6945222427009875968 ∷ 0 ∷ 0 ∷ 0 ∷ 0 ∷ []))) })) ∷
    (Done 2 (Update 4 (122 ∷ 122 ∷ [])) AnswerOk) ∷
    (Commit 2) ∷
    (Ended 2) ∷
    AuditBegin ∷
    (AuditFail 16 (3 ∷ [])) ∷ [])

-- a delete and an insert that are aborted, a get, and a delete that is committed
abbrev pub abort_log : List Record
abort_log =
    small_insert
    ((Commit 1) ∷
    (Ended 1) ∷
    (Begin 2) ∷
    (Forward 2 (record { key = 5; region = 0; op = Look; read = 0xe; xor = 0xd; write = 0x0; after = []; outcome = (Found 0 9); undo = None })) ∷
    (Forward 2 (record { key = 5; region = 1; op = (KillCell 1); read = 0x700; xor = 0x7; write = 0x100; after = (2 ∷ []); outcome = Killed; undo = (Some (UndoReviveCell 1)) })) ∷
    (Forward 2 (record { key = 5; region = 0; op = (KillEntry 0); read = 0x6; xor = 0x4; write = 0x2; after = (2 ∷ []); outcome = Killed; undo = (Some (UndoReviveEntry 0)) })) ∷
    (Done 2 (Delete 5) AnswerOk) ∷
    (Forward 2 (record { key = 5; region = 0; op = Look; read = 0x2492492492492493; xor = 0x2; write = 0x0; after = []; outcome = (Absent false); undo = None })) ∷
    (Forward 2 (record { key = 5; region = 1; op = (Put (122 ∷ [])); read = 0xff0100; xor = 0x2; write = 0xff0000; after = (1 ∷ 5 ∷ 1 ∷ 8791026472627208192 ∷ 0 ∷ 0 ∷ 0 ∷ 0 ∷ []); outcome = (PutIn 2); undo = (Some (UndoFreeCell 2)) })) ∷
    (Forward 2 (record { key = 5; region = 0; op = (Add 10); read = 0x72; xor = 0x2; write = 0x70; after = (1 ∷ 5 ∷ 10 ∷ []); outcome = (Added 1); undo = (Some (UndoFreeEntry 1)) })) ∷
    (Done 2 (Insert 5 (122 ∷ [])) AnswerOk) ∷
    (Back 2 (record { key = 5; region = 0; op = (FreeEntry 1); read = 0x10; xor = 0x1; write = 0x10; after = (0 ∷ []); outcome = Undone; undo = None })) ∷
    (Back 2 (record { key = 5; region = 1; op = (FreeCell 2); read = 0x10000; xor = 0x1; write = 0x10000; after = (0 ∷ []); outcome = Undone; undo = None })) ∷
    (Back 2 (record { key = 5; region = 0; op = (ReviveEntry 0); read = 0x2; xor = 0x2; write = 0x2; after = (1 ∷ []); outcome = Undone; undo = None })) ∷
    (Back 2 (record { key = 5; region = 1; op = (ReviveCell 1); read = 0x100; xor = 0x2; write = 0x100; after = (1 ∷ []); outcome = Undone; undo = None })) ∷
    (Ended 2) ∷
    (Begin 3) ∷
    (Forward 3 (record { key = 5; region = 0; op = Look; read = 0xe; xor = 0xd; write = 0x0; after = []; outcome = (Found 0 9); undo = None })) ∷
    (Forward 3 (record { key = 5; region = 1; op = (Read 1); read = 0xff00; xor = 0x6162630000000007; write = 0x0; after = []; outcome = (Value (97 ∷ 98 ∷ 99 ∷ [])); undo = None })) ∷
    (Done 3 (Get 5) (Got (97 ∷ 98 ∷ 99 ∷ []))) ∷
    (Commit 3) ∷
    (Ended 3) ∷
    (Begin 4) ∷
    (Forward 4 (record { key = 5; region = 0; op = Look; read = 0xe; xor = 0xd; write = 0x0; after = []; outcome = (Found 0 9); undo = None })) ∷
    (Forward 4 (record { key = 5; region = 1; op = (KillCell 1); read = 0x700; xor = 0x7; write = 0x100; after = (2 ∷ []); outcome = Killed; undo = (Some (UndoReviveCell 1)) })) ∷
    (Forward 4 (record { key = 5; region = 0; op = (KillEntry 0); read = 0x6; xor = 0x4; write = 0x2; after = (2 ∷ []); outcome = Killed; undo = (Some (UndoReviveEntry 0)) })) ∷
    (Done 4 (Delete 5) AnswerOk) ∷
    (Commit 4) ∷
    (Solo 5 4 (record { key = 5; region = 1; op = (FreeCell 1); read = 0x100; xor = 0x2; write = 0x100; after = (0 ∷ []); outcome = Undone; undo = None })) ∷
    (Solo 6 4 (record { key = 5; region = 0; op = (FreeEntry 0); read = 0x2; xor = 0x2; write = 0x2; after = (0 ∷ []); outcome = Undone; undo = None })) ∷
    (Ended 4) ∷ [])

-- inserts until the heap is full; a deleted cell stays reserved up to the commit
abbrev pub full_log : List Record
full_log =
    (Format 1 1) ∷
    (Begin 1) ∷
    (Forward 1 (record { key = 1; region = 0; op = Look; read = 0x2492492492492493; xor = 0x0; write = 0x0; after = []; outcome = (Absent false); undo = None })) ∷
    (Forward 1 (record { key = 1; region = 1; op = (Put (97 ∷ [])); read = 0xff00; xor = 0x0; write = 0xff00; after = (1 ∷ 1 ∷ 1 ∷ 6989586621679009792 ∷ 0 ∷ 0 ∷ 0 ∷ 0 ∷ []); outcome = (PutIn 1); undo = (Some (UndoFreeCell 1)) })) ∷
    (Forward 1 (record { key = 1; region = 0; op = (Add 9); read = 0xe; xor = 0x0; write = 0xe; after = (1 ∷ 1 ∷ 9 ∷ []); outcome = (Added 0); undo = (Some (UndoFreeEntry 0)) })) ∷
    (Done 1 (Insert 1 (97 ∷ [])) AnswerOk) ∷
    (Forward 1 (record { key = 2; region = 0; op = Look; read = 0x2492492492492497; xor = 0x0; write = 0x0; after = []; outcome = (Absent false); undo = None })) ∷
    (Forward 1 (record { key = 2; region = 1; op = (Put (97 ∷ [])); read = 0xff0100; xor = 0x1; write = 0xff0000; after = (1 ∷ 2 ∷ 1 ∷ 6989586621679009792 ∷ 0 ∷ 0 ∷ 0 ∷ 0 ∷ []); outcome = (PutIn 2); undo = (Some (UndoFreeCell 2)) })) ∷
    (Forward 1 (record { key = 2; region = 0; op = (Add 10); read = 0x72; xor = 0x1; write = 0x70; after = (1 ∷ 2 ∷ 10 ∷ []); outcome = (Added 1); undo = (Some (UndoFreeEntry 1)) })) ∷
    (Done 1 (Insert 2 (97 ∷ [])) AnswerOk) ∷
    (Forward 1 (record { key = 3; region = 0; op = Look; read = 0x24924924924924b7; xor = 0x3; write = 0x0; after = []; outcome = (Absent false); undo = None })) ∷
    (Forward 1 (record { key = 3; region = 1; op = (Put (97 ∷ [])); read = 0xff010100; xor = 0x0; write = 0xff000000; after = (1 ∷ 3 ∷ 1 ∷ 6989586621679009792 ∷ 0 ∷ 0 ∷ 0 ∷ 0 ∷ []); outcome = (PutIn 3); undo = (Some (UndoFreeCell 3)) })) ∷
    (Forward 1 (record { key = 3; region = 0; op = (Add 11); read = 0x392; xor = 0x0; write = 0x380; after = (1 ∷ 3 ∷ 11 ∷ []); outcome = (Added 2); undo = (Some (UndoFreeEntry 2)) })) ∷
    (Done 1 (Insert 3 (97 ∷ [])) AnswerOk) ∷
    (Forward 1 (record { key = 4; region = 0; op = Look; read = 0x24924924924925b7; xor = 0x1; write = 0x0; after = []; outcome = (Absent false); undo = None })) ∷
    (Forward 1 (record { key = 4; region = 1; op = (Put (97 ∷ [])); read = 0xff01010100; xor = 0x1; write = 0xff00000000; after = (1 ∷ 4 ∷ 1 ∷ 6989586621679009792 ∷ 0 ∷ 0 ∷ 0 ∷ 0 ∷ []); outcome = (PutIn 4); undo = (Some (UndoFreeCell 4)) })) ∷
    (Forward 1 (record { key = 4; region = 0; op = (Add 12); read = 0x1c92; xor = 0x1; write = 0x1c00; after = (1 ∷ 4 ∷ 12 ∷ []); outcome = (Added 3); undo = (Some (UndoFreeEntry 3)) })) ∷
    (Done 1 (Insert 4 (97 ∷ [])) AnswerOk) ∷
    (Forward 1 (record { key = 5; region = 0; op = Look; read = 0x2492492492492db7; xor = 0x4; write = 0x0; after = []; outcome = (Absent false); undo = None })) ∷
    (Forward 1 (record { key = 5; region = 1; op = (Put (97 ∷ [])); read = 0xff0101010100; xor = 0x0; write = 0xff0000000000; after = (1 ∷ 5 ∷ 1 ∷ 6989586621679009792 ∷ 0 ∷ 0 ∷ 0 ∷ 0 ∷ []); outcome = (PutIn 5); undo = (Some (UndoFreeCell 5)) })) ∷
    (Forward 1 (record { key = 5; region = 0; op = (Add 13); read = 0xe492; xor = 0x0; write = 0xe000; after = (1 ∷ 5 ∷ 13 ∷ []); outcome = (Added 4); undo = (Some (UndoFreeEntry 4)) })) ∷
    (Done 1 (Insert 5 (97 ∷ [])) AnswerOk) ∷
    (Forward 1 (record { key = 6; region = 0; op = Look; read = 0x2492492492496db7; xor = 0x0; write = 0x0; after = []; outcome = (Absent false); undo = None })) ∷
    (Forward 1 (record { key = 6; region = 1; op = (Put (97 ∷ [])); read = 0xff010101010100; xor = 0x1; write = 0xff000000000000; after = (1 ∷ 6 ∷ 1 ∷ 6989586621679009792 ∷ 0 ∷ 0 ∷ 0 ∷ 0 ∷ []); outcome = (PutIn 6); undo = (Some (UndoFreeCell 6)) })) ∷
    (Forward 1 (record { key = 6; region = 0; op = (Add 14); read = 0x72492; xor = 0x1; write = 0x70000; after = (1 ∷ 6 ∷ 14 ∷ []); outcome = (Added 5); undo = (Some (UndoFreeEntry 5)) })) ∷
    (Done 1 (Insert 6 (97 ∷ [])) AnswerOk) ∷
    (Forward 1 (record { key = 7; region = 0; op = Look; read = 0x24924924924b6db7; xor = 0x7; write = 0x0; after = []; outcome = (Absent false); undo = None })) ∷
    (Forward 1 (record { key = 7; region = 1; op = (Put (97 ∷ [])); read = 0xff01010101010100; xor = 0x0; write = 0xff00000000000000; after = (1 ∷ 7 ∷ 1 ∷ 6989586621679009792 ∷ 0 ∷ 0 ∷ 0 ∷ 0 ∷ []); outcome = (PutIn 7); undo = (Some (UndoFreeCell 7)) })) ∷
    (Forward 1 (record { key = 7; region = 0; op = (Add 15); read = 0x392492; xor = 0x0; write = 0x380000; after = (1 ∷ 7 ∷ 15 ∷ []); outcome = (Added 6); undo = (Some (UndoFreeEntry 6)) })) ∷
    (Done 1 (Insert 7 (97 ∷ [])) AnswerOk) ∷
    (Forward 1 (record { key = 8; region = 0; op = Look; read = 0x24924924925b6db7; xor = 0x1; write = 0x0; after = []; outcome = (Absent false); undo = None })) ∷
    (Forward 1 (record { key = 8; region = 1; op = (Put (97 ∷ [])); read = 0x101010101010100; xor = 0x1; write = 0x0; after = []; outcome = NoCell; undo = None })) ∷
    (Done 1 (Insert 8 (97 ∷ [])) FullHeap) ∷
    (Forward 1 (record { key = 1; region = 0; op = Look; read = 0xe; xor = 0x9; write = 0x0; after = []; outcome = (Found 0 9); undo = None })) ∷
    (Forward 1 (record { key = 1; region = 1; op = (KillCell 1); read = 0x700; xor = 0x1; write = 0x100; after = (2 ∷ []); outcome = Killed; undo = (Some (UndoReviveCell 1)) })) ∷
    (Forward 1 (record { key = 1; region = 0; op = (KillEntry 0); read = 0x6; xor = 0x0; write = 0x2; after = (2 ∷ []); outcome = Killed; undo = (Some (UndoReviveEntry 0)) })) ∷
    (Done 1 (Delete 1) AnswerOk) ∷
    (Forward 1 (record { key = 8; region = 0; op = Look; read = 0x24924924925b6db3; xor = 0x3; write = 0x0; after = []; outcome = (Absent false); undo = None })) ∷
    (Forward 1 (record { key = 8; region = 1; op = (Put (97 ∷ [])); read = 0x101010101010100; xor = 0x2; write = 0x0; after = []; outcome = NoCell; undo = None })) ∷
    (Done 1 (Insert 8 (97 ∷ [])) FullHeap) ∷
    (Commit 1) ∷
    (Solo 2 1 (record { key = 1; region = 1; op = (FreeCell 1); read = 0x100; xor = 0x2; write = 0x100; after = (0 ∷ []); outcome = Undone; undo = None })) ∷
    (Solo 3 1 (record { key = 1; region = 0; op = (FreeEntry 0); read = 0x2; xor = 0x2; write = 0x2; after = (0 ∷ []); outcome = Undone; undo = None })) ∷
    (Ended 1) ∷
    (Begin 4) ∷
    (Forward 4 (record { key = 8; region = 0; op = Look; read = 0x24924924925b6db3; xor = 0x1; write = 0x0; after = []; outcome = (Absent false); undo = None })) ∷
    (Forward 4 (record { key = 8; region = 1; op = (Put (97 ∷ [])); read = 0xff00; xor = 0x6100000000000000; write = 0xff00; after = (1 ∷ 8 ∷ 1 ∷ 6989586621679009792 ∷ 0 ∷ 0 ∷ 0 ∷ 0 ∷ []); outcome = (PutIn 1); undo = (Some (UndoFreeCell 1)) })) ∷
    (Forward 4 (record { key = 8; region = 0; op = (Add 9); read = 0xe; xor = 0x8; write = 0xe; after = (1 ∷ 8 ∷ 9 ∷ []); outcome = (Added 0); undo = (Some (UndoFreeEntry 0)) })) ∷
    (Done 4 (Insert 8 (97 ∷ [])) AnswerOk) ∷
    (Commit 4) ∷
    (Ended 4) ∷ []

-- the chain's log with the record of its restart
abbrev pub chain_restarted_log : List Record
chain_restarted_log = chain_log ++ Restarted [] (3 ∷ 5 ∷ []) ∷ []

-- a get answers a value that it did not find
abbrev pub wrong_answer_log : List Record
wrong_answer_log =
    (Format 1 1) ∷
    (Begin 1) ∷
    (Forward 1 (record { key = 5; region = 0; op = Look; read = 0x2492492492492493; xor = 0x0; write = 0x0; after = []; outcome = (Absent false); undo = None })) ∷
    (Done 1 (Get 5) (Got (97 ∷ []))) ∷ []

-- a get answers without a look
abbrev pub no_look_log : List Record
no_look_log =
    (Format 1 1) ∷
    (Begin 1) ∷
    (Done 1 (Get 5) Missing) ∷ []

-- the change of a call that was given up stands when the next call begins
abbrev pub change_stands_log : List Record
change_stands_log =
    (Format 1 1) ∷
    (Begin 1) ∷
    (Forward 1 (record { key = 5; region = 0; op = Look; read = 0x2492492492492493; xor = 0x0; write = 0x0; after = []; outcome = (Absent false); undo = None })) ∷
    (Forward 1 (record { key = 5; region = 1; op = (Put (97 ∷ [])); read = 0xff00; xor = 0x0; write = 0xff00; after = (1 ∷ 5 ∷ 1 ∷ 6989586621679009792 ∷ 0 ∷ 0 ∷ 0 ∷ 0 ∷ []); outcome = (PutIn 1); undo = (Some (UndoFreeCell 1)) })) ∷
    (Forward 1 (record { key = 6; region = 0; op = Look; read = 0x2492492492492493; xor = 0x0; write = 0x0; after = []; outcome = (Absent false); undo = None })) ∷
    (Done 1 (Get 6) Missing) ∷ []

-- the change of a call that was given up is taken back before the next call begins
abbrev pub taken_back_log : List Record
taken_back_log =
    (Format 1 1) ∷
    (Begin 1) ∷
    (Forward 1 (record { key = 5; region = 0; op = Look; read = 0x2492492492492493; xor = 0x0; write = 0x0; after = []; outcome = (Absent false); undo = None })) ∷
    (Forward 1 (record { key = 5; region = 1; op = (Put (97 ∷ [])); read = 0xff00; xor = 0x0; write = 0xff00; after = (1 ∷ 5 ∷ 1 ∷ 6989586621679009792 ∷ 0 ∷ 0 ∷ 0 ∷ 0 ∷ []); outcome = (PutIn 1); undo = (Some (UndoFreeCell 1)) })) ∷
    (Back 1 (record { key = 5; region = 1; op = (FreeCell 1); read = 0x100; xor = 0x1; write = 0x100; after = (0 ∷ []); outcome = Undone; undo = None })) ∷
    (Forward 1 (record { key = 6; region = 0; op = Look; read = 0x2492492492492493; xor = 0x0; write = 0x0; after = []; outcome = (Absent false); undo = None })) ∷
    (Done 1 (Get 6) Missing) ∷
    (Commit 1) ∷ []

-- an insert that was answered is taken back, and then committed
abbrev pub taken_back_whole_log : List Record
taken_back_whole_log =
    small_insert
    ((Back 1 (record { key = 5; region = 0; op = (FreeEntry 0); read = 0x2; xor = 0x1; write = 0x2; after = (0 ∷ []); outcome = Undone; undo = None })) ∷
    (Back 1 (record { key = 5; region = 1; op = (FreeCell 1); read = 0x100; xor = 0x1; write = 0x100; after = (0 ∷ []); outcome = Undone; undo = None })) ∷
    (Commit 1) ∷ [])

-- the same, where its entry alone is taken back
abbrev pub taken_back_half_log : List Record
taken_back_half_log =
    small_insert
    ((Back 1 (record { key = 5; region = 0; op = (FreeEntry 0); read = 0x2; xor = 0x1; write = 0x2; after = (0 ∷ []); outcome = Undone; undo = None })) ∷
    (Commit 1) ∷ [])

-- an insert is taken back, and then answered Ok
abbrev pub answered_after_log : List Record
answered_after_log =
    (Format 1 1) ∷
    (Begin 1) ∷
    (Forward 1 (record { key = 5; region = 0; op = Look; read = 0x2492492492492493; xor = 0x0; write = 0x0; after = []; outcome = (Absent false); undo = None })) ∷
    (Forward 1 (record { key = 5; region = 1; op = (Put (97 ∷ 98 ∷ 99 ∷ [])); read = 0xff00; xor = 0x0; write = 0xff00; after = (1 ∷ 5 ∷ 3 ∷ 7017280021047803904 ∷ 0 ∷ 0 ∷ 0 ∷ 0 ∷ []); outcome = (PutIn 1); undo = (Some (UndoFreeCell 1)) })) ∷
    (Forward 1 (record { key = 5; region = 0; op = (Add 9); read = 0xe; xor = 0x0; write = 0xe; after = (1 ∷ 5 ∷ 9 ∷ []); outcome = (Added 0); undo = (Some (UndoFreeEntry 0)) })) ∷
    (Back 1 (record { key = 5; region = 0; op = (FreeEntry 0); read = 0x2; xor = 0x1; write = 0x2; after = (0 ∷ []); outcome = Undone; undo = None })) ∷
    (Back 1 (record { key = 5; region = 1; op = (FreeCell 1); read = 0x100; xor = 0x1; write = 0x100; after = (0 ∷ []); outcome = Undone; undo = None })) ∷
    (Done 1 (Insert 5 (97 ∷ 98 ∷ 99 ∷ [])) AnswerOk) ∷
    (Commit 1) ∷ []

-- the cell of an insert is taken back, and then its entry is added
abbrev pub added_after_log : List Record
added_after_log =
    (Format 1 1) ∷
    (Begin 1) ∷
    (Forward 1 (record { key = 5; region = 0; op = Look; read = 0x2492492492492493; xor = 0x0; write = 0x0; after = []; outcome = (Absent false); undo = None })) ∷
    (Forward 1 (record { key = 5; region = 1; op = (Put (97 ∷ 98 ∷ 99 ∷ [])); read = 0xff00; xor = 0x0; write = 0xff00; after = (1 ∷ 5 ∷ 3 ∷ 7017280021047803904 ∷ 0 ∷ 0 ∷ 0 ∷ 0 ∷ []); outcome = (PutIn 1); undo = (Some (UndoFreeCell 1)) })) ∷
    (Back 1 (record { key = 5; region = 1; op = (FreeCell 1); read = 0x100; xor = 0x1; write = 0x100; after = (0 ∷ []); outcome = Undone; undo = None })) ∷
    (Forward 1 (record { key = 5; region = 0; op = (Add 9); read = 0xe; xor = 0x0; write = 0xe; after = (1 ∷ 5 ∷ 9 ∷ []); outcome = (Added 0); undo = (Some (UndoFreeEntry 0)) })) ∷
    (Done 1 (Insert 5 (97 ∷ 98 ∷ 99 ∷ [])) AnswerOk) ∷
    (Commit 1) ∷ []

-- a look finds an entry in an empty index, and reads no word of it; the region fails its audit
abbrev pub reads_nothing_log : List Record
reads_nothing_log =
    (Format 1 1) ∷
    (Begin 1) ∷
    (Forward 1 (record { key = 5; region = 0; op = Look; read = 0; xor = 0; write = 0; after = []; outcome = (Found 0 9); undo = None })) ∷
    (Done 1 (Insert 5 (97 ∷ [])) Exists) ∷
    (Commit 1) ∷
    AuditBegin ∷
    (AuditFail 5 (0 ∷ [])) ∷ []
