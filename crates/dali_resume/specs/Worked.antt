-- A worked restart behind a format, over a log with a Restarted in its middle: transaction 1 inserts key 5 and commits, 2 changes its value and is rolled
-- back there, and 3 reads it in the epoch behind.
--     behind rolled value      the records behind the format, where the Restarted names these as rolled back and 3 reads this value
--     middle, whole            up to that Restarted, and all
--     MiddleRestarts           no record is named; the change is taken back at the Restarted, and so at the end; 3's own records are all of the last epoch
--     MisfitsInTheMiddle       a Restarted that names nobody, or 2 as deleted, is named, and so is a change of 2 in the later epoch
use Rattle.std.specs.Prelude.{◌≡◌, ℕ, false, List, [], ◌∷◌, ◌++◌, Some, None}
use Rattle.dali_access.specs.Index.Records.{records}
use Rattle.dali_record.specs.declared.operations.Block.{Block}
use Rattle.dali_record.specs.declared.operations.Op.TheVariants.{Look, Add, Put, Read, Change}
use Rattle.dali_record.specs.declared.operations.Outcome.TheVariants.{Found, Absent, Added, Put as PutIn, Value, Changed}
use Rattle.dali_record.specs.declared.operations.Undo.TheVariants.{FreeCell as UndoFreeCell, Restore as UndoRestore, FreeEntry as UndoFreeEntry}
use Rattle.dali_record.specs.declared.records.Call.TheVariants.{Insert, Get}
use Rattle.dali_record.specs.declared.records.Answer.TheVariants.{Ok as AnswerOk, Got}
use Rattle.dali_record.specs.declared.records.Record.{Record}
use Rattle.dali_record.specs.declared.records.Record.TheVariants.{Format, Begin, Forward, Done, Commit, Restarted}
use Rattle.dali_resume.specs.Tests.{known_at, first_bad}
use Rattle.dali_resume.specs.Refused.{two}
use Rattle.dali_resume.specs.Ends.{fresh}
use Rattle.dali_resume.specs.Onward.{Verdict, Misfit, goes_through, hands_on, verdict_of}

abbrev pub look : Block
look = record { key = 5; region = 0; op = Look; read = 0x2492492492492493; xor = 0x0; write = 0x0; after = []; outcome = Absent false; undo = None }

abbrev pub put : Block
put = record { key = 5; region = 1; op = Put (97 ∷ 98 ∷ 99 ∷ []); read = 0xff00; xor = 0x0; write = 0xff00; after = 1 ∷ 5 ∷ 3 ∷ 7017280021047803904 ∷ 0 ∷ 0 ∷ 0 ∷ 0 ∷ []; outcome = PutIn 1; undo = Some (UndoFreeCell 1) }

abbrev pub add : Block
add = record { key = 5; region = 0; op = Add 9; read = 0xe; xor = 0x0; write = 0xe; after = 1 ∷ 5 ∷ 9 ∷ []; outcome = Added 0; undo = Some (UndoFreeEntry 0) }

abbrev pub find : Block
find = record { key = 5; region = 0; op = Look; read = 0xe; xor = 0xd; write = 0x0; after = []; outcome = Found 0 9; undo = None }

abbrev pub change : Block
change = record { key = 5; region = 1; op = Change 1 (121 ∷ []); read = 0xff00; xor = 0x6162630000000007; write = 0xfc00; after = 1 ∷ 8718968878589280256 ∷ 0 ∷ 0 ∷ 0 ∷ 0 ∷ []; outcome = Changed; undo = Some (UndoRestore 1 3 (7017280021047803904 ∷ 0 ∷ 0 ∷ 0 ∷ 0 ∷ [])) }

abbrev pub read : Block
read = record { key = 5; region = 1; op = Read 1; read = 0xff00; xor = 0x6162630000000007; write = 0x0; after = []; outcome = Value (97 ∷ 98 ∷ 99 ∷ []); undo = None }

abbrev pub before : List Record
before =
    Begin 1 ∷ Forward 1 look ∷ Forward 1 put ∷ Forward 1 add ∷ Done 1 (Insert 5 (97 ∷ 98 ∷ 99 ∷ [])) AnswerOk ∷ Commit 1
    ∷ Begin 2 ∷ Forward 2 find ∷ Forward 2 change ∷ []

abbrev pub middle : List ℕ → List ℕ → List Record
middle rolled deleted = before ++ Restarted rolled deleted ∷ []

abbrev pub whole : List Record
whole = middle (2 ∷ []) [] ++ Begin 3 ∷ Forward 3 find ∷ Forward 3 read ∷ Done 3 (Get 5) (Got (97 ∷ 98 ∷ 99 ∷ [])) ∷ Commit 3 ∷ []

abbrev pub reads : List Record → Verdict
reads Q = verdict_of two fresh (Format 1 1 ∷ Q)

pub record MiddleRestarts : Type 0 where
  pub passes : first_bad two 1 (known_at 1 1 []) whole ≡ None
  -- at the Restarted the change was taken back
  pub taken_back : records two (goes_through two fresh (middle (2 ∷ []) [])).image ≡ (5, 97 ∷ 98 ∷ 99 ∷ []) ∷ []
  pub seen : (goes_through two fresh whole).known.seen ≡ Begin 3 ∷ Forward 3 find ∷ Forward 3 read ∷ Done 3 (Get 5) (Got (97 ∷ 98 ∷ 99 ∷ [])) ∷ Commit 3 ∷ []
  pub image : records two (hands_on two (goes_through two fresh whole)).image ≡ (5, 97 ∷ 98 ∷ 99 ∷ []) ∷ []
  pub rolled : (hands_on two (goes_through two fresh whole)).rolled ≡ []

pub record MisfitsInTheMiddle : Type 0 where
  pub nobody : reads (middle [] []) ≡ Misfit 10
  pub as_deleted : reads (middle (2 ∷ []) (2 ∷ [])) ≡ Misfit 10
  pub goes_on : reads (middle (2 ∷ []) [] ++ Forward 2 change ∷ []) ≡ Misfit 11
