-- The text of what a client says, without its number.
--     call_name call, act_name act    the word that a command begins with
--     answer_text call answer     the answer of a call
--     stop_text name cause        a command that is refused since the engine is stopped
--     reason_text name why        a command that is refused
--     said_text said              each line
use Rattle.std.specs.Prelude.{ℕ, List, [], ◌∷◌, ◌++◌, codes}
use Rattle.std.specs.Fmt.{decimal}
use Rattle.dali_record.specs.declared.records.Call.{Call}
use Rattle.dali_record.specs.declared.records.Call.TheVariants as call
use Rattle.dali_record.specs.declared.records.Answer.{Answer}
use Rattle.dali_record.specs.declared.records.Answer.TheVariants as answer
use Rattle.dali_runs.specs.declared.causes.Cause.{Cause}
use Rattle.dali_runs.specs.declared.causes.Cause.TheVariants as cause
use Rattle.dali_script.specs.declared.names.Name.{Name}
use Rattle.dali_script.specs.declared.names.Name.TheVariants as name
use Rattle.dali_script.specs.Names.{text_of as name_text}
use Rattle.dali_transcripts.specs.Words.{Act, Begins, Calls, Arms, Commits, Aborts, Pokes, Audits, Checkpoints, Why, StoppedBy, Full, Damaged, StoreFailed, UnderWay, Said, Begun, Answered, CommitOk, AbortOk, Aborted, LeftOpen, Died, Busy, PokeOk, PokeOutOfRange, AuditSaid, CheckpointSaid, CheckpointFailed, Refused}
use Rattle.dali_report.specs.Texts.{hex_text, value_text, list_text}

abbrev pub call_name : Call → Name
call_name (call.Insert k v) = name.Insert
call_name (call.Update k v) = name.Update
call_name (call.Delete k) = name.Delete
call_name (call.Get k) = name.Get

abbrev pub act_name : Act → Name
act_name Begins = name.Begin
act_name (Calls call) = call_name call
act_name (Arms operations) = name.Die
act_name Commits = name.Commit
act_name Aborts = name.Abort
act_name (Pokes region word mask) = name.Poke
act_name Audits = name.Audit
act_name Checkpoints = name.Checkpoint

abbrev pub answer_text : Call → Answer → List ℕ
answer_text c answer.Ok = name_text (call_name c) ++ codes " ok"
answer_text c answer.Exists = name_text (call_name c) ++ codes " exists"
answer_text c answer.Missing = name_text (call_name c) ++ codes " missing"
answer_text c (answer.Got value) = codes "got " ++ value_text value
answer_text c answer.FullHeap = name_text (call_name c) ++ codes " full heap"
answer_text c answer.FullIndex = name_text (call_name c) ++ codes " full index"
answer_text c (answer.Odd place) = name_text (call_name c) ++ codes " odd " ++ decimal place

abbrev pub stop_text : Name → Cause → List ℕ
stop_text name (cause.Damage region) = name_text name ++ codes " stopped damage " ++ decimal region
stop_text name cause.Store = name_text name ++ codes " stopped store"

abbrev pub reason_text : Name → Why → List ℕ
reason_text name (StoppedBy cause) = stop_text name cause
reason_text name (Full end limit) = name_text name ++ codes " log full " ++ decimal end ++ codes " " ++ decimal limit
reason_text name (Damaged region codeword found) =
    name_text name ++ codes " damaged " ++ decimal region ++ codes " " ++ hex_text codeword ++ codes " " ++ hex_text found
reason_text name StoreFailed = name_text name ++ codes " store stopped"
reason_text name UnderWay = name_text name ++ codes " in progress"

abbrev pub clean_or_failed : List ℕ → List ℕ
clean_or_failed [] = codes "audit clean"
clean_or_failed (region ∷ regions) = codes "audit failed " ++ list_text (region ∷ regions)

abbrev pub said_text : Said → List ℕ
said_text (Begun txn) = codes "begin " ++ decimal txn
said_text (Answered call answer) = answer_text call answer
said_text CommitOk = codes "commit ok"
said_text AbortOk = codes "abort ok"
said_text Aborted = codes "aborted"
said_text LeftOpen = codes "left open"
said_text Died = codes "died"
said_text (Busy holder) = codes "busy " ++ decimal holder
said_text PokeOk = codes "poke ok"
said_text PokeOutOfRange = codes "poke out of range"
said_text (AuditSaid regions) = clean_or_failed regions
said_text (CheckpointSaid number) = codes "checkpoint " ++ decimal number
said_text (CheckpointFailed regions) = codes "checkpoint failed " ++ list_text regions
said_text (Refused act why) = reason_text (act_name act) why
