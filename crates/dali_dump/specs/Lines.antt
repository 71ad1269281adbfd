-- The lines of a dump.
--     op_name op              the name of an operation
--     key_of call             the key that a call is on
--     block_text block        region, key, operation, and what it reads, what that had as exclusive-or, and what it writes
--     done_text t call answer     a call of a transaction, and its answer as a client's line prints it
--     record_text logged      the fields of a record
--     record_line n logged    its line: its number, a blank, the fields, a line feed
--     record_lines n L        the lines of records in a row, of which the first has this number
--     IsDump bytes text       the text has the lines of all records of the log that the bytes spell, numbered from 0
use Rattle.std.specs.Prelude.{◌≡◌, ℕ, ◌+◌, List, [], ◌∷◌, ◌++◌, codes}
use Rattle.std.specs.Fmt.{decimal}
use Rattle.dali_record.specs.declared.operations.Block.{Block}
use Rattle.dali_record.specs.declared.operations.Op.{Op}
use Rattle.dali_record.specs.declared.operations.Op.TheVariants.{Look, Add, KillEntry, Put, Read, Change, KillCell, FreeCell, ReviveCell, Restore, FreeEntry, ReviveEntry}
use Rattle.dali_record.specs.declared.records.Answer.{Answer}
use Rattle.dali_record.specs.declared.records.Call.{Call}
use Rattle.dali_record.specs.declared.records.Call.TheVariants.{Insert, Update, Delete, Get}
use Rattle.dali_record.specs.declared.records.Record.{Record}
use Rattle.dali_record.specs.declared.records.Record.TheVariants.{Format, Begin, Forward, Done, Commit, Ended, Solo, AuditBegin, AuditClean, AuditFail, Restarted, Back}
use Rattle.dali_log.specs.Log.{LogOf, records_in}
use Rattle.dali_script.specs.Names.{text_of as name_text}
use Rattle.dali_report.specs.Said.{call_name, answer_text}
use Rattle.dali_report.specs.Texts.{hex_text, list_text}

abbrev pub op_name : Op → List ℕ
op_name Look = codes "look"
op_name (Add place) = codes "add"
op_name (KillEntry entry) = codes "killentry"
op_name (Put value) = codes "put"
op_name (Read cell) = codes "read"
op_name (Change cell value) = codes "change"
op_name (KillCell cell) = codes "killcell"
op_name (FreeCell cell) = codes "freecell"
op_name (ReviveCell cell) = codes "revivecell"
op_name (Restore cell length words) = codes "restore"
op_name (FreeEntry entry) = codes "freeentry"
op_name (ReviveEntry entry) = codes "reviveentry"

abbrev pub key_of : Call → ℕ
key_of (Insert key value) = key
key_of (Update key value) = key
key_of (Delete key) = key
key_of (Get key) = key

abbrev pub block_text : Block → List ℕ
block_text block =
    decimal block.region ++ codes " " ++ decimal block.key ++ codes " " ++ op_name block.op
    ++ codes " " ++ hex_text block.read ++ codes " " ++ hex_text block.xor ++ codes " " ++ hex_text block.write

abbrev pub done_text : ℕ → Call → Answer → List ℕ
done_text txn call answer =
    codes "done " ++ decimal txn ++ codes " " ++ name_text (call_name call) ++ codes " " ++ decimal (key_of call) ++ codes " " ++ answer_text call answer

abbrev pub record_text : Record → List ℕ
record_text (Format index heap) = codes "format " ++ decimal index ++ codes " " ++ decimal heap
record_text (Begin txn) = codes "begin " ++ decimal txn
record_text (Forward txn block) = codes "op " ++ decimal txn ++ codes " " ++ block_text block
record_text (Done txn call answer) = done_text txn call answer
record_text (Commit txn) = codes "commit " ++ decimal txn
record_text (Ended txn) = codes "ended " ++ decimal txn
record_text (Solo txn parent block) = codes "solo " ++ decimal txn ++ codes " " ++ decimal parent ++ codes " " ++ block_text block
record_text AuditBegin = codes "audit begin"
record_text (AuditClean begin) = codes "audit clean " ++ decimal begin
record_text (AuditFail begin regions) = codes "audit fail " ++ decimal begin ++ codes " " ++ list_text regions
record_text (Restarted rolled deleted) = codes "restarted rolled back " ++ list_text rolled ++ codes " deleted " ++ list_text deleted
record_text (Back txn block) = codes "back " ++ decimal txn ++ codes " " ++ block_text block

abbrev pub record_line : ℕ → Record → List ℕ
record_line n logged = decimal n ++ codes " " ++ record_text logged ++ codes "\n"

abbrev pub record_lines : ℕ → List Record → List ℕ
record_lines n [] = []
record_lines n (logged ∷ rest) = record_line n logged ++ record_lines (n + 1) rest

abbrev pub IsDump : List ℕ → List ℕ → Type 0
IsDump bytes text = (L : List (List Record)) × (e : ℕ) × LogOf bytes L e × (text ≡ record_lines 0 (records_in L))
