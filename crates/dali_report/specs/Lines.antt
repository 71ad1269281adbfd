-- The text of the lines that the program prints.
--     line_text line              the line itself
--     text_of line                with its end, a line feed
--     alone_text said             what a single poke, audit or checkpoint says
--     client_text client said     what a client says: its number and a blank come first
--     texts lines                 some lines, one after another; client_texts client saids, those of a client
use Rattle.std.specs.Prelude.{ℕ, List, ◌++◌, codes, flat_map}
use Rattle.std.specs.Fmt.{decimal}
use Rattle.dali_script.specs.Names.{text_of as name_text}
use Rattle.dali_transcripts.specs.Words.{Said}
use Rattle.dali_report.specs.Texts.{value_text, list_text}
use Rattle.dali_report.specs.Said.{stop_text, said_text}
use Rattle.dali_report.specs.declared.printed.Line.{Line}
use Rattle.dali_report.specs.declared.printed.Line.TheVariants.{Stopped, RolledBack, Deleted, RestartStoreStopped, Cleaned, Shown, Records, VerifyOk, VerifyDiffers, VerifyStoreStopped, Fuse, Crash, Down, RoundDown}

abbrev pub line_text : Line → List ℕ
line_text (Stopped name cause) = stop_text name cause
line_text (RolledBack transactions) = codes "rolled back " ++ list_text transactions
line_text (Deleted transactions) = codes "deleted " ++ list_text transactions
line_text RestartStoreStopped = codes "restart store stopped"
line_text (Cleaned transactions) = codes "cleaned " ++ list_text transactions
line_text (Shown key value) = decimal key ++ codes " " ++ value_text value
line_text (Records count) = codes "records " ++ decimal count
line_text VerifyOk = codes "verify ok"
line_text VerifyDiffers = codes "verify differs"
line_text VerifyStoreStopped = codes "verify store stopped"
line_text (Fuse passes) = codes "fuse " ++ decimal passes
line_text (Crash choice) = codes "crash " ++ decimal choice
line_text (Down name) = name_text name ++ codes " down"
line_text RoundDown = codes "round down"

abbrev pub text_of : Line → List ℕ
text_of line = line_text line ++ codes "\n"

abbrev pub alone_text : Said → List ℕ
alone_text said = said_text said ++ codes "\n"

abbrev pub client_text : ℕ → Said → List ℕ
client_text client said = decimal client ++ codes " " ++ said_text said ++ codes "\n"

abbrev pub texts : List Line → List ℕ
texts lines = flat_map text_of lines

abbrev pub client_texts : ℕ → List Said → List ℕ
client_texts client saids = flat_map (client_text client) saids
