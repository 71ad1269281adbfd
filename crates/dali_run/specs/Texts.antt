-- The texts of rounds.
--     shown row                the line of a record
--     said_by ts c             what the client c said, of these transcripts
--     said_up_to ts n, said_texts ts    the lines of the clients up to this number, behind their numbers; of all clients
--     round_lines blocks lines the text of a round
--     alone_texts t            the lines of a client without its number
--     says_failure t           whether it says that the store failed
use Rattle.std.specs.Prelude.{ℕ, zero, suc, Bool, true, false, List, [], ◌∷◌, ◌++◌, ◌==◌, if◌then◌else◌, flat_map}
use Rattle.std.specs.List.{list_any}
use Rattle.dali_transcripts.specs.Words.{Said, Refused, StoreFailed}
use Rattle.dali_transcripts.specs.Transcripts.{Told, round_text}
use Rattle.dali_transcripts.specs.Clients.Said.{Transcribed}
use Rattle.dali_round.specs.Leads.{lines_in}
use Rattle.dali_listing.specs.declared.Listed.{Listed}
use Rattle.dali_report.specs.declared.printed.Line.{Line}
use Rattle.dali_report.specs.declared.printed.Line.TheVariants as lines
use Rattle.dali_report.specs.Lines.{alone_text, client_texts}

abbrev pub shown : Listed → Line
shown row = lines.Shown row.key row.value

abbrev pub said_by : List Transcribed → ℕ → List Said
said_by [] c = []
said_by (t ∷ ts) c = if t.client == c then lines_in t else said_by ts c

unfoldable pub said_up_to : List Transcribed → ℕ → List ℕ
said_up_to ts zero = []
said_up_to ts (suc c) = said_up_to ts c ++ client_texts (suc c) (said_by ts (suc c))

unfoldable pub said_texts : List Transcribed → List ℕ
said_texts ts = said_up_to ts 64

-- each client's lines behind its number, by ascending number
unfoldable pub round_lines : List Told → List (List Said) → List ℕ
round_lines blocks lines = round_text client_texts blocks lines

abbrev pub alone_texts : Transcribed → List ℕ
alone_texts t = flat_map alone_text (lines_in t)

abbrev pub is_failure : Said → Bool
is_failure (Refused act StoreFailed) = true
is_failure said = false

abbrev pub says_failure : Transcribed → Bool
says_failure t = list_any is_failure (lines_in t)
