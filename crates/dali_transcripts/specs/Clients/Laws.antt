-- Laws of the words.
--     EachIsTold               the words of a command, of a reason and of a line tell it
use Rattle.std.specs.Prelude.{◌≡◌}
use Rattle.dali_transcripts.specs.declared.clients.command.Command.{Command}
use Rattle.dali_transcripts.specs.declared.clients.line.Why.{Why}
use Rattle.dali_transcripts.specs.declared.clients.line.Line.{Line}
use Rattle.dali_transcripts.specs.Clients.Told.{act_of, reason_of, said_of}

pub record EachIsTold : Type 0 where
  pub commands : (c d : Command) → act_of c ≡ act_of d → c ≡ d
  pub reasons : (c d : Why) → reason_of c ≡ reason_of d → c ≡ d
  pub lines : (c d : Line) → said_of c ≡ said_of d → c ≡ d
