-- What a client said and logged.
--     Transcribed              what contracts see of a transcript
--     said, both_said, logged  one more line, two, and some records more
use Rattle.std.specs.Prelude.{ℕ, ◌-◌, List, [], ◌++◌}
use Rattle.std.specs.List.{range_with_len}
use Rattle.dali_transcripts.specs.declared.clients.line.Line.{Line}

pub record Transcribed : Type 0 where
  pub client : ℕ
  pub lines : List Line
  -- the numbers of its records
  pub receipts : List ℕ

abbrev pub silent : ℕ → Transcribed
silent client = record { client = client; lines = []; receipts = [] }

abbrev pub said : Transcribed → List Line → Transcribed
said t lines = record t { lines = t.lines ++ lines }

-- the records from first on, and not the one behind them
abbrev pub logged : Transcribed → (first behind : ℕ) → Transcribed
logged t first behind = record t { receipts = t.receipts ++ range_with_len first (behind - first) }
