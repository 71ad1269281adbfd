use Rattle.std.proofs.Common.{◌≡◌, drop}
use Rattle.dali_run.specs.Texts.{said_by}
use Rattle.dali_run.proofs.texts.put_client.Given as goal

-- no transcript that was seen is the client's
abbrev pub invariant-loop-transcript : goal.invariant-loop-transcript
invariant-loop-transcript l = record {
  behind : said_by l.transcripts l.number ≡ said_by (drop l.transcript-index l.transcripts) l.number;
  same : l.text.items ≡ l.fn.text.items;
}
