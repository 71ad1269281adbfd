use Rattle.std.proofs.Common.{◌≡◌, ◌-◌, ◌++◌}
use Rattle.std.specs.List.{range_with_len}
use Rattle.dali_transcripts.proofs.clients.transcript.Transcript.log.Given as goal

abbrev pub invariant-loop-number : goal.invariant-loop-number
invariant-loop-number l =
    (l.self-inside.receipts.items ≡ l.fn.self.receipts ++ range_with_len l.first (l.number - l.first))
    × (l.self-inside.client ≡ l.fn.self.client) × (l.self-inside.lines.items ≡ l.fn.self.lines)
