use Rattle.std.proofs.Common.{◌≡◌}
use Rattle.dali_run.specs.Texts.{said_up_to}
use Rattle.dali_run.proofs.texts.text_of_round.Given as goal

abbrev pub invariant-loop-number : goal.invariant-loop-number
invariant-loop-number l = l.text.items ≡ said_up_to l.transcripts l.number
