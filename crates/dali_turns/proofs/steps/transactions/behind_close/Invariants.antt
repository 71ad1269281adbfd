use Rattle.std.proofs.Common.{◌≡◌, length, map}
use Rattle.dali_transcripts.specs.Clients.Told.{act_of}
use Rattle.dali_transcripts.specs.Moves.{behind_close as acts_behind}
use Rattle.dali_turns.proofs.steps.transactions.behind_close.Given as goal

abbrev pub invariant-loop-command : goal.invariant-loop-command
invariant-loop-command l = acts_behind (map act_of l.rest) ≡ acts_behind (map act_of l.fn.commands)

abbrev pub decreases-loop-command : goal.decreases-loop-command
decreases-loop-command l = length l.rest
