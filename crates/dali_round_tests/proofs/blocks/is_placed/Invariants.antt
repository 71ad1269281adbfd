use Rattle.dali_round_tests.proofs.Placing.{PlacedFrom}
use Rattle.dali_round_tests.proofs.blocks.is_placed.Given as goal

abbrev pub invariant-loop-command : goal.invariant-loop-command
invariant-loop-command l = PlacedFrom l.within l.command-index l.commands
