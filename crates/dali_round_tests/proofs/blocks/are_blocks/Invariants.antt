use Rattle.dali_round_tests.proofs.Placing.{AscendFrom}
use Rattle.dali_round_tests.proofs.blocks.are_blocks.Given as goal

abbrev pub invariant-loop-block : goal.invariant-loop-block
invariant-loop-block l = AscendFrom l.last l.block-index l.blocks
