use Rattle.dali_round_tests.proofs.Placing.{ascend_all}
use Rattle.dali_round_tests.proofs.blocks.are_blocks.Goals as goal

pub returns : goal.returns
returns c = λ e. ascend_all c.loop-block.last c.loop-block.block-index c.args.blocks.now c.loop-block-test.false c.loop-block.invariant
