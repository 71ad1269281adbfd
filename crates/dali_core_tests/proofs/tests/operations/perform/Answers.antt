use Rattle.std.proofs.Common.{ap, sym, subst, ◌∙◌}
use Rattle.dali_record.specs.declared.operations.Block.{Block}
use Rattle.dali_record.specs.Spelling.{IsBlock, is_forward}
use Rattle.dali_core_tests.proofs.tests.operations.perform.Goals as goal

pub commit_op-requires-clause-spelled : goal.commit_op-requires-clause-spelled
commit_op-requires-clause-spelled c = (
  c.ranges.txn.fits,
  subst IsBlock (sym (c.block-in-Some-Put.ensures ∙ c.finish.ensures.same.1)) c.in-Ok.ensures.made.1,
  ap (λ (b : Block). is_forward b.op) (c.block-in-Some-Put.ensures ∙ sym c.block.ensures) ∙ ap is_forward c.in-Some-Put.is-1,
)
