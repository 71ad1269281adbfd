use Rattle.std.proofs.Common.{◌∙◌, sym, arith}
use Rattle.dali_replay.proofs.Walks.{linked_step}
use Rattle.dali_replay.proofs.links.is_linked.Goals as goal

pub loop-at-preserved : goal.loop-at-preserved
loop-at-preserved c = c.loop-at.invariant ∙ linked_step c.args.records.now c.args.marks.now c.loop-at.at c.args.txn c.args.block.now (omega arith) c.requires (sym c.in_ok-linked_here.ensures ∙ c.if-branch.false)
