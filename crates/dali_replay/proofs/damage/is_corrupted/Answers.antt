use Rattle.std.proofs.Common.{◌∙◌, sym, arith}
use Rattle.dali_replay.proofs.Walks.{corrupt_step}
use Rattle.dali_replay.proofs.damage.is_corrupted.Goals as goal

pub loop-at-preserved : goal.loop-at-preserved
loop-at-preserved c = c.loop-at.invariant ∙ corrupt_step c.args.records.now c.args.marks.now c.loop-at.at c.args.txn (omega arith) c.requires (sym c.corrupt_here.ensures ∙ c.if-corrupt_here.false)
