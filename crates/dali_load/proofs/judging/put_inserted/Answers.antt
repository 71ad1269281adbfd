use Rattle.std.proofs.Common.{◌∙◌}
use Rattle.dali_load.proofs.Repeated.{inserted_more}
use Rattle.dali_load.proofs.judging.put_inserted.Goals as goal

pub loop-preserved : goal.loop-preserved
loop-preserved c = c.in_ok-extend_from_slice.ensures.items ∙ inserted_more c.loop.counter c.args.text.now.items c.loop.text.items c.loop.invariant
