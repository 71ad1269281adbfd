use Rattle.std.proofs.Common.{◌∙◌}
use Rattle.dali_calls.proofs.Operating.{more_written}
use Rattle.dali_calls.proofs.single.settling.write_freed.Goals as goal

pub loop-preserved : goal.loop-preserved
loop-preserved c = record {
  under_way = c.update.ensures.under_way;
  same = (c.update.ensures.same.0 ∙ c.loop.invariant.same.0, c.update.ensures.same.1 ∙ c.loop.invariant.same.1);
  written = more_written c.args.region.now c.loop.region c.update.new.region c.loop.invariant.written (c.update.ensures.step c.loop-test.true).1;
}
