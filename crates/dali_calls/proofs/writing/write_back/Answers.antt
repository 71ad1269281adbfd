use Rattle.std.proofs.Common.{◌∙◌, ap}
use Rattle.dali_system.specs.declared.take_back.TakeBack.{TakeBack}
use Rattle.dali_calls.proofs.Operating.{more_written, still_same}
use Rattle.dali_calls.proofs.writing.write_back.Goals as goal

pub loop-preserved : goal.loop-preserved
loop-preserved c = record {
  under_way = c.update.ensures.writes.under_way;
  same = still_same c.args.back.now.operation c.loop.back.operation c.update.new.self.operation c.loop.invariant.same c.update.ensures.writes.same;
  rest = c.update.ensures.rest ∙ ap (λ (p : TakeBack). record p { operation = c.update.new.self.operation }) c.loop.invariant.rest;
  written = more_written c.args.region.now c.loop.region c.update.new.region c.loop.invariant.written (c.update.ensures.writes.step c.loop-test.true).1;
}
