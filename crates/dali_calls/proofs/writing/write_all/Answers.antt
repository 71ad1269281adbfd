use Rattle.std.proofs.Common.{◌∙◌, ap}
use Rattle.dali_calls.specs.Plans.{Planned, with_operation}
use Rattle.dali_calls.proofs.Operating.{more_written, still_same}
use Rattle.dali_calls.proofs.writing.write_all.Goals as goal

pub loop-preserved : goal.loop-preserved
loop-preserved c = record {
  under_way = c.update.ensures.writes.under_way;
  same = still_same c.args.plan.now.operation c.loop.plan.operation c.update.new.self.operation c.loop.invariant.same c.update.ensures.writes.same;
  rest = c.update.ensures.rest ∙ ap (λ (p : Planned). with_operation p c.update.new.self.operation) c.loop.invariant.rest;
  written = more_written c.args.region.now c.loop.region c.update.new.region c.loop.invariant.written (c.update.ensures.writes.step c.loop-test.true).1;
}
