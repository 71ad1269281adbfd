use Rattle.dali_calls.proofs.SingleLemmas.Writing.{way_of}
use Rattle.dali_calls.proofs.StepwiseLemmas.Opening.{opens}
use Rattle.dali_calls.proofs.stepwise.operation.open.Goals as goal

pub write_all-requires : goal.write_all-requires
write_all-requires c = way_of c.args.plan.now c.args.region.now c.latch.new.self.operation c.latch.new.region c.in-Ok.ensures.made

pub returns-in-Ok-clause-opens : goal.returns-in-Ok-clause-opens
returns-in-Ok-clause-opens c = opens c.args.precheck c.args.plan.now c.latch.new.self c.write_all.new.plan c.args.region.now c.latch.new.region c.write_all.new.region c.in-Ok.ensures.answer c.in-Ok.ensures.checked c.in-Ok.ensures.made c.in-Ok.ensures.sound c.latch.ensures.same c.write_all.ensures.is_open c.write_all.ensures.same c.write_all.ensures.rest c.write_all.ensures.written
