use Rattle.std.proofs.Common.{not, ◌&&◌}
use Rattle.dali_calls.specs.Plans.{is_back}
use Rattle.dali_system.proofs.UnderWays.{latched_unheld}
use Rattle.dali_calls.proofs.SingleLemmas.Writing.{way_of, written, left_over, as_before, operated, promised_still, refused_still}
use Rattle.dali_calls.proofs.single.operate.operate.Goals as goal

pub write_all-requires : goal.write_all-requires
write_all-requires c = way_of c.args.plan.now c.args.region.now c.latch.new.self.operation c.latch.new.region c.in-Ok.ensures.made

pub returns-in-Err-commit-clause-err : goal.returns-in-Err-commit-clause-err
returns-in-Err-commit-clause-err c =
    let w = written c.args.plan.now c.latch.new.self c.write_all.new.plan c.args.region.now c.latch.new.region c.write_all.new.region (latched_unheld (not (is_back c.args.plan.now) && c.args.precheck) c.args.region.now c.in-Ok.ensures.answer) c.in-Ok.ensures.made c.in-Ok.ensures.sound c.latch.ensures.same c.write_all.ensures.is_open c.write_all.ensures.same c.write_all.ensures.rest c.write_all.ensures.written in
    let left = c.in-Err-commit.ensures.err in (
      as_before c.args.plan.now c.write_all.new.plan c.commit.new.self c.args.region.now c.write_all.new.region c.requires.closed w left.2,
      left.0,
      left_over c.args.plan.now c.write_all.new.plan c.args.region.now c.write_all.new.region c.commit.new.region w left.1,
    )

pub returns-in-Ok-commit-clause-ok : goal.returns-in-Ok-commit-clause-ok
returns-in-Ok-commit-clause-ok c =
    let w = written c.args.plan.now c.latch.new.self c.write_all.new.plan c.args.region.now c.latch.new.region c.write_all.new.region (latched_unheld (not (is_back c.args.plan.now) && c.args.precheck) c.args.region.now c.in-Ok.ensures.answer) c.in-Ok.ensures.made c.in-Ok.ensures.sound c.latch.ensures.same c.write_all.ensures.is_open c.write_all.ensures.same c.write_all.ensures.rest c.write_all.ensures.written in
    operated c.args.precheck c.args.plan.now c.write_all.new.plan c.commit.new.self c.args.region.now c.write_all.new.region c.commit.new.region c.args.system.now c.commit.new.system w c.in-Ok.ensures.checked c.in-Ok-commit.ensures.onward c.in-Ok-commit.ensures.back c.in-Ok-commit.ensures.ok

pub returns-in-Err-commit-clause-cause : goal.returns-in-Err-commit-clause-cause
returns-in-Err-commit-clause-cause c =
    let w = written c.args.plan.now c.latch.new.self c.write_all.new.plan c.args.region.now c.latch.new.region c.write_all.new.region (latched_unheld (not (is_back c.args.plan.now) && c.args.precheck) c.args.region.now c.in-Ok.ensures.answer) c.in-Ok.ensures.made c.in-Ok.ensures.sound c.latch.ensures.same c.write_all.ensures.is_open c.write_all.ensures.same c.write_all.ensures.rest c.write_all.ensures.written in
    refused_still c.args.precheck c.args.plan.now c.write_all.new.plan c.args.region.now c.write_all.new.region c.args.system.now c.commit.new.system c.in-Err-commit.cause w c.in-Ok.ensures.answer c.in-Err-commit.ensures.err.0 c.in-Err-commit.ensures.refused c.in-Err-commit.ensures.memory

pub returns-in-Ok-commit-clause-promised : goal.returns-in-Ok-commit-clause-promised
returns-in-Ok-commit-clause-promised c =
    let w = written c.args.plan.now c.latch.new.self c.write_all.new.plan c.args.region.now c.latch.new.region c.write_all.new.region (latched_unheld (not (is_back c.args.plan.now) && c.args.precheck) c.args.region.now c.in-Ok.ensures.answer) c.in-Ok.ensures.made c.in-Ok.ensures.sound c.latch.ensures.same c.write_all.ensures.is_open c.write_all.ensures.same c.write_all.ensures.rest c.write_all.ensures.written in
    promised_still c.args.plan.now c.write_all.new.plan c.commit.new.self c.args.region.now c.write_all.new.region c.args.system.now c.commit.new.system w c.in-Ok-commit.ensures.onward c.in-Ok-commit.ensures.back
