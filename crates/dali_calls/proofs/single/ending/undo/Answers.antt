use Rattle.std.proofs.Common.{false, ap}
use Rattle.dali_region.specs.State.{RegionState}
use Rattle.dali_system.proofs.UnderWays.{latched_unheld}
use Rattle.dali_calls.proofs.Undoing.{way_back_of, rewritten, undone, promise_kept}
use Rattle.dali_calls.proofs.SingleLemmas.Refusing.{stop_only}
use Rattle.dali_calls.proofs.SingleLemmas.Undoing.{back_left_over, back_as_before}
use Rattle.dali_calls.proofs.single.ending.undo.Goals as goal

pub write_back-requires : goal.write_back-requires
write_back-requires c = way_back_of c.args.back.now c.args.region.now c.latch.new.self.operation c.latch.new.region c.in-Ok.ensures.made

pub returns-in-Err-commit-clause-err : goal.returns-in-Err-commit-clause-err
returns-in-Err-commit-clause-err c =
    let w = rewritten c.args.back.now c.latch.new.self c.write_back.new.back c.args.region.now c.latch.new.region c.write_back.new.region (latched_unheld false c.args.region.now c.in-Ok.ensures.answer) c.in-Ok.ensures.made c.in-Ok.ensures.own c.latch.ensures.same c.write_back.ensures.is_open c.write_back.ensures.same c.write_back.ensures.rest c.write_back.ensures.written in
    let left = c.in-Err-commit.ensures.receipt.err in (
      back_as_before c.args.back.now c.write_back.new.back c.commit.new.self c.args.region.now c.write_back.new.region c.requires.closed w left.2,
      left.0,
      back_left_over c.args.back.now c.write_back.new.back c.args.region.now c.write_back.new.region c.commit.new.region w left.1,
    )

pub returns-in-Ok-commit-clause-ok : goal.returns-in-Ok-commit-clause-ok
returns-in-Ok-commit-clause-ok c =
    let w = rewritten c.args.back.now c.latch.new.self c.write_back.new.back c.args.region.now c.latch.new.region c.write_back.new.region (latched_unheld false c.args.region.now c.in-Ok.ensures.answer) c.in-Ok.ensures.made c.in-Ok.ensures.own c.latch.ensures.same c.write_back.ensures.is_open c.write_back.ensures.same c.write_back.ensures.rest c.write_back.ensures.written in
    undone c.args.back.now c.write_back.new.back c.commit.new.self c.args.region.now c.write_back.new.region c.commit.new.region c.args.system.now c.commit.new.system w c.in-Ok-commit.ensures.ok c.in-Ok-commit.ensures.next c.in-Ok-commit.ensures.receipt.runs

pub returns-in-Err-commit-clause-cause : goal.returns-in-Err-commit-clause-cause
returns-in-Err-commit-clause-cause c = stop_only c.commit.new.region c.args.system.now c.commit.new.system c.in-Err-commit.cause (ap (λ (r : RegionState). r.hold) c.in-Err-commit.ensures.receipt.err.1) c.in-Err-commit.ensures.receipt.err.0 c.in-Err-commit.ensures.receipt.refused c.in-Err-commit.ensures.receipt.memory

pub returns-in-Ok-commit-clause-promised : goal.returns-in-Ok-commit-clause-promised
returns-in-Ok-commit-clause-promised c =
    let w = rewritten c.args.back.now c.latch.new.self c.write_back.new.back c.args.region.now c.latch.new.region c.write_back.new.region (latched_unheld false c.args.region.now c.in-Ok.ensures.answer) c.in-Ok.ensures.made c.in-Ok.ensures.own c.latch.ensures.same c.write_back.ensures.is_open c.write_back.ensures.same c.write_back.ensures.rest c.write_back.ensures.written in
    promise_kept c.args.back.now c.write_back.new.back c.args.region.now c.write_back.new.region c.commit.new.region c.args.system.now c.commit.new.system w c.in-Ok-commit.ensures.ok
