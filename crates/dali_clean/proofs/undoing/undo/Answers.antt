use Rattle.std.proofs.Common.{◌∙◌}
use Rattle.dali_calls.proofs.Undoing.{rewritten, is_taken_back, undone, promise_kept}
use Rattle.dali_clean.proofs.Cleaning.{on_ok_of, unheld_answer}
use Rattle.dali_clean.proofs.undoing.undo.Goals as goal

pub returns-in-Ok-clause-ok : goal.returns-in-Ok-clause-ok
returns-in-Ok-clause-ok c =
    let w = rewritten c.args.back.now c.latch.new.self c.write_back.new.back c.args.region.now c.latch.new.region c.write_back.new.region c.requires.unheld (on_ok_of c.latch.result _ tt (c.latch.ensures.answer ∙ unheld_answer c.args.region.now c.requires.unheld) c.latch.ensures.made) (on_ok_of c.latch.result _ tt (c.latch.ensures.answer ∙ unheld_answer c.args.region.now c.requires.unheld) c.latch.ensures.own) c.latch.ensures.same c.write_back.ensures.is_open c.write_back.ensures.same c.write_back.ensures.rest c.write_back.ensures.written in
    undone c.args.back.now c.write_back.new.back c.commit.new.self c.args.region.now c.write_back.new.region c.commit.new.region c.args.system.now c.commit.new.system w c.in-Ok.ensures.ok c.in-Ok.ensures.next c.in-Ok.ensures.receipt.runs

pub returns-in-Err-clause-err : goal.returns-in-Err-clause-err
returns-in-Err-clause-err c =
    let w = rewritten c.args.back.now c.latch.new.self c.write_back.new.back c.args.region.now c.latch.new.region c.write_back.new.region c.requires.unheld (on_ok_of c.latch.result _ tt (c.latch.ensures.answer ∙ unheld_answer c.args.region.now c.requires.unheld) c.latch.ensures.made) (on_ok_of c.latch.result _ tt (c.latch.ensures.answer ∙ unheld_answer c.args.region.now c.requires.unheld) c.latch.ensures.own) c.latch.ensures.same c.write_back.ensures.is_open c.write_back.ensures.same c.write_back.ensures.rest c.write_back.ensures.written in
    (c.in-Err.ensures.receipt.err.0, is_taken_back c.args.back.now c.write_back.new.back c.args.region.now c.write_back.new.region c.commit.new.region w c.in-Err.ensures.receipt.err.1)

pub returns-in-Ok-clause-promised : goal.returns-in-Ok-clause-promised
returns-in-Ok-clause-promised c =
    let w = rewritten c.args.back.now c.latch.new.self c.write_back.new.back c.args.region.now c.latch.new.region c.write_back.new.region c.requires.unheld (on_ok_of c.latch.result _ tt (c.latch.ensures.answer ∙ unheld_answer c.args.region.now c.requires.unheld) c.latch.ensures.made) (on_ok_of c.latch.result _ tt (c.latch.ensures.answer ∙ unheld_answer c.args.region.now c.requires.unheld) c.latch.ensures.own) c.latch.ensures.same c.write_back.ensures.is_open c.write_back.ensures.same c.write_back.ensures.rest c.write_back.ensures.written in
    promise_kept c.args.back.now c.write_back.new.back c.args.region.now c.write_back.new.region c.commit.new.region c.args.system.now c.commit.new.system w c.in-Ok.ensures.ok
