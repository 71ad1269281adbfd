use Rattle.std.proofs.Common.{◌≡◌, rules, true, false, sym, ap, ◌∙◌}
use Rattle.dali_region.specs.State.{RegionState, taken_back}
use Rattle.dali_system.specs.Served.{Served, solo_room}
use Rattle.dali_system.proofs.UnderWays.{latched_unheld}
use Rattle.dali_system.specs.Refused.{stop_of}
use Rattle.dali_calls.proofs.Others.{promises_same}
use Rattle.dali_calls.proofs.SingleLemmas.Refusing.{stop_only}
use Rattle.dali_calls.proofs.SingleLemmas.Settled.{freed, free_left_over, spends_one}
use Rattle.dali_calls.proofs.SingleLemmas.Promising.{promises_used}
use Rattle.dali_calls.proofs.single.settling.free.Goals as goal

pub returns-in-Ok-solo_op-clause-ok : goal.returns-in-Ok-solo_op-clause-ok
returns-in-Ok-solo_op-clause-ok c =
    let made = c.in-Ok.ensures.made in
    (c.next-number.ensures, freed c.args.removal.now c.args.region.now c.start.new.region c.write_freed.new.region c.solo_op.new.region c.args.txn c.freeing_op-op.result c.in-Ok.operation c.write_freed.new.operation c.block.result.now c.args.system.now.state c.solo_op.new.self.state c.freeing_op-op.ensures (latched_unheld false c.args.region.now (sym c.in-Ok.ensures.latched.0)) made.0 made.1 made.2 c.in-Ok.ensures.latched.1 c.write_freed.ensures.written c.write_freed.ensures.same c.write_freed.ensures.is_open c.block.ensures (ap (λ (s : Served). s.state) c.in-Ok-solo_op.ensures.ok.0) c.in-Ok-solo_op.ensures.ok.1 c.in-Ok-solo_op.ensures.receipt.runs (search rules))

pub returns-in-Err-solo_op-clause-err : goal.returns-in-Err-solo_op-clause-err
returns-in-Err-solo_op-clause-err c =
    let made = c.in-Ok.ensures.made in
    (c.in-Err-solo_op.ensures.receipt.err.0, free_left_over c.args.region.now c.start.new.region c.write_freed.new.region c.take_back.new.self c.args.txn c.in-Ok.operation c.write_freed.new.operation (latched_unheld false c.args.region.now (sym c.in-Ok.ensures.latched.0)) made.1 made.2 c.in-Ok.ensures.latched.1 c.write_freed.ensures.written c.write_freed.ensures.same c.write_freed.ensures.is_open (c.take_back.ensures.after ∙ ap taken_back c.in-Err-solo_op.ensures.receipt.err.1))

pub returns-in-Err-solo_op-clause-promised : goal.returns-in-Err-solo_op-clause-promised
returns-in-Err-solo_op-clause-promised c = λ h. absurd (let no : false ≡ true = c.in-Err-solo_op.ensures.promised (ap stop_of h.runs) h.enough in cc)

pub returns-in-Ok-solo_op-clause-uses : goal.returns-in-Ok-solo_op-clause-uses
returns-in-Ok-solo_op-clause-uses c = ap (λ (s : Served). s.promised) c.in-Ok-solo_op.ensures.ok.0

pub returns-in-Ok-solo_op-clause-kept : goal.returns-in-Ok-solo_op-clause-kept
returns-in-Ok-solo_op-clause-kept c = λ n h. spends_one c.args.system.now c.solo_op.new.self c.args.txn n c.block.result.now c.in-Ok-solo_op.ensures.ok.0 h

pub returns-in-Err-solo_op-clause-cause : goal.returns-in-Err-solo_op-clause-cause
returns-in-Err-solo_op-clause-cause c = stop_only c.take_back.new.self c.args.system.now c.solo_op.new.self c.in-Err-solo_op.cause (ap (λ (r : RegionState). r.hold) c.take_back.ensures.after) c.in-Err-solo_op.ensures.receipt.err.0 c.in-Err-solo_op.ensures.receipt.refused c.in-Err-solo_op.ensures.receipt.memory

pub returns-in-Ok-solo_op-clause-promises : goal.returns-in-Ok-solo_op-clause-promises
returns-in-Ok-solo_op-clause-promises c = promises_used c.args.system.now c.solo_op.new.self c.args.txn solo_room (ap (λ (s : Served). s.promised) c.in-Ok-solo_op.ensures.ok.0)

pub returns-in-Err-solo_op-clause-promises : goal.returns-in-Err-solo_op-clause-promises
returns-in-Err-solo_op-clause-promises c = promises_same c.args.system.now c.solo_op.new.self c.args.txn (ap (λ (s : Served). s.promised) c.in-Err-solo_op.ensures.receipt.err.0)
