use Rattle.std.proofs.Common.{ap, ◌∙◌}
use Rattle.dali_system.specs.Served.{Served}
use Rattle.dali_calls.proofs.Others.{ended_gone, promises_same, promises_further, promises_ended}
use Rattle.dali_calls.proofs.SingleLemmas.Undoing.{abort_ends, ended_others, others_further}
use Rattle.dali_calls.proofs.SingleLemmas.Refusing.{end_stuck, none_next}
use Rattle.dali_calls.proofs.SingleLemmas.Promising.{released}
use Rattle.dali_calls.proofs.single.ending.abort.Goals as goal

pub returns-in-Ok-ended-clause-ok : goal.returns-in-Ok-ended-clause-ok
returns-in-Ok-ended-clause-ok c = abort_ends c.args.regions.now c.take_back.new.regions c.args.system.now.state c.take_back.new.system.state c.ended.new.self.state c.args.txn c.take_back.ensures.goes c.in-Ok.ensures.all c.in-Ok-ended.ensures.receipt.runs (ap (λ (s : Served). s.state) c.in-Ok-ended.ensures.ok)

pub returns-in-Ok-ended-clause-others : goal.returns-in-Ok-ended-clause-others
returns-in-Ok-ended-clause-others c =
    let ended = ended_others c.take_back.new.system.state c.ended.new.self.state c.args.txn (ap (λ (s : Served). s.state) c.in-Ok-ended.ensures.ok) in
    others_further c.args.system.now.state c.take_back.new.system.state c.ended.new.self.state c.args.txn c.take_back.ensures.goes.others ended

pub returns-in-Ok-ended-clause-gone : goal.returns-in-Ok-ended-clause-gone
returns-in-Ok-ended-clause-gone c = ended_gone c.take_back.new.system.state c.ended.new.self.state c.args.txn (ap (λ (s : Served). s.state) c.in-Ok-ended.ensures.ok)

pub returns-in-Err-ended-clause-cause : goal.returns-in-Err-ended-clause-cause
returns-in-Err-ended-clause-cause c = end_stuck c.take_back.new.regions c.take_back.new.system c.ended.new.self c.in-Err-ended.cause _ (none_next c.take_back.new.system c.ended.new.self c.args.txn c.in-Ok.ensures.all c.in-Err-ended.ensures.receipt.err) c.in-Err-ended.ensures.receipt.err c.in-Err-ended.ensures.receipt.refused c.in-Err-ended.ensures.receipt.memory

pub returns-in-Ok-ended-clause-sizes : goal.returns-in-Ok-ended-clause-sizes
returns-in-Ok-ended-clause-sizes c = ap (λ (s : Served). s.state.sizes) c.in-Ok-ended.ensures.ok ∙ c.take_back.ensures.goes.sizes

pub returns-in-Err-ended-clause-sizes : goal.returns-in-Err-ended-clause-sizes
returns-in-Err-ended-clause-sizes c = ap (λ (s : Served). s.state.sizes) c.in-Err-ended.ensures.receipt.err ∙ c.take_back.ensures.goes.sizes

pub returns-in-Err-clause-sizes : goal.returns-in-Err-clause-sizes
returns-in-Err-clause-sizes c = c.take_back.ensures.goes.sizes

pub returns-in-Ok-ended-clause-promises : goal.returns-in-Ok-ended-clause-promises
returns-in-Ok-ended-clause-promises c =
    promises_further c.args.system.now c.take_back.new.system c.ended.new.self c.args.txn (promises_same c.args.system.now c.take_back.new.system c.args.txn c.take_back.ensures.promised) (promises_ended c.take_back.new.system c.ended.new.self c.args.txn (ap (λ (s : Served). s.promised) c.in-Ok-ended.ensures.ok))

pub returns-in-Ok-ended-clause-released : goal.returns-in-Ok-ended-clause-released
returns-in-Ok-ended-clause-released c = released c.take_back.new.system c.ended.new.self c.args.txn (ap (λ (s : Served). s.promised) c.in-Ok-ended.ensures.ok)

pub returns-in-Err-ended-clause-promises : goal.returns-in-Err-ended-clause-promises
returns-in-Err-ended-clause-promises c = promises_same c.args.system.now c.ended.new.self c.args.txn (ap (λ (s : Served). s.promised) c.in-Err-ended.ensures.receipt.err ∙ c.take_back.ensures.promised)

pub returns-in-Err-clause-promises : goal.returns-in-Err-clause-promises
returns-in-Err-clause-promises c = promises_same c.args.system.now c.take_back.new.system c.args.txn c.take_back.ensures.promised

pub returns-in-Ok-ended-clause-stop : goal.returns-in-Ok-ended-clause-stop
returns-in-Ok-ended-clause-stop c = ap (λ (s : Served). s.state.stop) c.in-Ok-ended.ensures.ok ∙ c.take_back.ensures.goes.stop

pub returns-in-Err-ended-clause-stop : goal.returns-in-Err-ended-clause-stop
returns-in-Err-ended-clause-stop c = ap (λ (s : Served). s.state.stop) c.in-Err-ended.ensures.receipt.err ∙ c.take_back.ensures.goes.stop

pub returns-in-Err-clause-stop : goal.returns-in-Err-clause-stop
returns-in-Err-clause-stop c = c.take_back.ensures.goes.stop

pub returns-in-Ok-ended-clause-holds : goal.returns-in-Ok-ended-clause-holds
returns-in-Ok-ended-clause-holds c = c.take_back.ensures.goes.holds

pub returns-in-Err-ended-clause-holds : goal.returns-in-Err-ended-clause-holds
returns-in-Err-ended-clause-holds c = c.take_back.ensures.goes.holds

pub returns-in-Err-clause-holds : goal.returns-in-Err-clause-holds
returns-in-Err-clause-holds c = c.take_back.ensures.goes.holds
