use Rattle.dali_system.specs.Refused.{stop_of}
use Rattle.dali_calls.proofs.Others.{ended_gone, promises_same, promises_further, promises_ended}
use Rattle.dali_calls.specs.Single.Single.{OthersStay}
use Rattle.std.proofs.Common.{◌≡◌, true, false, ap, sym, subst, ◌∙◌, []}
use Rattle.dali_system.specs.Served.{Served}
use Rattle.dali_calls.proofs.SingleLemmas.Settled.{none_behind, settle_ends, settle_refused, settled_others, none_left_again}
use Rattle.dali_calls.proofs.SingleLemmas.Refusing.{end_stuck}
use Rattle.dali_calls.proofs.SingleLemmas.Promising.{released}
use Rattle.dali_calls.proofs.single.settling.settle.Goals as goal

pub free_all-requires : goal.free_all-requires
free_all-requires c = record { whole = c.requires.whole; may = c.requires.may; committed = c.requires.committed }

pub returns-in-Err-ended-clause-err : goal.returns-in-Err-ended-clause-err
returns-in-Err-ended-clause-err c = settle_refused c.args.regions.now c.free_all.new.regions c.args.system.now.state c.free_all.new.system c.ended.new.self c.args.txn c.args.removals.now c.in-Ok.ensures.ok c.in-Err-ended.ensures.receipt.err c.in-Ok.ensures.freed

pub returns-in-Ok-ended-clause-ok : goal.returns-in-Ok-ended-clause-ok
returns-in-Ok-ended-clause-ok c = settle_ends c.args.regions.now c.free_all.new.regions c.args.system.now.state c.free_all.new.system.state c.ended.new.self.state c.args.txn c.args.removals.now c.in-Ok.ensures.ok c.in-Ok-ended.ensures.receipt.runs (ap (λ (s : Served). s.state) c.in-Ok-ended.ensures.ok)

pub returns-in-Err-ended-clause-promised : goal.returns-in-Err-ended-clause-promised
returns-in-Err-ended-clause-promised c = λ h. let left = c.in-Ok.ensures.kept h in absurd (let no : false ≡ true = c.in-Err-ended.ensures.promised (ap stop_of left.runs) left.enough in cc)

pub returns-in-Ok-ended-clause-others : goal.returns-in-Ok-ended-clause-others
returns-in-Ok-ended-clause-others c = settled_others c.args.regions.now c.free_all.new.regions c.args.system.now.state c.free_all.new.system.state c.ended.new.self.state c.args.txn c.args.removals.now [] c.in-Ok.ensures.ok (ap (λ (s : Served). s.state) c.in-Ok-ended.ensures.ok)

pub returns-in-Err-ended-clause-others : goal.returns-in-Err-ended-clause-others
returns-in-Err-ended-clause-others c = subst (λ (s : Served). OthersStay c.args.system.now.state c.args.txn s.state) (sym c.in-Err-ended.ensures.receipt.err) c.in-Ok.ensures.ok.others

pub returns-in-Err-clause-others : goal.returns-in-Err-clause-others
returns-in-Err-clause-others c = c.in-Err.ensures.err.others

pub returns-in-Err-clause-err : goal.returns-in-Err-clause-err
returns-in-Err-clause-err c = c.in-Err.ensures.err.leads

pub returns-in-Err-clause-again : goal.returns-in-Err-clause-again
returns-in-Err-clause-again c = (c.in-Err.ensures.err.may, c.in-Err.ensures.err.state)

pub returns-in-Err-ended-clause-again : goal.returns-in-Err-ended-clause-again
returns-in-Err-ended-clause-again c = none_left_again c.args.regions.now c.free_all.new.regions c.args.system.now.state c.free_all.new.system c.ended.new.self c.args.txn c.args.removals.now c.in-Ok.ensures.ok c.in-Err-ended.ensures.receipt.err c.in-Ok.ensures.freed

pub returns-in-Ok-ended-clause-gone : goal.returns-in-Ok-ended-clause-gone
returns-in-Ok-ended-clause-gone c = ended_gone c.free_all.new.system.state c.ended.new.self.state c.args.txn (ap (λ (s : Served). s.state) c.in-Ok-ended.ensures.ok)

pub returns-in-Err-ended-clause-cause : goal.returns-in-Err-ended-clause-cause
returns-in-Err-ended-clause-cause c = end_stuck c.free_all.new.regions c.free_all.new.system c.ended.new.self c.in-Err-ended.cause _ (none_behind c.args.system.now.state c.free_all.new.system c.ended.new.self c.args.removals.now c.in-Err-ended.ensures.receipt.err c.in-Ok.ensures.freed) c.in-Err-ended.ensures.receipt.err c.in-Err-ended.ensures.receipt.refused c.in-Err-ended.ensures.receipt.memory

pub returns-in-Err-ended-clause-still : goal.returns-in-Err-ended-clause-still
returns-in-Err-ended-clause-still c = λ h. let left = c.in-Ok.ensures.kept h in absurd (let no : false ≡ true = c.in-Err-ended.ensures.promised (ap stop_of left.runs) left.enough in cc)

pub returns-in-Ok-ended-clause-sizes : goal.returns-in-Ok-ended-clause-sizes
returns-in-Ok-ended-clause-sizes c = ap (λ (s : Served). s.state.sizes) c.in-Ok-ended.ensures.ok ∙ c.in-Ok.ensures.ok.sizes

pub returns-in-Err-ended-clause-sizes : goal.returns-in-Err-ended-clause-sizes
returns-in-Err-ended-clause-sizes c = ap (λ (s : Served). s.state.sizes) c.in-Err-ended.ensures.receipt.err ∙ c.in-Ok.ensures.ok.sizes

pub returns-in-Err-clause-sizes : goal.returns-in-Err-clause-sizes
returns-in-Err-clause-sizes c = c.in-Err.ensures.err.sizes

pub returns-in-Ok-ended-clause-promises : goal.returns-in-Ok-ended-clause-promises
returns-in-Ok-ended-clause-promises c =
    promises_further c.args.system.now c.free_all.new.system c.ended.new.self c.args.txn c.free_all.ensures.promises (promises_ended c.free_all.new.system c.ended.new.self c.args.txn (ap (λ (s : Served). s.promised) c.in-Ok-ended.ensures.ok))

pub returns-in-Ok-ended-clause-released : goal.returns-in-Ok-ended-clause-released
returns-in-Ok-ended-clause-released c = released c.free_all.new.system c.ended.new.self c.args.txn (ap (λ (s : Served). s.promised) c.in-Ok-ended.ensures.ok)

pub returns-in-Err-ended-clause-promises : goal.returns-in-Err-ended-clause-promises
returns-in-Err-ended-clause-promises c =
    promises_further c.args.system.now c.free_all.new.system c.ended.new.self c.args.txn c.free_all.ensures.promises (promises_same c.free_all.new.system c.ended.new.self c.args.txn (ap (λ (s : Served). s.promised) c.in-Err-ended.ensures.receipt.err))

pub returns-in-Err-clause-promises : goal.returns-in-Err-clause-promises
returns-in-Err-clause-promises c = c.free_all.ensures.promises

pub returns-in-Ok-ended-clause-holds : goal.returns-in-Ok-ended-clause-holds
returns-in-Ok-ended-clause-holds c = c.in-Ok.ensures.ok.holds

pub returns-in-Err-ended-clause-holds : goal.returns-in-Err-ended-clause-holds
returns-in-Err-ended-clause-holds c = c.in-Ok.ensures.ok.holds

pub returns-in-Err-clause-holds : goal.returns-in-Err-clause-holds
returns-in-Err-clause-holds c = c.in-Err.ensures.err.holds
