use Rattle.std.proofs.Common.{◌≡◌, true, false, length, ap, ◌∙◌}
use Rattle.dali_system.specs.Refused.{stop_refusal}
use Rattle.dali_system.specs.Served.{Served}
use Rattle.dali_calls.proofs.SingleLemmas.Promising.{runs_on, enough_to_commit}
use Rattle.dali_locked.proofs.system.log_commit.Goals as goal

pub returns-in_err-receipt-clause-err : goal.returns-in_err-receipt-clause-err
returns-in_err-receipt-clause-err c = absurd (
    let no : false ≡ true = c.in_err-receipt.ensures.promised (ap (λ (s : Served). stop_refusal s.state) c.in_ok-removed.ensures.ok ∙ runs_on c.args.system.now.state c.in_ok-removed.removed c.in_ok-removed.ensures.refused)
    (enough_to_commit c.args.system.now c.ready.new.self c.args.txn (length c.in_ok-removed.removed.items) c.in_ok-removed.ensures.ok) in
    cc)
