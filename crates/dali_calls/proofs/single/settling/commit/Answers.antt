use Rattle.dali_system.specs.Refused.{stop_refusal}
use Rattle.std.proofs.Common.{true, false, List, length, ◌≡◌, ap, sym, subst, ◌∙◌}
use Rattle.std.specs.List.{AllByRecursion}
use Rattle.std.specs.FinMap.{insert}
use Rattle.dali_record.specs.declared.operations.Pending.{Pending}
use Rattle.dali_att.specs.Table.{undos_at}
use Rattle.dali_att.specs.declared.state.State.TheVariants.{Live}
use Rattle.dali_runs.specs.State.{SystemState, state_of}
use Rattle.dali_runs.specs.Steps.{commit_logged}
use Rattle.dali_system.specs.Served.{Served, promised_for}
use Rattle.dali_system.specs.Promised.{Promised, promised_to, used}
use Rattle.dali_calls.proofs.Others.{promises_further}
use Rattle.dali_calls.specs.Single.Settling.{MayFree}
use Rattle.dali_calls.proofs.SingleLemmas.Going.{row_there}
use Rattle.dali_calls.proofs.SingleLemmas.Settled.{may_free_all, commit_led, committed_state, commit_others, promise_left}
use Rattle.dali_calls.proofs.SingleLemmas.Promising.{promises_put, promises_used, runs_on, enough_to_commit}
use Rattle.dali_calls.proofs.single.settling.commit.Goals as goal

pub returns-clause-may : goal.returns-clause-may
returns-clause-may c =
    let same : c.ready.new.self.state ≡ c.args.system.now.state = ap (λ (s : Served). s.state) c.in_ok-removals.ensures.ok in
    let now : c.commit.new.self.state ≡ commit_logged c.args.system.now.state c.args.txn = ap (λ (s : Served). s.state) c.in_ok-commit.ensures.ok ∙ ap (λ (y : SystemState). commit_logged y c.args.txn) same in
    subst (λ (z : SystemState). AllByRecursion (MayFree z c.args.txn) c.in_ok-removals.removals.items) (sym now)
    (subst (λ (us : List Pending). AllByRecursion (MayFree (commit_logged c.args.system.now.state c.args.txn) c.args.txn) us) (sym c.in_ok-removals.ensures.removals)
    (may_free_all c.args.system.now.state c.args.txn (undos_at c.args.system.now.state.table c.args.txn) c.requires.covered))

pub returns-clause-ok : goal.returns-clause-ok
returns-clause-ok c =
    let same : c.ready.new.self.state ≡ c.args.system.now.state = ap (λ (s : Served). s.state) c.in_ok-removals.ensures.ok in
    commit_led c.args.system.now.state c.commit.new.self.state c.args.txn c.in_ok-removals.removals.items c.requires.lives c.in_ok-removals.ensures.removals
    (ap (λ (s : Served). s.state) c.in_ok-commit.ensures.ok ∙ ap (λ (y : SystemState). commit_logged y c.args.txn) same)
    (ap (λ (y : SystemState). y.stop) (sym same) ∙ c.in_ok-commit.ensures.receipt.runs)

pub returns-clause-committed : goal.returns-clause-committed
returns-clause-committed c =
    let same : c.ready.new.self.state ≡ c.args.system.now.state = ap (λ (s : Served). s.state) c.in_ok-removals.ensures.ok in
    let now : c.commit.new.self.state ≡ commit_logged c.args.system.now.state c.args.txn = ap (λ (s : Served). s.state) c.in_ok-commit.ensures.ok ∙ ap (λ (y : SystemState). commit_logged y c.args.txn) same in
    ap (λ (y : SystemState). state_of y c.args.txn) now ∙ committed_state c.args.system.now.state c.args.txn (row_there c.args.system.now.state c.args.txn Live c.requires.lives)

pub returns-clause-promised : goal.returns-clause-promised
returns-clause-promised c =
    let promised : c.commit.new.self.promised ≡ used (insert c.args.system.now.promised c.args.txn (promised_for (length c.in_ok-removals.removals.items))) c.args.txn 9 =
    ap (λ (s : Served). s.promised) c.in_ok-commit.ensures.ok ∙ ap (λ (s : Served). used s.promised c.args.txn 9) c.in_ok-removals.ensures.ok in
    ap (λ (m : Promised). promised_to m c.args.txn) promised ∙ promise_left c.args.system.now.promised c.args.txn (length c.in_ok-removals.removals.items)

pub returns-clause-others : goal.returns-clause-others
returns-clause-others c =
    let same : c.ready.new.self.state ≡ c.args.system.now.state = ap (λ (s : Served). s.state) c.in_ok-removals.ensures.ok in
    commit_others c.args.system.now.state c.commit.new.self.state c.args.txn (ap (λ (s : Served). s.state) c.in_ok-commit.ensures.ok ∙ ap (λ (y : SystemState). commit_logged y c.args.txn) same)

pub returns-clause-promises : goal.returns-clause-promises
returns-clause-promises c =
    promises_further c.args.system.now c.ready.new.self c.commit.new.self c.args.txn
    (promises_put c.args.system.now c.ready.new.self c.args.txn (promised_for (length c.in_ok-removals.removals.items)) (ap (λ (s : Served). s.promised) c.in_ok-removals.ensures.ok))
    (promises_used c.ready.new.self c.commit.new.self c.args.txn 9 (ap (λ (s : Served). s.promised) c.in_ok-commit.ensures.ok))

pub returns-in_err-commit-clause-promises : goal.returns-in_err-commit-clause-promises
returns-in_err-commit-clause-promises c = absurd (let no : false ≡ true = c.in_err-commit.ensures.promised (ap (λ (s : Served). stop_refusal s.state) c.in_ok-removals.ensures.ok ∙ runs_on c.args.system.now.state c.in_ok-removals.removals c.in_ok-removals.ensures.refused) (enough_to_commit c.args.system.now c.ready.new.self c.args.txn (length c.in_ok-removals.removals.items) c.in_ok-removals.ensures.ok) in cc)

pub returns-in_err-commit-clause-err : goal.returns-in_err-commit-clause-err
returns-in_err-commit-clause-err c = absurd (let no : false ≡ true = c.in_err-commit.ensures.promised (ap (λ (s : Served). stop_refusal s.state) c.in_ok-removals.ensures.ok ∙ runs_on c.args.system.now.state c.in_ok-removals.removals c.in_ok-removals.ensures.refused) (enough_to_commit c.args.system.now c.ready.new.self c.args.txn (length c.in_ok-removals.removals.items) c.in_ok-removals.ensures.ok) in cc)

pub returns-clause-logged : goal.returns-clause-logged
returns-clause-logged c =
    let same : c.ready.new.self.state ≡ c.args.system.now.state = ap (λ (s : Served). s.state) c.in_ok-removals.ensures.ok in
    ap (λ (s : Served). s.state) c.in_ok-commit.ensures.ok ∙ ap (λ (y : SystemState). commit_logged y c.args.txn) same
