use Rattle.std.proofs.Common.{◌≤◌, ◌^◌, subst}
use Rattle.std.proofs.lemmas.Result.{IfOk-weaker}
use Rattle.dali_core.proofs.StepsLemmas.Lengths.{grows_by}
use Rattle.dali_core.proofs.steps.called.flush.Goals as goal

pub returns-clause-grows : goal.returns-clause-grows
returns-clause-grows g c = grows_by c.args.vault.now c.flush.new.self c.args.frame.now c.flush.result _ (subst (λ n. n ≤ 2 ^ 30) c.len-length.ensures.len c.len-length.ensures.most) (λ x p. p.0) c.flush.ensures.ok

pub returns-clause-place : goal.returns-clause-place
returns-clause-place g c = IfOk-weaker c.flush.result _ _ (λ x p. p.1) c.flush.ensures.ok
