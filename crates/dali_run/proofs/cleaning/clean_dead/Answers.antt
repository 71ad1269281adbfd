use Rattle.std.proofs.Common.{List, ℕ, subst}
use Rattle.dali_run.specs.Steps.{CleansAll}
use Rattle.dali_run.proofs.Cleaned.{has_cleaned}
use Rattle.dali_run.proofs.cleaning.clean_dead.Goals as goal

pub returns-clause-cleaned : goal.returns-clause-cleaned
returns-clause-cleaned g c =
    has_cleaned g.V.Store c.in_ok-dead.dead.items c.args.core.now c.clean_all.new.core c.in_ok-dead.ensures
    (subst (λ (l : List ℕ). CleansAll g.V.Store l c.args.core.now c.clean_all.new.core) c.deref.ensures.value c.in_ok-clean_all.ensures.cleans)
