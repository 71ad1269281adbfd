use Rattle.dali_core.proofs.StepsLemmas.Moments.{leaves_by}
use Rattle.dali_core.proofs.steps.called.image_sync.Goals as goal

pub returns-clause-any_moment : goal.returns-clause-any_moment
returns-clause-any_moment g c runs = leaves_by g.V.Store.moment g.V.Store.left_since g.V.Store.may_leave c.args.vault.now.store c.image_sync.new.self.store (g.V.Store.may_leave c.args.vault.now.store)
    (λ d past. g.met.V.Store.only_now c.args.vault.now.store d past) (c.image_sync.ensures.time runs)
    (λ d left. left)
    (λ d left. c.image_sync.ensures.crash d left)
