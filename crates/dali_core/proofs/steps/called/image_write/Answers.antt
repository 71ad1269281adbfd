use Rattle.std.specs.Prelude.{length}
use Rattle.dali_crash.specs.Disks.Disks.{image_name}
use Rattle.dali_core.proofs.StepsLemmas.Moments.{leaves_by, torn_none}
use Rattle.dali_core.proofs.steps.called.image_write.Goals as goal

pub returns-clause-any_moment : goal.returns-clause-any_moment
returns-clause-any_moment g c runs = leaves_by g.V.Store.moment g.V.Store.left_since g.V.Store.may_leave c.args.vault.now.store c.image_write.new.self.store _
    (λ d past. g.met.V.Store.only_now c.args.vault.now.store d past) (c.image_write.ensures.time runs)
    (λ d left. (d, left, torn_none (image_name c.args.side) c.args.at (length c.args.bytes.now) d))
    (λ d left. c.image_write.ensures.crash runs d left)
