use Rattle.dali_log.specs.Appending.{SomeAdded}
use Rattle.dali_store.proofs.Moments.{started, if_some_with}
use Rattle.dali_restart.specs.Renewal.Logged.{restart_bodies}
use Rattle.dali_restart.proofs.RenewalLemmas.Bodies.{none_added}
use Rattle.dali_restart.proofs.renewal.logging.log_restart.Goals as goal

pub returns-in-Err-clause-any_moment : goal.returns-in-Err-clause-any_moment
returns-in-Err-clause-any_moment g c =
    let s0 = c.args.store.now in
    let may = g.V.Store.may_leave in
    let more = restart_bodies c.args.rolled_back.now c.args.deleted.now in
    if_some_with _ _ (λ closed. started g.V.Store.moment g.V.Store.left_since s0 (SomeAdded (may s0) c.args.end more) (λ f left. none_added (may s0) c.args.end more closed f (g.met.V.Store.only_now s0 f left))) c.requires.closed
