use Rattle.std.proofs.Common.{◌∙◌, sym, subst}
use Rattle.dali_store.specs.Store.{Files as Disk}
use Rattle.dali_log.specs.Batch.{IsUnformatted}
use Rattle.dali_restart.specs.Restarting.{Gives, IsBadAnywhere, IsReadAs, outcome}
use Rattle.dali_inspect.specs.Inspected.{IsTooLong, Weighs}
use Rattle.dali_inspect.proofs.Told.{bad_as, long_as, unformatted_as, weighs}
use Rattle.dali_inspect.proofs.inspecting.find.Goals as goal

pub returns-in-Err-restart-clause-bad : goal.returns-in-Err-restart-clause-bad
returns-in-Err-restart-clause-bad c = λ file at e.
    subst (λ (d : Disk). IsBadAnywhere d file at) c.begin.ensures.same (c.in-Err-restart.ensures.bad file at (bad_as _ file at (sym c.into.ensures ∙ e)))

pub returns-in-Err-restart-clause-unformatted : goal.returns-in-Err-restart-clause-unformatted
returns-in-Err-restart-clause-unformatted c = λ e.
    subst (λ (d : Disk). IsUnformatted d.log) c.begin.ensures.same (c.in-Err-restart.ensures.unformatted (unformatted_as _ (sym c.into.ensures ∙ e)))

pub returns-in-Err-restart-clause-long : goal.returns-in-Err-restart-clause-long
returns-in-Err-restart-clause-long c = λ e. subst IsTooLong c.begin.ensures.same (c.in-Err-restart.ensures.long (long_as _ (sym c.into.ensures ∙ e)))

pub returns-clause-inspected : goal.returns-clause-inspected
returns-clause-inspected c =
    let made = c.in-Ok-restart.made in
    let same = c.begin.ensures.same in
    record {
      gives = subst (λ (d : Disk). Gives d (outcome made.0.regions.items made.1)) same c.in-Ok-restart.ensures.gives;
      read = subst (λ (d : Disk). IsReadAs d (outcome made.0.regions.items made.1)) same c.in-Ok-restart.ensures.read;
      image = c.in-Ok.ensures.image;
      log = subst (λ (d : Disk). Weighs d c.end-end.result) same (weighs _ _ _ _ made.0.system.state _ c.end-end.result c.end-end.ensures c.in-Ok-restart.ensures.begins);
    }
