use Rattle.std.proofs.Common.{true, ap, sym, subst, ◌+◌, inl, refl}
use Rattle.std.specs.Prelude.{IsErrOf}
use Rattle.dali_checkpoint.specs.declared.error.CheckpointError.TheVariants.{Fault}
use Rattle.dali_system.specs.Served.{Served}
use Rattle.dali_runs.specs.State.{SystemState}
use Rattle.dali_crash.specs.Checkpoints.{side_of}
use Rattle.dali_crash.specs.Disks.Disks.{image_name}
use Rattle.dali_checkpoint.specs.Done.{FailsToWrite, HasStarted}
use Rattle.dali_checkpoint.proofs.Joined.{started_over, fails_over}
use Rattle.dali_checkpoint.proofs.Moments.{none_left, no_call, more_left, left_over}
use Rattle.dali_checkpoint.proofs.checkpoint.Checkpoint.start.Goals as goal

pub returns-in-Ok-clause-ok : goal.returns-in-Ok-clause-ok
returns-in-Ok-clause-ok g c =
    started_over g.V.Store c.args.system.now.state true c.args.vault.now c.begin.new.vault c.in-Ok.checkpoint
    (subst (λ (y : SystemState). HasStarted g.V.Store y c.args.vault.now c.in-Ok.checkpoint c.begin.new.vault) (ap (λ (s : Served). s.state) c.start_copy.ensures.set) c.in-Ok.ensures.ok)

pub returns-in-Err-clause-fault : goal.returns-in-Err-clause-fault
returns-in-Err-clause-fault g c e =
    fails_over g.V.Store c.args.system.now.state true c.args.vault.now c.begin.new.vault (image_name (side_of (c.args.vault.now.current + 1))) 0 64
    (subst (λ (y : SystemState). FailsToWrite g.V.Store y c.args.vault.now (image_name (side_of (c.args.vault.now.current + 1))) 0 64 c.begin.new.vault) (ap (λ (s : Served). s.state) c.start_copy.ensures.set) (c.begin.ensures.fault (subst (λ r. IsErrOf r Fault) (sym c.in-Err.is) e)))

pub returns-then-not-start_copy-clause-any_moment : goal.returns-then-not-start_copy-clause-any_moment
returns-then-not-start_copy-clause-any_moment g c runs =
    no_call g.V.Store c.args.vault.now c.args.vault.now _ (λ d past. g.met.V.Store.only_now c.args.vault.now.store d past) refl
    (λ d left. inl (none_left g.V.Store c.args.system.now.state c.args.vault.now d left))

pub returns-in-Ok-clause-any_moment : goal.returns-in-Ok-clause-any_moment
returns-in-Ok-clause-any_moment g c runs =
    more_left g.V.Store c.args.vault.now c.begin.new.vault _ _
    (λ d left. left_over g.V.Store c.args.system.now.state c.start_copy.new.self.state c.args.vault.now (image_name (side_of (c.args.vault.now.current + 1))) 0 64 d true (ap (λ (s : Served). s.state) c.start_copy.ensures.set) left)
    (c.begin.ensures.any_moment runs)

pub returns-in-Err-clause-any_moment : goal.returns-in-Err-clause-any_moment
returns-in-Err-clause-any_moment g c runs =
    more_left g.V.Store c.args.vault.now c.begin.new.vault _ _
    (λ d left. left_over g.V.Store c.args.system.now.state c.start_copy.new.self.state c.args.vault.now (image_name (side_of (c.args.vault.now.current + 1))) 0 64 d true (ap (λ (s : Served). s.state) c.start_copy.ensures.set) left)
    (c.begin.ensures.any_moment runs)
