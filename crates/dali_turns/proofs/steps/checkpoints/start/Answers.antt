use Rattle.std.proofs.Common.{⊎_elim, ◌≡◌, ◌<◌, ◌^◌, true, Err, refl, ap, rules, false, sym, ◌∙◌}
use Rattle.dali_system.specs.Served.{Served}
use Rattle.dali_checkpoint.specs.declared.error.CheckpointError.TheVariants.{InProgress, Stopped}
use Rattle.dali_turns.specs.declared.client.State.TheVariants.{Outside as IsOutside}
use Rattle.dali_turns.proofs.Putting.{err_on}
use Rattle.dali_turns.proofs.Commands.{err_false}
use Rattle.dali_turns.proofs.CheckpointSteps.{starts_goes, refused_start_goes, unsaid_start_goes}
use Rattle.dali_turns.proofs.Guarding.{never_goes, vault_small}
use Rattle.dali_turns.proofs.Placing.{still_outside, longer_outside, longer_go, ends_outside, unsaid_outside}
use Rattle.dali_turns.proofs.Moments.{leaves_still}
use Rattle.dali_turns.proofs.CheckpointMoments.{start_leaves, stopped_says, never_started, start_stays, not_both}
use Rattle.dali_turns.proofs.Meeting.{on_no_ok}
use Rattle.dali_turns.proofs.AtOnce.{start_refused, never_both_ways, one_error, says_running, says_halted}
use Rattle.dali_turns.proofs.steps.checkpoints.start.Goals as goal

pub returns-in-Ok : goal.returns-in-Ok
returns-in-Ok g c = record {
  goes = λ precheck.
      starts_goes g.V.Store precheck c.args.client.now _ c.args.core.now.regions.items c.args.core.now.system.state c.args.core.now.vault c.requires.next
      c.start.result c.in-Ok.checkpoint c.in-Ok.is c.in-Ok.checkpoint c.start.new.system.state c.start.new.vault c.in-Ok.ensures.ok c.start.ensures.files c.in-Ok.ensures.flag.0 c.start.ensures.stopped
      (ap (λ (x : Served). x.state) c.in-Ok.ensures.flag.1) refl;
  places = longer_go _ _ _ _ _ _ c.start.ensures.files c.in-Ok.ensures.reaches;
  on = refl;
  any_moment = start_leaves g.V.Store c.args.client.now c.args.core.now.regions.items c.args.core.now.system.state c.start.new.system.state c.args.core.now.vault c.start.new.vault (λ d past. g.met.V.Store.only_now c.args.core.now.vault.store d past) c.requires.next (λ cause stop. absurd (never_started c.args.core.now.system.state c.args.core.now.vault cause c.in-Ok.checkpoint c.start.result c.in-Ok.is stop (c.start.ensures.stopped c.in-Ok.ensures.flag.0))) (λ set. absurd (let never : true ≡ false = sym set ∙ c.in-Ok.ensures.flag.0 in cc)) c.start.ensures.any_moment;
  refuses = λ why is.
      ⊎_elim (λ there. never_both_ways c.args.core.now.system.state.checking there.0 c.in-Ok.ensures.flag.0)
      (λ there. absurd (never_started c.args.core.now.system.state c.args.core.now.vault there.1.0 c.in-Ok.checkpoint c.start.result c.in-Ok.is there.1.1 (c.start.ensures.stopped there.0)))
      (start_refused c.args.core.now.system.state.checking c.args.core.now.system.state.stop why is);
}

pub returns-in_err-end-in-Err : goal.returns-in_err-end-in-Err
returns-in_err-end-in-Err g c = record {
  goes = λ precheck.
      unsaid_start_goes g.V.Store precheck c.args.client.now c.end.new.client c.args.core.now.regions.items c.args.core.now.system.state c.args.core.now.vault c.requires.next
      (Err c.in-Err.error) c.in-Err.error refl c.start.new.system.state c.start.new.vault c.in-Err.ensures.in_progress c.in-Err.ensures.alone c.in-Err.ensures.stopped c.in-Err.ensures.runs
      (λ f. ap (λ (x : Served). x.state) (c.in-Err.ensures.stops f)) c.in-Err.ensures.fault (λ other. let same = c.in-Err.ensures.same other in (ap (λ (x : Served). x.state) same.0, same.1)) c.start.ensures.files
      _ (err_false c.from_residual.result c.from_residual.ensures.0) c.in_err-end-in-Err.ensures.err;
  places = longer_outside _ _ _ _ _ _ _ refl c.start.ensures.files (unsaid_outside _ _ (Err c.in-Err.error) c.requires.stands c.in_err-end-in-Err.ensures.err);
  on = err_on c.from_residual.result c.from_residual.ensures.0;
  any_moment = start_leaves g.V.Store c.args.client.now c.args.core.now.regions.items c.args.core.now.system.state c.start.new.system.state c.args.core.now.vault c.start.new.vault (λ d past. g.met.V.Store.only_now c.args.core.now.vault.store d past) c.requires.next (start_stays c.args.core.now.system.state c.args.core.now.vault c.start.new.vault (Err c.in-Err.error) c.in-Err.ensures.in_progress c.in-Err.ensures.stopped (λ other. (c.in-Err.ensures.same other).1)) (λ set. (c.in-Err.ensures.same (λ f. not_both (Err c.in-Err.error) (c.in-Err.ensures.in_progress set) f)).1) c.start.ensures.any_moment;
  refuses = λ why is. on_no_ok _ c.from_residual.result c.from_residual.ensures.0;
}

pub returns-in_ok-end-in-Err : goal.returns-in_ok-end-in-Err
returns-in_ok-end-in-Err g c = record {
  goes = λ precheck.
      refused_start_goes g.V.Store precheck c.args.client.now c.end.new.client c.args.core.now.regions.items c.args.core.now.system.state c.args.core.now.vault c.requires.next
      (Err c.in-Err.error) c.in-Err.error refl c.start.new.system.state c.start.new.vault c.in-Err.ensures.in_progress c.in-Err.ensures.alone c.in-Err.ensures.stopped c.in-Err.ensures.runs
      (λ f. ap (λ (x : Served). x.state) (c.in-Err.ensures.stops f)) c.in-Err.ensures.fault (λ other. let same = c.in-Err.ensures.same other in (ap (λ (x : Served). x.state) same.0, same.1)) c.start.ensures.files
      c.in_ok-end-in-Err.ensures.ok;
  places = longer_outside _ _ _ _ _ _ _ refl c.start.ensures.files (ends_outside _ _ (Err c.in-Err.error) c.in_ok-end-in-Err.ensures.ok);
  on = refl;
  any_moment = start_leaves g.V.Store c.args.client.now c.args.core.now.regions.items c.args.core.now.system.state c.start.new.system.state c.args.core.now.vault c.start.new.vault (λ d past. g.met.V.Store.only_now c.args.core.now.vault.store d past) c.requires.next (start_stays c.args.core.now.system.state c.args.core.now.vault c.start.new.vault (Err c.in-Err.error) c.in-Err.ensures.in_progress c.in-Err.ensures.stopped (λ other. (c.in-Err.ensures.same other).1)) (λ set. (c.in-Err.ensures.same (λ f. not_both (Err c.in-Err.error) (c.in-Err.ensures.in_progress set) f)).1) c.start.ensures.any_moment;
  refuses = λ why is.
      ⊎_elim (λ there. says_running c.args.client.now c.end.new.client c.in-Err.error why (one_error c.start.result c.in-Err.error InProgress c.in-Err.is (c.start.ensures.in_progress there.0)) there.1 c.in_ok-end-in-Err.ensures.ok)
      (λ there. says_halted c.args.client.now c.end.new.client c.in-Err.error there.1.0 why (one_error c.start.result c.in-Err.error (Stopped there.1.0) c.in-Err.is (stopped_says c.args.core.now.system.state c.args.core.now.vault there.1.0 c.start.result there.1.1 (c.start.ensures.stopped there.0))) there.1.2 c.in_ok-end-in-Err.ensures.ok)
      (start_refused c.args.core.now.system.state.checking c.args.core.now.system.state.stop why is);
}

pub returns-then-not-has_room : goal.returns-then-not-has_room
returns-then-not-has_room g c = record {
  goes = λ precheck.
      never_goes g.V.Store precheck IsOutside c.args.client.now c.args.core.now.regions.items c.args.core.now.system.state c.args.core.now.vault ((c.args.core.now.vault.end < 2 ^ 62) × (c.args.core.now.vault.current < 2 ^ 62)) _ _ _ _ _
      (vault_small g.V.Store precheck IsOutside c.args.client.now c.args.core.now.regions.items c.args.core.now.system.state c.args.core.now.vault)
      (λ h. let small : c.has_room.result ≡ true = c.has_room.ensures.told h in search rules);
  places = still_outside _ _ _ _ _ c.requires.stands;
  on = err_on _ c.no_run.ensures;
  any_moment = leaves_still g.V.Store IsOutside c.args.client.now c.args.core.now.regions.items c.args.core.now.system.state _ c.args.core.now.vault _ (λ d past. g.met.V.Store.only_now c.args.core.now.vault.store d past) refl;
  refuses = λ why is. on_no_ok _ _ c.no_run.ensures;
}
