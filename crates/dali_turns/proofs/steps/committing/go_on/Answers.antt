use Rattle.std.proofs.Common.{◌≡◌, ◌+◌, ◌<◌, ◌^◌, true, false, refl, ap, sym, ◌∙◌, is_ok, rules, Err}
use Rattle.std.proofs.lemmas.Bool.{ltb-true, ltb-false}
use Rattle.dali_runs.specs.Steps.{taken}
use Rattle.dali_transcripts.specs.declared.clients.command.Command.TheVariants.{Commit as IsCommit}
use Rattle.dali_transcripts.specs.declared.clients.line.Why.TheVariants.{StoreStopped as IsStoreStopped}
use Rattle.dali_turns.specs.declared.client.State.TheVariants.{Outside as IsOutside, Committing as IsCommitting}
use Rattle.dali_turns.proofs.Commands.{err_false}
use Rattle.dali_turns.proofs.Guarding.{vault_small, never_goes}
use Rattle.dali_turns.proofs.Putting.{err_on}
use Rattle.dali_turns.proofs.Placing.{still_outside, longer_outside}
use Rattle.dali_turns.proofs.Placed.{places_kept}
use Rattle.dali_turns.proofs.CommitSteps.{flush_ran, commit_unsaid_goes, flush_goes, fault_goes, fault_silent_goes, found_goes, found_silent_goes}
use Rattle.dali_turns.proofs.AtOnce.{says_line, ends_flushed, ends_waiting}
use Rattle.dali_turns.proofs.Meeting.{on_no_ok}
use Rattle.dali_turns.proofs.Moments.{leaves_still}
use Rattle.dali_turns.proofs.CommitMoments.{waits_leave}
use Rattle.dali_turns.proofs.steps.committing.go_on.Goals as goal

pub settle_next-requires-clause-flushed : goal.settle_next-requires-clause-flushed
settle_next-requires-clause-flushed g c = ltb-true c.args.number (c.args.core.now.system.state.first + c.args.core.now.vault.flushed) (sym c.is_flushed.ensures ∙ c.if-is_flushed.true)

pub returns-then-not-has_room : goal.returns-then-not-has_room
returns-then-not-has_room g c = record {
  goes = λ precheck.
      never_goes g.V.Store precheck (IsCommitting c.args.transaction c.args.number c.args.removals c.args.next) c.args.client.now c.args.core.now.regions.items c.args.core.now.system.state c.args.core.now.vault ((c.args.core.now.vault.end < 2 ^ 62) × (c.args.core.now.vault.current < 2 ^ 62)) _ _ _ _ _ (vault_small g.V.Store precheck (IsCommitting c.args.transaction c.args.number c.args.removals c.args.next) c.args.client.now c.args.core.now.regions.items c.args.core.now.system.state c.args.core.now.vault)
      (λ h. let told = c.has_room.ensures.told h in absurd (cc));
  places = still_outside _ _ _ _ _ c.requires.stands;
  on = search rules;
  any_moment = leaves_still g.V.Store (IsCommitting c.args.transaction c.args.number c.args.removals c.args.next) c.args.client.now c.args.core.now.regions.items c.args.core.now.system.state c.args.core.now.system.state c.args.core.now.vault c.args.core.now.vault (λ d past. g.met.V.Store.only_now c.args.core.now.vault.store d past) refl;
  refuses = ends_waiting c.args.number c.args.client.now c.args.core.now.system.state c.args.core.now.vault.flushed c.no_run.result _ _ (ltb-false c.args.number (c.args.core.now.system.state.first + c.args.core.now.vault.flushed) (sym c.is_flushed.ensures ∙ c.if-is_flushed.false)) (λ e. on_no_ok _ c.no_run.result c.no_run.ensures);
}

pub returns-in-Ok : goal.returns-in-Ok
returns-in-Ok g c =
    let same : c.flush.new.core.regions.items ≡ c.args.core.now.regions.items = search rules in
    let is : c.flush.new.core.system.state ≡ taken c.args.core.now.system.state = search rules in
    record {
      goes = λ precheck.
          flush_goes g.V.Store precheck c.args.transaction c.args.number c.args.removals.items c.args.next (IsCommitting c.args.transaction c.args.number c.args.removals c.args.next) (λ s B p w gs y v a rest f. f) (λ n e. e) (λ n e. e) c.args.client.now _ c.args.core.now.regions.items c.args.core.now.system.state c.args.core.now.vault c.flush.new.core.regions.items c.flush.new.core.system.state c.flush.new.core.vault same c.flush.ensures.whole is
          (flush_ran c.flush.result c.args.core.now.vault.stopped c.flush.new.core.vault.stopped _ (ap (λ v. v.stopped) c.in-Ok.ensures.ok.2) c.flush.ensures.stopped (ap is_ok c.in-Ok.is))
          c.in-Ok.ensures.durable (record { rest = refl; stands = refl; points = refl; transcript = refl }) (λ s B p w gs y v a rest f. f);
      places = places_kept g.V.Store.told (IsCommitting c.args.transaction c.args.number c.args.removals c.args.next) _ c.args.core.now.regions.items c.flush.new.core.regions.items c.args.core.now.vault c.flush.new.core.vault same c.flush.ensures.files tt;
      on = refl;
      any_moment = waits_leave g.V.Store c.args.core.now.regions.items c.args.core.now.system.state c.args.core.now.vault c.flush.new.core.vault (λ d past. g.met.V.Store.only_now c.args.core.now.vault.store d past) (λ e. ap (λ k. k.vault) (c.flush.ensures.stopped e).1) c.flush.ensures.any_moment (IsCommitting c.args.transaction c.args.number c.args.removals c.args.next) c.args.client.now c.flush.new.core.system.state;
      refuses = ends_waiting c.args.number c.args.client.now c.args.core.now.system.state c.args.core.now.vault.flushed _ _ _ (ltb-false c.args.number (c.args.core.now.system.state.first + c.args.core.now.vault.flushed) (sym c.is_flushed.ensures ∙ c.if-is_flushed.false)) (λ e. let no : true ≡ false = sym e ∙ flush_ran c.flush.result c.args.core.now.vault.stopped c.flush.new.core.vault.stopped _ (ap (λ v. v.stopped) c.in-Ok.ensures.ok.2) c.flush.ensures.stopped (ap is_ok c.in-Ok.is) in absurd (cc));
    }

pub returns-in-Err-Fault : goal.returns-in-Err-Fault
returns-in-Err-Fault g c =
    let core_is = (c.in-Err-Fault.ensures.fault (ap Err c.in-Err-Fault.field-0-is)).0 in
    record {
      goes = λ precheck. fault_goes g.V.Store precheck c.args.transaction c.args.number c.args.removals.items c.args.next (IsCommitting c.args.transaction c.args.number c.args.removals c.args.next) (λ s B p w gs y v a rest f. f) (λ n e. e) (λ n e. e) c.args.client.now c.finish.new.self c.args.core.now.regions.items c.args.core.now.system.state c.args.core.now.vault c.flush.new.core.regions.items c.flush.new.core.system.state c.flush.new.core.vault (ap (λ k. k.regions.items) core_is) c.flush.ensures.whole (ltb-false c.args.number (c.args.core.now.system.state.first + c.args.core.now.vault.flushed) (sym c.is_flushed.ensures ∙ c.if-is_flushed.false)) (ap (λ k. k.system.state) core_is) (ap (λ k. k.vault.stopped) core_is) (ap (λ k. k.vault.flushed) core_is) (c.in-Err-Fault.ensures.stops (ap Err c.in-Err-Fault.field-0-is)) c.in_ok-finish-in-Err-Fault.ensures.ok;
      places = longer_outside _ _ _ _ _ _ _ (ap (λ k. k.regions.items) core_is) c.flush.ensures.files c.in_ok-finish-in-Err-Fault.ensures.ok.stands;
      on = refl;
      any_moment = waits_leave g.V.Store c.args.core.now.regions.items c.args.core.now.system.state c.args.core.now.vault c.flush.new.core.vault (λ d past. g.met.V.Store.only_now c.args.core.now.vault.store d past) (λ e. ap (λ k. k.vault) (c.flush.ensures.stopped e).1) c.flush.ensures.any_moment (IsCommitting c.args.transaction c.args.number c.args.removals c.args.next) c.args.client.now c.flush.new.core.system.state;
      refuses = ends_waiting c.args.number c.args.client.now c.args.core.now.system.state c.args.core.now.vault.flushed _ _ _ (ltb-false c.args.number (c.args.core.now.system.state.first + c.args.core.now.vault.flushed) (sym c.is_flushed.ensures ∙ c.if-is_flushed.false)) (λ e. says_line c.args.client.now c.finish.new.self IsOutside IsCommit IsStoreStopped IsStoreStopped refl c.in_ok-finish-in-Err-Fault.ensures.ok);
    }

pub returns-in_err-finish-in-Err-Fault : goal.returns-in_err-finish-in-Err-Fault
returns-in_err-finish-in-Err-Fault g c =
    let core_is = (c.in-Err-Fault.ensures.fault (ap Err c.in-Err-Fault.field-0-is)).0 in
    record {
      goes = λ precheck.
          commit_unsaid_goes g.V.Store precheck c.args.transaction c.args.number c.args.removals.items c.args.next (IsCommitting c.args.transaction c.args.number c.args.removals c.args.next) (λ s B p w gs y v a rest f. f) (λ n e. e) (λ n e. e) c.args.client.now c.finish.new.self c.args.core.now.regions.items c.args.core.now.system.state c.args.core.now.vault _ _ _ _ (err_false c.from_residual.result c.from_residual.ensures.0)
          (fault_silent_goes g.V.Store precheck c.args.transaction c.args.number c.args.removals.items c.args.next (IsCommitting c.args.transaction c.args.number c.args.removals c.args.next) (λ s B p w gs y v a rest f. f) (λ n e. e) (λ n e. e) c.args.client.now c.finish.new.self c.args.core.now.regions.items c.args.core.now.system.state c.args.core.now.vault c.flush.new.core.regions.items c.flush.new.core.system.state c.flush.new.core.vault (ap (λ k. k.regions.items) core_is) c.flush.ensures.whole (ltb-false c.args.number (c.args.core.now.system.state.first + c.args.core.now.vault.flushed) (sym c.is_flushed.ensures ∙ c.if-is_flushed.false)) (ap (λ k. k.system.state) core_is) (ap (λ k. k.vault.stopped) core_is) (ap (λ k. k.vault.flushed) core_is) (c.in-Err-Fault.ensures.stops (ap Err c.in-Err-Fault.field-0-is)) c.in_err-finish-in-Err-Fault.ensures.err);
      places = longer_outside _ _ _ _ _ _ _ (ap (λ k. k.regions.items) core_is) c.flush.ensures.files c.in_err-finish-in-Err-Fault.ensures.err.stands;
      on = err_on c.from_residual.result c.from_residual.ensures.0;
      any_moment = waits_leave g.V.Store c.args.core.now.regions.items c.args.core.now.system.state c.args.core.now.vault c.flush.new.core.vault (λ d past. g.met.V.Store.only_now c.args.core.now.vault.store d past) (λ e. ap (λ k. k.vault) (c.flush.ensures.stopped e).1) c.flush.ensures.any_moment (IsCommitting c.args.transaction c.args.number c.args.removals c.args.next) c.args.client.now c.flush.new.core.system.state;
      refuses = ends_waiting c.args.number c.args.client.now c.args.core.now.system.state c.args.core.now.vault.flushed c.from_residual.result _ _ (ltb-false c.args.number (c.args.core.now.system.state.first + c.args.core.now.vault.flushed) (sym c.is_flushed.ensures ∙ c.if-is_flushed.false)) (λ e. on_no_ok _ c.from_residual.result c.from_residual.ensures.0);
    }

pub returns : goal.returns
returns g c =
    let had = c.in-Err-Stopped.ensures.runs (ap Err c.in-Err-Stopped.field-0-is) in
    let same = (c.flush.ensures.stopped had).1 in
    record {
      goes = λ precheck. found_goes g.V.Store precheck c.args.transaction c.args.number c.args.removals.items c.args.next (IsCommitting c.args.transaction c.args.number c.args.removals c.args.next) (λ s B p w gs y v a rest f. f) (λ n e. e) (λ n e. e) c.args.client.now c.finish-in-Err-Stopped.new.self c.args.core.now.regions.items c.args.core.now.system.state c.args.core.now.vault (ltb-false c.args.number (c.args.core.now.system.state.first + c.args.core.now.vault.flushed) (sym c.is_flushed.ensures ∙ c.if-is_flushed.false)) had c.flush.new.core.regions.items c.flush.new.core.system.state c.flush.new.core.vault (ap (λ k. k.regions.items) same) (ap (λ k. k.system.state) same) (ap (λ k. k.vault) same) c.in_ok-finish-in-Err-Stopped.ensures.ok;
      places = longer_outside _ _ _ _ _ _ _ (ap (λ k. k.regions.items) same) c.flush.ensures.files c.in_ok-finish-in-Err-Stopped.ensures.ok.stands;
      on = refl;
      any_moment = waits_leave g.V.Store c.args.core.now.regions.items c.args.core.now.system.state c.args.core.now.vault c.flush.new.core.vault (λ d past. g.met.V.Store.only_now c.args.core.now.vault.store d past) (λ e. ap (λ k. k.vault) (c.flush.ensures.stopped e).1) c.flush.ensures.any_moment (IsCommitting c.args.transaction c.args.number c.args.removals c.args.next) c.args.client.now c.flush.new.core.system.state;
      refuses = ends_waiting c.args.number c.args.client.now c.args.core.now.system.state c.args.core.now.vault.flushed _ _ _ (ltb-false c.args.number (c.args.core.now.system.state.first + c.args.core.now.vault.flushed) (sym c.is_flushed.ensures ∙ c.if-is_flushed.false)) (λ e. says_line c.args.client.now c.finish-in-Err-Stopped.new.self IsOutside IsCommit IsStoreStopped IsStoreStopped refl c.in_ok-finish-in-Err-Stopped.ensures.ok);
    }

pub returns-in_err-finish-in-Err-Stopped : goal.returns-in_err-finish-in-Err-Stopped
returns-in_err-finish-in-Err-Stopped g c =
    let had = c.in-Err-Stopped.ensures.runs (ap Err c.in-Err-Stopped.field-0-is) in
    let same = (c.flush.ensures.stopped had).1 in
    record {
      goes = λ precheck.
          commit_unsaid_goes g.V.Store precheck c.args.transaction c.args.number c.args.removals.items c.args.next (IsCommitting c.args.transaction c.args.number c.args.removals c.args.next) (λ s B p w gs y v a rest f. f) (λ n e. e) (λ n e. e) c.args.client.now c.finish-in-Err-Stopped.new.self c.args.core.now.regions.items c.args.core.now.system.state c.args.core.now.vault _ _ _ _ (err_false c.from_residual-in_err-finish-in-Err-Stopped.result c.from_residual-in_err-finish-in-Err-Stopped.ensures.0)
          (found_silent_goes g.V.Store precheck c.args.transaction c.args.number c.args.removals.items c.args.next (IsCommitting c.args.transaction c.args.number c.args.removals c.args.next) (λ s B p w gs y v a rest f. f) (λ n e. e) (λ n e. e) c.args.client.now c.finish-in-Err-Stopped.new.self c.args.core.now.regions.items c.args.core.now.system.state c.args.core.now.vault (ltb-false c.args.number (c.args.core.now.system.state.first + c.args.core.now.vault.flushed) (sym c.is_flushed.ensures ∙ c.if-is_flushed.false)) had c.flush.new.core.regions.items c.flush.new.core.system.state c.flush.new.core.vault (ap (λ k. k.regions.items) same) (ap (λ k. k.system.state) same) (ap (λ k. k.vault) same) c.in_err-finish-in-Err-Stopped.ensures.err);
      places = longer_outside _ _ _ _ _ _ _ (ap (λ k. k.regions.items) same) c.flush.ensures.files c.in_err-finish-in-Err-Stopped.ensures.err.stands;
      on = err_on c.from_residual-in_err-finish-in-Err-Stopped.result c.from_residual-in_err-finish-in-Err-Stopped.ensures.0;
      any_moment = waits_leave g.V.Store c.args.core.now.regions.items c.args.core.now.system.state c.args.core.now.vault c.flush.new.core.vault (λ d past. g.met.V.Store.only_now c.args.core.now.vault.store d past) (λ e. ap (λ k. k.vault) (c.flush.ensures.stopped e).1) c.flush.ensures.any_moment (IsCommitting c.args.transaction c.args.number c.args.removals c.args.next) c.args.client.now c.flush.new.core.system.state;
      refuses = ends_waiting c.args.number c.args.client.now c.args.core.now.system.state c.args.core.now.vault.flushed c.from_residual-in_err-finish-in-Err-Stopped.result _ _ (ltb-false c.args.number (c.args.core.now.system.state.first + c.args.core.now.vault.flushed) (sym c.is_flushed.ensures ∙ c.if-is_flushed.false)) (λ e. on_no_ok _ c.from_residual-in_err-finish-in-Err-Stopped.result c.from_residual-in_err-finish-in-Err-Stopped.ensures.0);
    }

pub returns-then-is_flushed-clause-any_moment : goal.returns-then-is_flushed-clause-any_moment
returns-then-is_flushed-clause-any_moment g c = leaves_still g.V.Store (IsCommitting c.args.transaction c.args.number c.args.removals c.args.next) c.args.client.now c.args.core.now.regions.items c.args.core.now.system.state _ c.args.core.now.vault _ (λ d past. g.met.V.Store.only_now c.args.core.now.vault.store d past) c.settle_next.ensures.vault

pub returns-then-is_flushed-clause-refuses : goal.returns-then-is_flushed-clause-refuses
returns-then-is_flushed-clause-refuses g c =
    ends_flushed c.args.number c.args.client.now c.args.core.now.system.state c.args.core.now.vault.flushed _ _ _ (ltb-true c.args.number (c.args.core.now.system.state.first + c.args.core.now.vault.flushed) (sym c.is_flushed.ensures ∙ c.if-is_flushed.true)) c.settle_next.ensures.refuses
