use Rattle.std.proofs.Common.{is_some, ◌+◌, refl, ap, sym, ◌∙◌, rules, arith}
use Rattle.std.specs.Prelude.{slice_get}
use Rattle.dali_lists.proofs.Options.{none_of_test}
use Rattle.dali_turns.specs.declared.client.State.TheVariants.{Committing as IsCommitting}
use Rattle.dali_turns.proofs.Commands.{err_false}
use Rattle.dali_turns.proofs.Putting.{err_on}
use Rattle.dali_turns.proofs.Placing.{still_outside}
use Rattle.dali_turns.proofs.Placed.{places_still, places_beside, at_state}
use Rattle.dali_turns.proofs.CommitSteps.{commit_unsaid_goes, ok_goes, ok_silent_goes, unended_goes, freed_goes, unfreed_goes, ended_goes, ended_silent_goes, others_ended, ended_row}
use Rattle.dali_turns.proofs.AtOnce.{says_commit, is_there}
use Rattle.dali_turns.proofs.Meeting.{on_no_ok}
use Rattle.dali_turns.proofs.steps.committing.settle_next.Goals as goal

pub returns-then-is_some : goal.returns-then-is_some
returns-then-is_some g c = record {
  goes = λ precheck. ok_goes g.V.Store precheck c.args.transaction c.args.number c.args.removals.items c.args.next (IsCommitting c.args.transaction c.args.number c.args.removals c.args.next) (λ s B p w gs y v a rest f. f) (λ n e. e) (λ n e. e) c.args.client.now c.finish.new.self c.args.core.now.regions.items c.args.core.now.system.state c.args.core.now.vault c.requires.flushed (ap is_some (sym c.stopped.ensures) ∙ (sym c.is_some.ensures ∙ c.if-is_some.true)) c.in_ok-finish.ensures.ok;
  places = still_outside _ _ _ _ _ c.in_ok-finish.ensures.ok.stands;
  on = refl;
  vault = refl;
  refuses = λ stop. says_commit c.args.client.now c.finish.new.self c.in_ok-finish.ensures.ok;
}

pub returns-in_err-finish : goal.returns-in_err-finish
returns-in_err-finish g c = record {
  goes = λ precheck.
      commit_unsaid_goes g.V.Store precheck c.args.transaction c.args.number c.args.removals.items c.args.next (IsCommitting c.args.transaction c.args.number c.args.removals c.args.next) (λ s B p w gs y v a rest f. f) (λ n e. e) (λ n e. e) c.args.client.now c.finish.new.self c.args.core.now.regions.items c.args.core.now.system.state c.args.core.now.vault _ _ _ _ (err_false c.from_residual.result c.from_residual.ensures.0)
      (ok_silent_goes g.V.Store precheck c.args.transaction c.args.number c.args.removals.items c.args.next (IsCommitting c.args.transaction c.args.number c.args.removals c.args.next) (λ s B p w gs y v a rest f. f) (λ n e. e) (λ n e. e) c.args.client.now c.finish.new.self c.args.core.now.regions.items c.args.core.now.system.state c.args.core.now.vault c.requires.flushed c.in_err-finish.ensures.err.transcript);
  places = still_outside _ _ _ _ _ c.in_err-finish.ensures.err.stands;
  on = err_on c.from_residual.result c.from_residual.ensures.0;
  vault = refl;
  refuses = λ stop. on_no_ok _ c.from_residual.result c.from_residual.ensures.0;
}

pub returns-in-Ok : goal.returns-in-Ok
returns-in-Ok g c =
    let regions = ap (λ k. k.regions.items) c.end_commit.ensures.rest in
    let vault = ap (λ k. k.vault) c.end_commit.ensures.rest in
    record {
      goes = λ precheck.
          ended_goes g.V.Store precheck c.args.transaction c.args.number c.args.removals.items c.args.next (IsCommitting c.args.transaction c.args.number c.args.removals c.args.next) (λ s B p w gs y v a rest f. f) (λ n e. e) (λ n e. e) c.args.client.now c.finish-in-Ok.new.self c.args.core.now.regions.items c.args.core.now.system.state c.args.core.now.vault c.requires.flushed (sym c.stopped.ensures ∙ none_of_test c.stopped.result (sym c.is_some.ensures ∙ c.if-is_some.false)) c.end_commit.new.core.regions.items c.end_commit.new.core.system.state c.end_commit.new.core.vault vault (others_ended _ _ _ _ c.args.transaction.txn regions c.in-Ok.ensures.state)
          (ap (λ l. slice_get l c.args.next) (sym c.deref.ensures.value) ∙ (sym c.removal_at.ensures.is ∙ c.in-None.is)) c.in-Ok.ensures.ok (ended_row _ _ c.args.transaction.txn c.in-Ok.ensures.state) c.in_ok-finish-in-Ok.ensures.ok;
      places = places_still g.V.Store.told (IsCommitting c.args.transaction c.args.number c.args.removals c.args.next) _ c.args.core.now.regions.items c.end_commit.new.core.regions.items c.args.core.now.vault c.end_commit.new.core.vault regions vault (at_state g.V.Store.told _ _ _ _ _ c.in_ok-finish-in-Ok.ensures.ok.stands tt);
      on = refl;
      vault = vault;
      refuses = λ stop. is_there c.args.core.now.system.state.stop (sym c.stopped.ensures ∙ none_of_test c.stopped.result (sym c.is_some.ensures ∙ c.if-is_some.false)) stop;
    }

pub returns-in_err-finish-in-Ok : goal.returns-in_err-finish-in-Ok
returns-in_err-finish-in-Ok g c =
    let regions = ap (λ k. k.regions.items) c.end_commit.ensures.rest in
    let vault = ap (λ k. k.vault) c.end_commit.ensures.rest in
    record {
      goes = λ precheck.
          commit_unsaid_goes g.V.Store precheck c.args.transaction c.args.number c.args.removals.items c.args.next (IsCommitting c.args.transaction c.args.number c.args.removals c.args.next) (λ s B p w gs y v a rest f. f) (λ n e. e) (λ n e. e) c.args.client.now c.finish-in-Ok.new.self c.args.core.now.regions.items c.args.core.now.system.state c.args.core.now.vault _ _ _ _ (err_false c.from_residual-in_err-finish-in-Ok.result c.from_residual-in_err-finish-in-Ok.ensures.0)
          (ended_silent_goes g.V.Store precheck c.args.transaction c.args.number c.args.removals.items c.args.next (IsCommitting c.args.transaction c.args.number c.args.removals c.args.next) (λ s B p w gs y v a rest f. f) (λ n e. e) (λ n e. e) c.args.client.now c.finish-in-Ok.new.self c.args.core.now.regions.items c.args.core.now.system.state c.args.core.now.vault c.requires.flushed (sym c.stopped.ensures ∙ none_of_test c.stopped.result (sym c.is_some.ensures ∙ c.if-is_some.false)) c.end_commit.new.core.regions.items c.end_commit.new.core.system.state c.end_commit.new.core.vault vault (others_ended _ _ _ _ c.args.transaction.txn regions c.in-Ok.ensures.state)
          (ap (λ l. slice_get l c.args.next) (sym c.deref.ensures.value) ∙ (sym c.removal_at.ensures.is ∙ c.in-None.is)) c.in-Ok.ensures.ok (ended_row _ _ c.args.transaction.txn c.in-Ok.ensures.state) c.in_err-finish-in-Ok.ensures.err.transcript);
      places = places_still g.V.Store.told (IsCommitting c.args.transaction c.args.number c.args.removals c.args.next) _ c.args.core.now.regions.items c.end_commit.new.core.regions.items c.args.core.now.vault c.end_commit.new.core.vault regions vault (at_state g.V.Store.told _ _ _ _ _ c.in_err-finish-in-Ok.ensures.err.stands tt);
      on = err_on c.from_residual-in_err-finish-in-Ok.result c.from_residual-in_err-finish-in-Ok.ensures.0;
      vault = vault;
      refuses = λ stop. is_there c.args.core.now.system.state.stop (sym c.stopped.ensures ∙ none_of_test c.stopped.result (sym c.is_some.ensures ∙ c.if-is_some.false)) stop;
    }

pub returns-in-None : goal.returns-in-None
returns-in-None g c =
    let same = c.in-Err.ensures.err in
    record {
      goes = λ precheck. commit_unsaid_goes g.V.Store precheck c.args.transaction c.args.number c.args.removals.items c.args.next (IsCommitting c.args.transaction c.args.number c.args.removals c.args.next) (λ s B p w gs y v a rest f. f) (λ n e. e) (λ n e. e) c.args.client.now c.args.client.now c.args.core.now.regions.items c.args.core.now.system.state c.args.core.now.vault _ _ _ _ (err_false c.no_run.result c.no_run.ensures)
          (unended_goes g.V.Store precheck c.args.transaction c.args.number c.args.removals.items c.args.next (IsCommitting c.args.transaction c.args.number c.args.removals c.args.next) (λ s B p w gs y v a rest f. f) (λ n e. e) (λ n e. e) c.args.client.now c.args.client.now c.args.core.now.regions.items c.args.core.now.system.state c.args.core.now.vault c.requires.flushed c.end_commit.new.core.regions.items c.end_commit.new.core.system.state c.end_commit.new.core.vault (ap (λ k. k.regions.items) same) (ap (λ k. k.system.state) same) (ap (λ k. k.vault) same) refl);
      places = places_still g.V.Store.told (IsCommitting c.args.transaction c.args.number c.args.removals c.args.next) _ c.args.core.now.regions.items c.end_commit.new.core.regions.items c.args.core.now.vault c.end_commit.new.core.vault (ap (λ k. k.regions.items) same) (ap (λ k. k.vault) same) (at_state g.V.Store.told _ _ _ _ _ c.requires.stands tt);
      on = search rules;
      vault = ap (λ k. k.vault) same;
      refuses = λ stop. is_there c.args.core.now.system.state.stop (sym c.stopped.ensures ∙ none_of_test c.stopped.result (sym c.is_some.ensures ∙ c.if-is_some.false)) stop;
    }

pub returns-in-Ok-free_removal : goal.returns-in-Ok-free_removal
returns-in-Ok-free_removal g c = record {
  goes = λ precheck.
      freed_goes g.V.Store precheck c.args.transaction c.args.number c.args.removals.items c.args.next (IsCommitting c.args.transaction c.args.number c.args.removals c.args.next) (λ s B p w gs y v a rest f. f) (λ n e. e) (λ n e. e) c.args.client.now _ c.args.core.now.regions.items c.args.core.now.system.state c.args.core.now.vault c.requires.flushed (sym c.stopped.ensures ∙ none_of_test c.stopped.result (sym c.is_some.ensures ∙ c.if-is_some.false)) c.free_removal.new.core.regions.items c.free_removal.new.core.system.state c.free_removal.new.core.vault c.free_removal.ensures.vault c.free_removal.ensures.others c.free_removal.ensures.still
      c.in-Some.removal (ap (λ l. slice_get l c.args.next) (sym c.deref.ensures.value) ∙ (sym c.removal_at.ensures.is ∙ c.in-Some.is)) c.free_removal.ensures.locks c.in-Ok-free_removal.ensures.ok (IsCommitting c.args.transaction c.args.number c.args.removals (c.args.next + 1)) (record { rest = refl; stands = refl; points = refl; transcript = refl })
      (λ s B p w gs y v a rest f. f) (λ n e. e);
  places = places_beside g.V.Store.told (IsCommitting c.args.transaction c.args.number c.args.removals c.args.next) _ c.args.core.now.regions.items c.free_removal.new.core.regions.items c.args.core.now.vault c.free_removal.new.core.vault c.free_removal.ensures.flags c.free_removal.ensures.vault (λ e. absurd (omega (arith, e)));
  on = refl;
  vault = c.free_removal.ensures.vault;
  refuses = λ stop. is_there c.args.core.now.system.state.stop (sym c.stopped.ensures ∙ none_of_test c.stopped.result (sym c.is_some.ensures ∙ c.if-is_some.false)) stop;
}

pub returns : goal.returns
returns g c = record {
  goes = λ precheck.
      commit_unsaid_goes g.V.Store precheck c.args.transaction c.args.number c.args.removals.items c.args.next (IsCommitting c.args.transaction c.args.number c.args.removals c.args.next) (λ s B p w gs y v a rest f. f) (λ n e. e) (λ n e. e) c.args.client.now c.args.client.now c.args.core.now.regions.items c.args.core.now.system.state c.args.core.now.vault _ _ _ _ (err_false c.no_run-in-Err-free_removal.result c.no_run-in-Err-free_removal.ensures)
      (unfreed_goes g.V.Store precheck c.args.transaction c.args.number c.args.removals.items c.args.next (IsCommitting c.args.transaction c.args.number c.args.removals c.args.next) (λ s B p w gs y v a rest f. f) (λ n e. e) (λ n e. e) c.args.client.now c.args.client.now c.args.core.now.regions.items c.args.core.now.system.state c.args.core.now.vault c.requires.flushed (sym c.stopped.ensures ∙ none_of_test c.stopped.result (sym c.is_some.ensures ∙ c.if-is_some.false)) c.free_removal.new.core.regions.items c.free_removal.new.core.system.state c.free_removal.new.core.vault c.free_removal.ensures.vault c.free_removal.ensures.others c.free_removal.ensures.still c.in-Err-free_removal.ensures.left refl);
  places = places_beside g.V.Store.told (IsCommitting c.args.transaction c.args.number c.args.removals c.args.next) _ c.args.core.now.regions.items c.free_removal.new.core.regions.items c.args.core.now.vault c.free_removal.new.core.vault c.free_removal.ensures.flags c.free_removal.ensures.vault (at_state g.V.Store.told _ _ _ _ _ c.requires.stands tt);
  on = search rules;
  vault = c.free_removal.ensures.vault;
  refuses = λ stop. is_there c.args.core.now.system.state.stop (sym c.stopped.ensures ∙ none_of_test c.stopped.result (sym c.is_some.ensures ∙ c.if-is_some.false)) stop;
}
