use Rattle.std.proofs.Common.{◌≡◌, false, refl, ap, rules, sym, ◌∙◌}
use Rattle.dali_turns.specs.declared.client.State.TheVariants.{Outside as IsOutside, Within as IsWithin, Committing as IsCommitting}
use Rattle.dali_turns.proofs.Commands.{err_false, unsaid_goes}
use Rattle.dali_turns.proofs.Putting.{err_on}
use Rattle.dali_turns.proofs.Placing.{still_outside}
use Rattle.dali_turns.proofs.Placed.{places_still, at_state}
use Rattle.dali_turns.proofs.CommitSteps.{stop_goes, stop_silent_goes, others_there, logged_goes, unlogged_goes}
use Rattle.dali_transcripts.specs.declared.clients.command.Command.TheVariants.{Commit as IsCommit}
use Rattle.dali_transcripts.specs.declared.clients.line.Why.TheVariants.{Stopped as IsStopped}
use Rattle.dali_turns.proofs.Meeting.{on_no_ok}
use Rattle.dali_turns.proofs.AtOnce.{stop_told}
use Rattle.dali_turns.proofs.steps.committing.commit.Goals as goal

pub returns-in-Some : goal.returns-in-Some
returns-in-Some g c = record {
  goes = λ precheck. stop_goes g.V.Store precheck c.args.transaction c.args.client.now c.finish.new.self c.args.core.now.regions.items c.args.core.now.system.state c.args.core.now.vault c.requires.next c.in-Some.cause (sym c.stopped.ensures ∙ c.in-Some.is) c.in_ok-finish.ensures.ok;
  places = still_outside _ _ _ _ _ c.in_ok-finish.ensures.ok.stands;
  on = refl;
  refuses = stop_told c.args.core.now.system.state IsOutside IsCommit c.args.client.now c.finish.new.self c.in-Some.cause (IsStopped c.in-Some.cause) (sym c.stopped.ensures ∙ c.in-Some.is) refl c.in_ok-finish.ensures.ok;
  vault = refl;
}

pub returns-in_err-finish : goal.returns-in_err-finish
returns-in_err-finish g c = record {
  goes = λ precheck.
      unsaid_goes g.V.Store precheck (IsWithin c.args.transaction) c.args.client.now c.finish.new.self c.args.core.now.regions.items c.args.core.now.regions.items c.args.core.now.system.state c.args.core.now.system.state c.args.core.now.vault c.args.core.now.vault _ (err_false c.from_residual.result c.from_residual.ensures.0)
      (stop_silent_goes g.V.Store precheck c.args.transaction c.args.client.now c.finish.new.self c.args.core.now.regions.items c.args.core.now.system.state c.args.core.now.vault c.requires.next c.in-Some.cause (sym c.stopped.ensures ∙ c.in-Some.is) c.in_err-finish.ensures.err);
  places = still_outside _ _ _ _ _ c.in_err-finish.ensures.err.stands;
  on = err_on c.from_residual.result c.from_residual.ensures.0;
  refuses = λ cause up. on_no_ok _ c.from_residual.result c.from_residual.ensures.0;
  vault = refl;
}

pub returns-in-Ok : goal.returns-in-Ok
returns-in-Ok g c =
    let regions : c.log_commit.new.core.regions.items ≡ c.args.core.now.regions.items = ap (λ k. k.regions.items) c.in-Ok.ensures.logged in
    let vault : c.log_commit.new.core.vault ≡ c.args.core.now.vault = ap (λ k. k.vault) c.in-Ok.ensures.logged in
    record {
      goes = λ precheck.
          logged_goes g.V.Store precheck c.args.transaction c.args.client.now _ c.args.core.now.regions.items c.args.core.now.system.state c.args.core.now.vault c.requires.next (sym c.stopped.ensures ∙ c.in_default.is) c.in-Ok.removals.items c.in-Ok.ensures.ok
          (others_there _ _ _ _ _ c.args.transaction.txn regions c.in-Ok.ensures.state c.log_commit.ensures.others) c.records-number.result c.records-number.ensures (IsCommitting c.args.transaction c.records-number.result c.in-Ok.removals 0) (record { rest = refl; stands = refl; points = refl; transcript = refl }) (λ s B p w gs y v a rest f. f) (λ n e. e)
          _ _ _ regions c.in-Ok.ensures.state vault;
      places = places_still g.V.Store.told (IsWithin c.args.transaction) _ c.args.core.now.regions.items c.log_commit.new.core.regions.items c.args.core.now.vault c.log_commit.new.core.vault regions vault (λ e. regions);
      on = refl;
      refuses = λ cause up. absurd (c.in_default.not-Some cause (c.stopped.ensures ∙ up));
      vault = vault;
    }

pub returns-in-Err-OutOfMemory : goal.returns-in-Err-OutOfMemory
returns-in-Err-OutOfMemory g c =
    let same = c.in-Err-OutOfMemory.ensures.err in
    record {
      goes = λ precheck. unlogged_goes g.V.Store precheck c.args.transaction c.args.client.now c.args.client.now c.args.core.now.regions.items c.args.core.now.system.state c.args.core.now.vault c.requires.next false _ _ _ refl (ap (λ k. k.regions.items) same) (ap (λ k. k.system.state) same) (ap (λ k. k.vault) same) refl;
      places = places_still g.V.Store.told (IsWithin c.args.transaction) _ c.args.core.now.regions.items c.log_commit.new.core.regions.items c.args.core.now.vault c.log_commit.new.core.vault (ap (λ k. k.regions.items) same) (ap (λ k. k.vault) same) (at_state g.V.Store.told _ _ _ _ _ c.requires.stands tt);
      on = tt;
      refuses = λ cause up. tt;
      vault = ap (λ k. k.vault) same;
    }

pub returns-in-Err : goal.returns-in-Err
returns-in-Err g c =
    let same = c.in-Err.ensures.err in
    record {
      goes = λ precheck. unlogged_goes g.V.Store precheck c.args.transaction c.args.client.now c.args.client.now c.args.core.now.regions.items c.args.core.now.system.state c.args.core.now.vault c.requires.next _ _ _ _ (err_false c.no_run.result c.no_run.ensures) (ap (λ k. k.regions.items) same) (ap (λ k. k.system.state) same) (ap (λ k. k.vault) same) refl;
      places = places_still g.V.Store.told (IsWithin c.args.transaction) _ c.args.core.now.regions.items c.log_commit.new.core.regions.items c.args.core.now.vault c.log_commit.new.core.vault (ap (λ k. k.regions.items) same) (ap (λ k. k.vault) same) (at_state g.V.Store.told _ _ _ _ _ c.requires.stands tt);
      on = search rules;
      refuses = λ cause up. on_no_ok _ _ c.no_run.ensures;
      vault = ap (λ k. k.vault) same;
    }
