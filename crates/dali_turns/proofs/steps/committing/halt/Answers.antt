use Rattle.std.proofs.Common.{◌≡◌, true, false, refl, ap, sym, ◌∙◌, is_ok, rules, Err}
use Rattle.dali_runs.specs.State.{SystemState}
use Rattle.dali_runs.specs.Steps.{taken}
use Rattle.dali_turns.proofs.Placed.{places_none}
use Rattle.dali_turns.proofs.CommitSteps.{flush_ran}
use Rattle.dali_turns.proofs.Halting.{halt_still, halt_never, halt_flushed, halt_lost, halt_found, gone_awaits, halt_reaches}
use Rattle.dali_turns.proofs.CommitMoments.{halt_still_leaves, halt_leaves}
use Rattle.dali_turns.proofs.steps.committing.halt.Goals as goal

pub returns-then-not-awaits : goal.returns-then-not-awaits
returns-then-not-awaits g c = record {
  goes = halt_still g.V.Store c.args.client.now c.args.core.now.regions.items c.args.core.now.system.state c.args.core.now.vault c.awaits.result c.awaits.ensures c.if-not-awaits.true;
  places = places_none g.V.Store.told c.args.client.now.state c.args.core.now.regions.items c.args.core.now.vault;
  gone = λ e. refl;
  still = λ e. refl;
  log = refl;
  any_moment = halt_still_leaves g.V.Store c.args.core.now.regions.items c.args.core.now.system.state c.args.core.now.vault c.args.core.now.vault (λ d past. g.met.V.Store.only_now c.args.core.now.vault.store d past) refl;
}

pub returns-then-not-has_room : goal.returns-then-not-has_room
returns-then-not-has_room g c = record {
  goes = halt_never g.V.Store c.args.client.now c.args.core.now.regions.items c.args.core.now.system.state c.args.core.now.vault _ _ _ (λ small. let told = c.has_room.ensures.told in search rules);
  places = places_none g.V.Store.told c.args.client.now.state c.args.core.now.regions.items c.args.core.now.vault;
  gone = λ e. refl;
  still = λ e. refl;
  log = refl;
  any_moment = halt_still_leaves g.V.Store c.args.core.now.regions.items c.args.core.now.system.state c.args.core.now.vault c.args.core.now.vault (λ d past. g.met.V.Store.only_now c.args.core.now.vault.store d past) refl;
}

pub returns-in-Ok : goal.returns-in-Ok
returns-in-Ok g c =
    let same : c.flush.new.core.regions.items ≡ c.args.core.now.regions.items = search rules in
    let is : c.flush.new.core.system.state ≡ taken c.args.core.now.system.state = search rules in
    record {
      goes = halt_flushed g.V.Store c.args.client.now c.args.core.now.regions.items c.args.core.now.system.state c.args.core.now.vault c.awaits.result c.awaits.ensures c.if-not-awaits.false _ _ _ same is
          (flush_ran c.flush.result c.args.core.now.vault.stopped c.flush.new.core.vault.stopped _ (ap (λ v. v.stopped) c.in-Ok.ensures.ok.2) c.flush.ensures.stopped (ap is_ok c.in-Ok.is)) c.flush.ensures.whole c.in-Ok.ensures.durable;
      places = halt_reaches g.V.Store c.args.client.now c.args.core.now.regions.items c.args.core.now.system.state c.args.core.now.vault c.awaits.result c.awaits.ensures c.if-not-awaits.false _ _ same c.flush.ensures.files;
      gone = λ e. gone_awaits c.args.client.now.state c.args.core.now.system.state c.args.core.now.vault c.awaits.result c.awaits.ensures c.if-not-awaits.false e;
      still = λ e. let no : false ≡ true = sym e ∙ (sym c.awaits.ensures ∙ c.if-not-awaits.false) in absurd (cc);
      log = ap (λ (m : SystemState). m.since) is;
      any_moment = halt_leaves g.V.Store c.args.core.now.regions.items c.args.core.now.system.state c.args.core.now.vault c.flush.new.core.vault (λ d past. g.met.V.Store.only_now c.args.core.now.vault.store d past) (λ e. ap (λ k. k.vault) (c.flush.ensures.stopped e).1) c.flush.ensures.any_moment;
    }

pub returns-in-Err-Fault : goal.returns-in-Err-Fault
returns-in-Err-Fault g c =
    let core_is = (c.in-Err-Fault.ensures.fault (ap Err c.in-Err-Fault.field-0-is)).0 in
    record {
      goes = halt_lost g.V.Store c.args.client.now c.args.core.now.regions.items c.args.core.now.system.state c.args.core.now.vault c.awaits.result c.awaits.ensures c.if-not-awaits.false _ _ _ (ap (λ k. k.regions.items) core_is) (ap (λ k. k.system.state) core_is)
          (ap (λ k. k.vault.stopped) core_is) (ap (λ k. k.vault.flushed) core_is) c.flush.ensures.whole (c.in-Err-Fault.ensures.stops (ap Err c.in-Err-Fault.field-0-is));
      places = halt_reaches g.V.Store c.args.client.now c.args.core.now.regions.items c.args.core.now.system.state c.args.core.now.vault c.awaits.result c.awaits.ensures c.if-not-awaits.false _ _ (ap (λ k. k.regions.items) core_is) c.flush.ensures.files;
      gone = λ e. gone_awaits c.args.client.now.state c.args.core.now.system.state c.args.core.now.vault c.awaits.result c.awaits.ensures c.if-not-awaits.false e;
      still = λ e. let no : false ≡ true = sym e ∙ (sym c.awaits.ensures ∙ c.if-not-awaits.false) in absurd (cc);
      log = ap (λ k. k.system.state.since) core_is;
      any_moment = halt_leaves g.V.Store c.args.core.now.regions.items c.args.core.now.system.state c.args.core.now.vault c.flush.new.core.vault (λ d past. g.met.V.Store.only_now c.args.core.now.vault.store d past) (λ e. ap (λ k. k.vault) (c.flush.ensures.stopped e).1) c.flush.ensures.any_moment;
    }

pub returns-in-Err-Stopped : goal.returns-in-Err-Stopped
returns-in-Err-Stopped g c =
    let had = c.in-Err-Stopped.ensures.runs (ap Err c.in-Err-Stopped.field-0-is) in
    let same = (c.flush.ensures.stopped had).1 in
    record {
      goes = halt_found g.V.Store c.args.client.now c.args.core.now.regions.items c.args.core.now.system.state c.args.core.now.vault c.awaits.result c.awaits.ensures c.if-not-awaits.false had _ _ _ (ap (λ k. k.regions.items) same) (ap (λ k. k.system.state) same) (ap (λ k. k.vault) same);
      places = halt_reaches g.V.Store c.args.client.now c.args.core.now.regions.items c.args.core.now.system.state c.args.core.now.vault c.awaits.result c.awaits.ensures c.if-not-awaits.false _ _ (ap (λ k. k.regions.items) same) c.flush.ensures.files;
      gone = λ e. same;
      still = λ e. let no : false ≡ true = sym e ∙ (sym c.awaits.ensures ∙ c.if-not-awaits.false) in absurd (cc);
      log = ap (λ k. k.system.state.since) same;
      any_moment = halt_leaves g.V.Store c.args.core.now.regions.items c.args.core.now.system.state c.args.core.now.vault c.flush.new.core.vault (λ d past. g.met.V.Store.only_now c.args.core.now.vault.store d past) (λ e. ap (λ k. k.vault) (c.flush.ensures.stopped e).1) c.flush.ensures.any_moment;
    }
