use Rattle.std.proofs.Common.{◌≡◌, ◌∙◌, ◌<◌, ◌^◌, true, refl, ap, subst, rules}
use Rattle.dali_runs.specs.State.{SystemState}
use Rattle.dali_runs.specs.Steps.{taken}
use Rattle.dali_system.specs.Served.{Served}
use Rattle.dali_system.specs.Refused.{stop_of}
use Rattle.dali_audit.specs.Findings.{Judged, AllPassed}
use Rattle.dali_transactions.proofs.Durable.{fault_only}
use Rattle.dali_transcripts.specs.declared.clients.line.Line.{Line}
use Rattle.dali_turns.specs.declared.client.State.TheVariants.{Outside as IsOutside, Auditing as IsAuditing}
use Rattle.dali_turns.specs.Clients.{Finishes}
use Rattle.dali_turns.proofs.Putting.{err_on}
use Rattle.dali_turns.proofs.Commands.{err_false}
use Rattle.dali_turns.proofs.AuditSteps.{may_end, ends_goes, ends_silent_goes, fails_goes, fails_silent_goes, stops_goes, stops_silent_goes, no_end_goes}
use Rattle.dali_turns.proofs.Guarding.{goes_running, never_goes, both, vault_small}
use Rattle.dali_turns.proofs.Placing.{still_outside, longer_outside, flush_keeps}
use Rattle.dali_turns.proofs.Moments.{leaves_still}
use Rattle.dali_turns.proofs.AuditMoments.{end_leaves}
use Rattle.dali_transcripts.specs.declared.clients.command.Command.TheVariants.{Audit as IsAudit}
use Rattle.dali_turns.proofs.Meeting.{on_no_ok}
use Rattle.dali_turns.proofs.CallSteps.{asked_says, stop_why}
use Rattle.dali_turns.proofs.AtOnce.{never_up, stop_told}
use Rattle.dali_turns.proofs.steps.audits.end.Goals.{then-not-has_passed_all-via-then-not-has_passed_all, then-not-has_passed_all-via-else-not-has_passed_all+then-not-has_room}
use Rattle.dali_turns.proofs.steps.audits.end.Goals as goal

pub returns-in_err-why-in-Err : goal.returns-in_err-why-in-Err
returns-in_err-why-in-Err g c = record {
  goes = λ precheck.
      no_end_goes g.V.Store precheck c.args.client.now c.args.client.now c.args.core.now.regions.items c.args.core.now.system.state c.args.core.now.vault c.args.audit c.args.next
      _ (err_false c.from_residual.result c.from_residual.ensures.0) c.end.new.system.state refl (ap (λ (s : Served). s.state) c.in-Err.ensures.err);
  places = still_outside _ _ _ _ _ c.requires.stands;
  on = err_on c.from_residual.result c.from_residual.ensures.0;
  any_moment = leaves_still g.V.Store (IsAuditing c.args.audit c.args.next) c.args.client.now c.args.core.now.regions.items c.args.core.now.system.state _ c.args.core.now.vault _ (λ d past. g.met.V.Store.only_now c.args.core.now.vault.store d past) refl;
  refuses = λ cause up. on_no_ok _ c.from_residual.result c.from_residual.ensures.0;
}

pub returns-in_err-finish-in-Err : goal.returns-in_err-finish-in-Err
returns-in_err-finish-in-Err g c = record {
  goes = λ precheck.
      stops_silent_goes g.V.Store precheck c.args.client.now c.finish.new.self c.args.core.now.regions.items c.args.core.now.system.state c.args.core.now.vault c.args.audit c.args.next
      c.end.new.system.state c.end.result c.in-Err.error c.in-Err.is (λ e. c.end.ensures.memory (ap stop_of e)) c.end.ensures.refused (ap (λ (s : Served). s.state) c.in-Err.ensures.err)
      _ (err_false c.from_residual-in_err-finish-in-Err.result c.from_residual-in_err-finish-in-Err.ensures.0) c.in_ok-why-in-Err.why c.in_ok-why-in-Err.ensures.given c.in_err-finish-in-Err.ensures.err;
  places = still_outside _ _ _ _ _ c.in_err-finish-in-Err.ensures.err.stands;
  on = err_on c.from_residual-in_err-finish-in-Err.result c.from_residual-in_err-finish-in-Err.ensures.0;
  any_moment = leaves_still g.V.Store (IsAuditing c.args.audit c.args.next) c.args.client.now c.args.core.now.regions.items c.args.core.now.system.state _ c.args.core.now.vault _ (λ d past. g.met.V.Store.only_now c.args.core.now.vault.store d past) refl;
  refuses = λ cause up. on_no_ok _ c.from_residual-in_err-finish-in-Err.result c.from_residual-in_err-finish-in-Err.ensures.0;
}

pub returns-in-Err : goal.returns-in-Err
returns-in-Err g c = record {
  goes = λ precheck.
      stops_goes g.V.Store precheck c.args.client.now c.finish.new.self c.args.core.now.regions.items c.args.core.now.system.state c.args.core.now.vault c.args.audit c.args.next
      c.end.new.system.state c.end.result c.in-Err.error c.in-Err.is (λ e. c.end.ensures.memory (ap stop_of e)) c.end.ensures.refused (ap (λ (s : Served). s.state) c.in-Err.ensures.err)
      c.in_ok-why-in-Err.why c.in_ok-why-in-Err.ensures.given (subst (λ (l : Line). Finishes c.args.client.now IsOutside l c.finish.new.self) c.refused.ensures c.in_ok-finish-in-Err.ensures.ok);
  places = still_outside _ _ _ _ _ c.in_ok-finish-in-Err.ensures.ok.stands;
  on = refl;
  any_moment = leaves_still g.V.Store (IsAuditing c.args.audit c.args.next) c.args.client.now c.args.core.now.regions.items c.args.core.now.system.state _ c.args.core.now.vault _ (λ d past. g.met.V.Store.only_now c.args.core.now.vault.store d past) refl;
  refuses =
      let stop = stop_why c.args.core.now.system.state.stop c.in-Err.error c.in_ok-why-in-Err.why (asked_says c.args.core.now.system.state c.end.result c.in-Err.error c.in-Err.is c.end.ensures.refused c.end.ensures.memory) c.in_ok-why-in-Err.ensures.given in
      stop_told c.args.core.now.system.state IsOutside IsAudit c.args.client.now c.finish.new.self stop.0 c.in_ok-why-in-Err.why stop.2 stop.1 (subst (λ (l : Line). Finishes c.args.client.now IsOutside l c.finish.new.self) c.refused.ensures c.in_ok-finish-in-Err.ensures.ok);
}

pub returns-in_err-finish-in-Ok-flush : goal.returns-in_err-finish-in-Ok-flush
returns-in_err-finish-in-Ok-flush g c =
    let same : c.flush.new.core.regions.items ≡ c.args.core.now.regions.items = search rules in
    let is : c.flush.new.core.system.state ≡ taken c.end.new.system.state = search rules in
    let runs : c.flush.new.core.vault.stopped ≡ c.args.core.now.vault.stopped = ap (λ v. v.stopped) c.in-Ok-flush.ensures.ok.2 in
    record {
      goes = λ precheck.
          ends_silent_goes g.V.Store precheck c.args.client.now c.finish-in-Ok-flush.new.self c.args.core.now.regions.items c.args.core.now.system.state c.args.core.now.vault c.args.audit c.args.next
          c.requires.all c.flush.new.core.regions.items same c.flush.new.core.system.state c.end.new.system.state c.flush.new.core.vault c.in-Ok.ensures.runs (ap (λ (s : Served). s.state) c.in-Ok.ensures.ok) c.flush.ensures.whole
          is runs c.in-Ok-flush.ensures.durable _ (err_false c.from_residual-in_err-finish-in-Ok-flush.result c.from_residual-in_err-finish-in-Ok-flush.ensures.0) c.in_err-finish-in-Ok-flush.ensures.err;
      places = longer_outside _ _ _ _ _ _ _ same c.flush.ensures.files c.in_err-finish-in-Ok-flush.ensures.err.stands;
      on = err_on c.from_residual-in_err-finish-in-Ok-flush.result c.from_residual-in_err-finish-in-Ok-flush.ensures.0;
      any_moment = end_leaves g.V.Store c.args.client.now c.args.core.now.regions.items c.args.core.now.system.state c.flush.new.core.system.state c.args.core.now.vault c.flush.new.core.vault c.args.audit c.args.next c.requires.all c.in-Ok.ensures.runs c.end.new.system.state (ap (λ (s : Served). s.state) c.in-Ok.ensures.ok) (λ running. ap (λ (m : SystemState). m.since) is) c.in-Ok-flush.ensures.any_moment;
      refuses = λ cause up. on_no_ok _ c.from_residual-in_err-finish-in-Ok-flush.result c.from_residual-in_err-finish-in-Ok-flush.ensures.0;
    }

pub returns-in_ok-finish-in-Ok-flush : goal.returns-in_ok-finish-in-Ok-flush
returns-in_ok-finish-in-Ok-flush g c =
    let same : c.flush.new.core.regions.items ≡ c.args.core.now.regions.items = search rules in
    let is : c.flush.new.core.system.state ≡ taken c.end.new.system.state = search rules in
    let runs : c.flush.new.core.vault.stopped ≡ c.args.core.now.vault.stopped = ap (λ v. v.stopped) c.in-Ok-flush.ensures.ok.2 in
    record {
      goes = λ precheck.
          ends_goes g.V.Store precheck c.args.client.now c.finish-in-Ok-flush.new.self c.args.core.now.regions.items c.args.core.now.system.state c.args.core.now.vault c.args.audit c.args.next
          c.requires.all c.flush.new.core.regions.items same c.flush.new.core.system.state c.end.new.system.state c.flush.new.core.vault c.in-Ok.ensures.runs (ap (λ (s : Served). s.state) c.in-Ok.ensures.ok) c.flush.ensures.whole
          is runs c.in-Ok-flush.ensures.durable c.into_failing-failing.result (c.into_failing-failing.ensures ∙ ap (λ (x : Judged). x.failing) c.in-Ok.ensures.verdict) c.in_ok-finish-in-Ok-flush.ensures.ok;
      places = longer_outside _ _ _ _ _ _ _ same c.flush.ensures.files c.in_ok-finish-in-Ok-flush.ensures.ok.stands;
      on = refl;
      any_moment = end_leaves g.V.Store c.args.client.now c.args.core.now.regions.items c.args.core.now.system.state c.flush.new.core.system.state c.args.core.now.vault c.flush.new.core.vault c.args.audit c.args.next c.requires.all c.in-Ok.ensures.runs c.end.new.system.state (ap (λ (s : Served). s.state) c.in-Ok.ensures.ok) (λ running. ap (λ (m : SystemState). m.since) is) c.in-Ok-flush.ensures.any_moment;
      refuses = λ cause up. never_up c.args.core.now.system.state.stop cause c.in-Ok.ensures.runs up;
    }

pub returns-in_err-finish-in-Err-flush : goal.returns-in_err-finish-in-Err-flush
returns-in_err-finish-in-Err-flush g c = record {
  goes = λ precheck.
      goes_running g.V.Store precheck (IsAuditing c.args.audit c.args.next) c.args.client.now c.args.core.now.regions.items c.args.core.now.system.state c.args.core.now.vault c.in-Ok.ensures.runs _ _ _ _ _ (λ running.
      let only = fault_only c.in-Err-flush.field-0 c.args.core.now.vault.stopped c.in-Err-flush.ensures.runs running in
      let core_is = (c.in-Err-flush.ensures.fault only).0 in
      fails_silent_goes g.V.Store precheck c.args.client.now c.finish-in-Err-flush.new.self c.args.core.now.regions.items c.args.core.now.system.state c.args.core.now.vault c.args.audit c.args.next
      c.requires.all c.flush.new.core.regions.items (ap (λ k. k.regions.items) core_is) c.flush.new.core.system.state c.end.new.system.state c.flush.new.core.vault c.in-Ok.ensures.runs (ap (λ (s : Served). s.state) c.in-Ok.ensures.ok) c.flush.ensures.whole
      (ap (λ k. k.system.state) core_is) (ap (λ k. k.vault.stopped) core_is) (c.in-Err-flush.ensures.stops only)
      _ (err_false c.from_residual-in_err-finish-in-Err-flush.result c.from_residual-in_err-finish-in-Err-flush.ensures.0) c.in_err-finish-in-Err-flush.ensures.err);
  places = longer_outside _ _ _ _ _ _ _ (flush_keeps c.in-Err-flush.field-0 c.args.core.now.vault.stopped c.flush.new.core.regions.items c.args.core.now.regions.items c.in-Err-flush.ensures.runs (λ stops. ap (λ k. k.regions.items) (c.flush.ensures.stopped stops).1) (λ only. ap (λ k. k.regions.items) (c.in-Err-flush.ensures.fault only).0)) c.flush.ensures.files c.in_err-finish-in-Err-flush.ensures.err.stands;
  on = err_on c.from_residual-in_err-finish-in-Err-flush.result c.from_residual-in_err-finish-in-Err-flush.ensures.0;
  any_moment = end_leaves g.V.Store c.args.client.now c.args.core.now.regions.items c.args.core.now.system.state c.flush.new.core.system.state c.args.core.now.vault c.flush.new.core.vault c.args.audit c.args.next c.requires.all c.in-Ok.ensures.runs c.end.new.system.state (ap (λ (s : Served). s.state) c.in-Ok.ensures.ok) (λ running. ap (λ k. k.system.state.since) (c.in-Err-flush.ensures.fault (fault_only c.in-Err-flush.field-0 c.args.core.now.vault.stopped c.in-Err-flush.ensures.runs running)).0) c.in-Err-flush.ensures.any_moment;
  refuses = λ cause up. on_no_ok _ c.from_residual-in_err-finish-in-Err-flush.result c.from_residual-in_err-finish-in-Err-flush.ensures.0;
}

pub returns-in_ok-finish-in-Err-flush : goal.returns-in_ok-finish-in-Err-flush
returns-in_ok-finish-in-Err-flush g c = record {
  goes = λ precheck.
      goes_running g.V.Store precheck (IsAuditing c.args.audit c.args.next) c.args.client.now c.args.core.now.regions.items c.args.core.now.system.state c.args.core.now.vault c.in-Ok.ensures.runs _ _ _ _ _ (λ running.
      let only = fault_only c.in-Err-flush.field-0 c.args.core.now.vault.stopped c.in-Err-flush.ensures.runs running in
      let core_is = (c.in-Err-flush.ensures.fault only).0 in
      fails_goes g.V.Store precheck c.args.client.now c.finish-in-Err-flush.new.self c.args.core.now.regions.items c.args.core.now.system.state c.args.core.now.vault c.args.audit c.args.next
      c.requires.all c.flush.new.core.regions.items (ap (λ k. k.regions.items) core_is) c.flush.new.core.system.state c.end.new.system.state c.flush.new.core.vault c.in-Ok.ensures.runs (ap (λ (s : Served). s.state) c.in-Ok.ensures.ok) c.flush.ensures.whole
      (ap (λ k. k.system.state) core_is) (ap (λ k. k.vault.stopped) core_is) (c.in-Err-flush.ensures.stops only)
      (subst (λ (l : Line). Finishes c.args.client.now IsOutside l c.finish-in-Err-flush.new.self) c.refused-in-Err-flush.ensures c.in_ok-finish-in-Err-flush.ensures.ok));
  places = longer_outside _ _ _ _ _ _ _ (flush_keeps c.in-Err-flush.field-0 c.args.core.now.vault.stopped c.flush.new.core.regions.items c.args.core.now.regions.items c.in-Err-flush.ensures.runs (λ stops. ap (λ k. k.regions.items) (c.flush.ensures.stopped stops).1) (λ only. ap (λ k. k.regions.items) (c.in-Err-flush.ensures.fault only).0)) c.flush.ensures.files c.in_ok-finish-in-Err-flush.ensures.ok.stands;
  on = refl;
  any_moment = end_leaves g.V.Store c.args.client.now c.args.core.now.regions.items c.args.core.now.system.state c.flush.new.core.system.state c.args.core.now.vault c.flush.new.core.vault c.args.audit c.args.next c.requires.all c.in-Ok.ensures.runs c.end.new.system.state (ap (λ (s : Served). s.state) c.in-Ok.ensures.ok) (λ running. ap (λ k. k.system.state.since) (c.in-Err-flush.ensures.fault (fault_only c.in-Err-flush.field-0 c.args.core.now.vault.stopped c.in-Err-flush.ensures.runs running)).0) c.in-Err-flush.ensures.any_moment;
  refuses = λ cause up. never_up c.args.core.now.system.state.stop cause c.in-Ok.ensures.runs up;
}

pub returns-then-not-has_passed_all : goal.returns-then-not-has_passed_all
returns-then-not-has_passed_all g c = record {
  goes = λ precheck.
      never_goes g.V.Store precheck (IsAuditing c.args.audit c.args.next) c.args.client.now c.args.core.now.regions.items c.args.core.now.system.state c.args.core.now.vault (AllPassed c.args.audit.findings × ((c.args.core.now.vault.end < 2 ^ 62) × (c.args.core.now.vault.current < 2 ^ 62))) _ _ _ _ _
      (both g.V.Store precheck (IsAuditing c.args.audit c.args.next) c.args.client.now c.args.core.now.regions.items c.args.core.now.system.state c.args.core.now.vault _ _ (may_end g.V.Store precheck c.args.client.now c.args.client.now c.args.core.now.regions.items c.args.core.now.system.state c.args.core.now.vault c.args.audit c.args.next c.requires.all) (vault_small g.V.Store precheck (IsAuditing c.args.audit c.args.next) c.args.client.now c.args.core.now.regions.items c.args.core.now.system.state c.args.core.now.vault))
      (λ h. elim c.then-not-has_passed_all.branch as (λ x. ⊥) [ then-not-has_passed_all-via-then-not-has_passed_all w ↦ let passed : c.has_passed_all.result ≡ true = c.has_passed_all.ensures.told h.0 in search rules | then-not-has_passed_all-via-else-not-has_passed_all+then-not-has_room w ↦ let room : w.has_room.result ≡ true = w.has_room.ensures.told h.1 in search rules ]);
  places = still_outside _ _ _ _ _ c.requires.stands;
  on = err_on _ c.no_run.ensures;
  any_moment = leaves_still g.V.Store (IsAuditing c.args.audit c.args.next) c.args.client.now c.args.core.now.regions.items c.args.core.now.system.state _ c.args.core.now.vault _ (λ d past. g.met.V.Store.only_now c.args.core.now.vault.store d past) refl;
  refuses = λ cause up. on_no_ok _ _ c.no_run.ensures;
}
