use Rattle.std.proofs.Common.{◌≡◌, ◌<◌, ◌≤◌, ◌^◌, true, Err, refl, ap, subst, rules, ◌∙◌, sym}
use Rattle.std.specs.Prelude.{IsSomeAnd}
use Rattle.dali_system.specs.Served.{Served}
use Rattle.dali_system.specs.Refused.{stop_of}
use Rattle.dali_audit.specs.Findings.{Judged, AllPassed, damaged}
use Rattle.dali_checkpoint.specs.declared.error.CheckpointError.{CheckpointError}
use Rattle.dali_turns.specs.declared.client.State.TheVariants.{Certifying as IsCertifying}
use Rattle.dali_turns.specs.Endings.{SaysEnd, Unsaid}
use Rattle.dali_turns.proofs.Putting.{err_on}
use Rattle.dali_turns.proofs.Commands.{err_false, so_left}
use Rattle.dali_turns.proofs.CertifySteps.{may_finish, may_certify, certify_asks, certifies_made, ends_goes, ends_silent_goes, unended_goes, unended_silent_goes}
use Rattle.dali_turns.proofs.Guarding.{never_goes, both, vault_small}
use Rattle.dali_turns.proofs.Placing.{still_outside, longer_outside, same_vault, ends_outside, unsaid_outside}
use Rattle.dali_turns.proofs.Moments.{leaves_still}
use Rattle.dali_turns.proofs.CheckpointMoments.{certify_leaves}
use Rattle.dali_turns.proofs.Meeting.{on_no_ok}
use Rattle.dali_turns.proofs.CallSteps.{asked_says}
use Rattle.dali_turns.proofs.AtOnce.{never_up, unended}
use Rattle.dali_turns.proofs.steps.checkpoints.finish_audit.Goals.{then-not-has_passed_all-via-then-not-has_passed_all, then-not-has_passed_all-via-else-not-has_passed_all+then-not-may_certify, then-not-has_passed_all-via-else-not-has_passed_all+else-not-may_certify+then-not-has_room}
use Rattle.dali_turns.proofs.steps.checkpoints.finish_audit.Goals as goal

-- ---- what the calls ask for
pub certify-made-requires-clause-audited : goal.certify-made-requires-clause-audited
certify-made-requires-clause-audited g c =
    let yes : c.may_certify.result ≡ true = search rules in
    certify_asks c.args.checkpoint.settled c.args.audit c.args.core.now.system.state c.end.new.system.state c.in-Ok.verdict (c.may_certify.ensures.behind yes) (ap (λ (x : Served). x.state) c.in-Ok.ensures.ok) c.in-Ok.ensures.verdict

-- ---- the checkpoint's end
pub returns-in_err-end-in-Ok : goal.returns-in_err-end-in-Ok
returns-in_err-end-in-Ok g c = record {
  goes = λ precheck.
      ends_silent_goes g.V.Store precheck c.args.client.now c.end-in-Ok.new.client c.args.core.now.regions.items c.args.core.now.system.state c.args.core.now.vault c.args.checkpoint c.args.audit c.args.next
      c.requires.all c.in-Ok.ensures.runs c.end.new.system.state c.certify-made.new.system.state c.certify-made.new.vault c.certify-made.result (ap (λ (x : Served). x.state) c.in-Ok.ensures.ok)
      (certifies_made g.V.Store c.args.checkpoint c.in-Ok.verdict.failing (damaged c.args.audit.findings) c.end.new.system c.certify-made.new.system c.args.core.now.vault c.certify-made.new.vault c.certify-made.result (ap (λ (x : Judged). x.failing) c.in-Ok.ensures.verdict)
      c.certify-made.ensures.ok c.certify-made.ensures.turned c.certify-made.ensures.flag c.certify-made.ensures.kept c.certify-made.ensures.failed c.certify-made.ensures.fault c.certify-made.ensures.files)
      _ (err_false c.from_residual.result c.from_residual.ensures.0) c.in_err-end-in-Ok.ensures.err;
  places = longer_outside _ _ _ _ _ _ _ refl c.certify-made.ensures.files (unsaid_outside _ _ c.certify-made.result c.requires.stands c.in_err-end-in-Ok.ensures.err);
  on = err_on c.from_residual.result c.from_residual.ensures.0;
  any_moment =
      certify_leaves g.V.Store c.args.client.now c.args.core.now.regions.items c.args.core.now.system.state _ c.args.core.now.vault _ (λ d past. g.met.V.Store.only_now c.args.core.now.vault.store d past) c.args.checkpoint c.args.audit c.args.next c.requires.all c.in-Ok.ensures.runs c.end.new.system.state (ap (λ (x : Served). x.state) c.in-Ok.ensures.ok) c.certify-made.result
      (certifies_made g.V.Store c.args.checkpoint c.in-Ok.verdict.failing (damaged c.args.audit.findings) c.end.new.system c.certify-made.new.system c.args.core.now.vault c.certify-made.new.vault c.certify-made.result (ap (λ (x : Judged). x.failing) c.in-Ok.ensures.verdict)
      c.certify-made.ensures.ok c.certify-made.ensures.turned c.certify-made.ensures.flag c.certify-made.ensures.kept c.certify-made.ensures.failed c.certify-made.ensures.fault c.certify-made.ensures.files)
      (λ clean. c.certify-made.ensures.any_moment (ap (λ (x : Judged). x.failing) c.in-Ok.ensures.verdict ∙ clean)) (λ bad. c.certify-made.ensures.failing_moment (λ none. bad (sym (ap (λ (x : Judged). x.failing) c.in-Ok.ensures.verdict) ∙ none)));
  refuses = λ cause up. on_no_ok _ c.from_residual.result c.from_residual.ensures.0;
}

pub returns-in_ok-end-in-Ok : goal.returns-in_ok-end-in-Ok
returns-in_ok-end-in-Ok g c = record {
  goes = λ precheck.
      ends_goes g.V.Store precheck c.args.client.now c.end-in-Ok.new.client c.args.core.now.regions.items c.args.core.now.system.state c.args.core.now.vault c.args.checkpoint c.args.audit c.args.next
      c.requires.all c.in-Ok.ensures.runs c.end.new.system.state c.certify-made.new.system.state c.certify-made.new.vault c.certify-made.result (ap (λ (x : Served). x.state) c.in-Ok.ensures.ok)
      (certifies_made g.V.Store c.args.checkpoint c.in-Ok.verdict.failing (damaged c.args.audit.findings) c.end.new.system c.certify-made.new.system c.args.core.now.vault c.certify-made.new.vault c.certify-made.result (ap (λ (x : Judged). x.failing) c.in-Ok.ensures.verdict)
      c.certify-made.ensures.ok c.certify-made.ensures.turned c.certify-made.ensures.flag c.certify-made.ensures.kept c.certify-made.ensures.failed c.certify-made.ensures.fault c.certify-made.ensures.files)
      c.in_ok-end-in-Ok.ensures.ok;
  places = longer_outside _ _ _ _ _ _ _ refl c.certify-made.ensures.files (ends_outside _ _ c.certify-made.result c.in_ok-end-in-Ok.ensures.ok);
  on = refl;
  any_moment =
      certify_leaves g.V.Store c.args.client.now c.args.core.now.regions.items c.args.core.now.system.state _ c.args.core.now.vault _ (λ d past. g.met.V.Store.only_now c.args.core.now.vault.store d past) c.args.checkpoint c.args.audit c.args.next c.requires.all c.in-Ok.ensures.runs c.end.new.system.state (ap (λ (x : Served). x.state) c.in-Ok.ensures.ok) c.certify-made.result
      (certifies_made g.V.Store c.args.checkpoint c.in-Ok.verdict.failing (damaged c.args.audit.findings) c.end.new.system c.certify-made.new.system c.args.core.now.vault c.certify-made.new.vault c.certify-made.result (ap (λ (x : Judged). x.failing) c.in-Ok.ensures.verdict)
      c.certify-made.ensures.ok c.certify-made.ensures.turned c.certify-made.ensures.flag c.certify-made.ensures.kept c.certify-made.ensures.failed c.certify-made.ensures.fault c.certify-made.ensures.files)
      (λ clean. c.certify-made.ensures.any_moment (ap (λ (x : Judged). x.failing) c.in-Ok.ensures.verdict ∙ clean)) (λ bad. c.certify-made.ensures.failing_moment (λ none. bad (sym (ap (λ (x : Judged). x.failing) c.in-Ok.ensures.verdict) ∙ none)));
  refuses = λ cause up. never_up c.args.core.now.system.state.stop cause c.in-Ok.ensures.runs up;
}

-- ---- the audit's end is refused
pub returns-in_err-give_up-in-Err : goal.returns-in_err-give_up-in-Err
returns-in_err-give_up-in-Err g c = record {
  goes = λ precheck.
      so_left g.V.Store precheck (IsCertifying c.args.checkpoint c.args.audit c.args.next) c.args.client.now c.give_up.new.client c.args.core.now.regions.items c.args.core.now.system.state c.args.core.now.vault _ _ _ _ _ _ _ (ap (λ k. k.regions.items) c.give_up.ensures.system) (ap (λ k. k.system.state) c.give_up.ensures.system) (ap (λ k. k.vault) c.give_up.ensures.system)
      (unended_silent_goes g.V.Store precheck c.args.client.now c.give_up.new.client c.args.core.now.regions.items c.args.core.now.system.state c.args.core.now.vault c.args.checkpoint c.args.audit c.args.next c.end.result c.in-Err.error c.end.new.system.state _ c.in-Err.is
      (λ e. c.end.ensures.memory (ap stop_of e)) c.end.ensures.refused (ap (λ (x : Served). x.state) c.in-Err.ensures.err) refl
      _ (err_false c.from_residual-in_err-give_up-in-Err.result c.from_residual-in_err-give_up-in-Err.ensures.0) (subst (λ (e : CheckpointError). Unsaid c.args.client.now (Err e) c.give_up.new.client) c.into.ensures c.in_err-give_up-in-Err.ensures.err));
  places = longer_outside _ _ _ _ _ _ _ (ap (λ k. k.regions.items) c.give_up.ensures.system) (same_vault g.V.Store.told c.args.core.now.vault c.give_up.new.core.vault (ap (λ k. k.vault) c.give_up.ensures.system)) (unsaid_outside _ _ (Err c.into.result) c.requires.stands c.in_err-give_up-in-Err.ensures.err);
  on = err_on c.from_residual-in_err-give_up-in-Err.result c.from_residual-in_err-give_up-in-Err.ensures.0;
  any_moment = leaves_still g.V.Store (IsCertifying c.args.checkpoint c.args.audit c.args.next) c.args.client.now c.args.core.now.regions.items c.args.core.now.system.state _ c.args.core.now.vault _ (λ d past. g.met.V.Store.only_now c.args.core.now.vault.store d past) (ap (λ k. k.vault) c.give_up.ensures.system);
  refuses = λ cause up. on_no_ok _ c.from_residual-in_err-give_up-in-Err.result c.from_residual-in_err-give_up-in-Err.ensures.0;
}

pub returns-in_ok-give_up-in-Err : goal.returns-in_ok-give_up-in-Err
returns-in_ok-give_up-in-Err g c = record {
  goes = λ precheck.
      so_left g.V.Store precheck (IsCertifying c.args.checkpoint c.args.audit c.args.next) c.args.client.now c.give_up.new.client c.args.core.now.regions.items c.args.core.now.system.state c.args.core.now.vault _ _ _ _ _ _ _ (ap (λ k. k.regions.items) c.give_up.ensures.system) (ap (λ k. k.system.state) c.give_up.ensures.system) (ap (λ k. k.vault) c.give_up.ensures.system)
      (unended_goes g.V.Store precheck c.args.client.now c.give_up.new.client c.args.core.now.regions.items c.args.core.now.system.state c.args.core.now.vault c.args.checkpoint c.args.audit c.args.next c.end.result c.in-Err.error c.end.new.system.state _ c.in-Err.is
      (λ e. c.end.ensures.memory (ap stop_of e)) c.end.ensures.refused (ap (λ (x : Served). x.state) c.in-Err.ensures.err) refl
      (subst (λ (e : CheckpointError). SaysEnd c.args.client.now (Err e) c.give_up.new.client) c.into.ensures c.in_ok-give_up-in-Err.ensures.ok));
  places = longer_outside _ _ _ _ _ _ _ (ap (λ k. k.regions.items) c.give_up.ensures.system) (same_vault g.V.Store.told c.args.core.now.vault c.give_up.new.core.vault (ap (λ k. k.vault) c.give_up.ensures.system)) (ends_outside _ _ (Err c.into.result) c.in_ok-give_up-in-Err.ensures.ok);
  on = refl;
  any_moment = leaves_still g.V.Store (IsCertifying c.args.checkpoint c.args.audit c.args.next) c.args.client.now c.args.core.now.regions.items c.args.core.now.system.state _ c.args.core.now.vault _ (λ d past. g.met.V.Store.only_now c.args.core.now.vault.store d past) (ap (λ k. k.vault) c.give_up.ensures.system);
  refuses = unended c.args.core.now.system.state c.args.client.now c.give_up.new.client c.in-Err.error c.into.result c.into.ensures (asked_says c.args.core.now.system.state c.end.result c.in-Err.error c.in-Err.is c.end.ensures.refused c.end.ensures.memory) c.in_ok-give_up-in-Err.ensures.ok;
}

pub returns-then-not-has_passed_all : goal.returns-then-not-has_passed_all
returns-then-not-has_passed_all g c = record {
  goes = λ precheck.
      never_goes g.V.Store precheck (IsCertifying c.args.checkpoint c.args.audit c.args.next) c.args.client.now c.args.core.now.regions.items c.args.core.now.system.state c.args.core.now.vault ((AllPassed c.args.audit.findings × (IsSomeAnd c.args.checkpoint.settled (λ n. n ≤ c.args.audit.begin))) × ((c.args.core.now.vault.end < 2 ^ 62) × (c.args.core.now.vault.current < 2 ^ 62))) _ _ _ _ _
      (both g.V.Store precheck (IsCertifying c.args.checkpoint c.args.audit c.args.next) c.args.client.now c.args.core.now.regions.items c.args.core.now.system.state c.args.core.now.vault _ _ (both g.V.Store precheck (IsCertifying c.args.checkpoint c.args.audit c.args.next) c.args.client.now c.args.core.now.regions.items c.args.core.now.system.state c.args.core.now.vault _ _ (may_finish g.V.Store precheck c.args.client.now c.args.client.now c.args.core.now.regions.items c.args.core.now.system.state c.args.core.now.vault c.args.checkpoint c.args.audit c.args.next c.requires.all) (may_certify g.V.Store precheck c.args.client.now c.args.client.now c.args.core.now.regions.items c.args.core.now.system.state c.args.core.now.vault c.args.checkpoint c.args.audit c.args.next)) (vault_small g.V.Store precheck (IsCertifying c.args.checkpoint c.args.audit c.args.next) c.args.client.now c.args.core.now.regions.items c.args.core.now.system.state c.args.core.now.vault))
      (λ h. elim c.then-not-has_passed_all.branch as (λ x. ⊥) [ then-not-has_passed_all-via-then-not-has_passed_all w ↦ let passed : c.has_passed_all.result ≡ true = c.has_passed_all.ensures.told h.0.0 in search rules | then-not-has_passed_all-via-else-not-has_passed_all+then-not-may_certify w ↦ let behind : w.may_certify.result ≡ true = w.may_certify.ensures.told h.0.1 in search rules | then-not-has_passed_all-via-else-not-has_passed_all+else-not-may_certify+then-not-has_room w ↦ let room : w.has_room.result ≡ true = w.has_room.ensures.told h.1 in search rules ]);
  places = still_outside _ _ _ _ _ c.requires.stands;
  on = err_on _ c.no_run.ensures;
  any_moment = leaves_still g.V.Store (IsCertifying c.args.checkpoint c.args.audit c.args.next) c.args.client.now c.args.core.now.regions.items c.args.core.now.system.state _ c.args.core.now.vault _ (λ d past. g.met.V.Store.only_now c.args.core.now.vault.store d past) refl;
  refuses = λ cause up. on_no_ok _ _ c.no_run.ensures;
}
