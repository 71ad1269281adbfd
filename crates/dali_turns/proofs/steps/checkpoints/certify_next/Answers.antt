use Rattle.std.proofs.Common.{◌≡◌, ◌<◌, true, length, Some, is_ok, refl, rules}
use Rattle.std.specs.Prelude.{slice_get}
use Rattle.dali_audit.specs.declared.audit.Finding.TheVariants.{Waiting}
use Rattle.dali_turns.specs.declared.client.State.TheVariants.{Certifying as IsCertifying}
use Rattle.dali_turns.proofs.Commands.{lent_there}
use Rattle.dali_turns.proofs.CertifySteps.{may_pass_on, certify_passes_goes}
use Rattle.dali_turns.proofs.Guarding.{never_goes}
use Rattle.dali_turns.proofs.Placing.{checked_go}
use Rattle.dali_turns.proofs.Stepping.{stepped}
use Rattle.dali_turns.proofs.Moments.{leaves_still}
use Rattle.dali_turns.proofs.AtOnce.{certifies_on, refuses_none}
use Rattle.dali_turns.proofs.steps.checkpoints.certify_next.Goals as goal

pub returns-clause-step : goal.returns-clause-step
returns-clause-step g c = λ precheck.
    let within : c.in-Certifying.next < length c.args.core.now.regions.items = search rules in
    let at : c.args.client.now.state ≡ IsCertifying c.in-Certifying.checkpoint c.in-Certifying.audit c.in-Certifying.next = search rules in
    record {
      goes =
          stepped g.V.Store precheck true c.args.core.now.regions.items _ c.args.core.now.system.state c.args.core.now.system.state c.args.core.now.vault c.args.core.now.vault
          c.args.client.now c.args.client.now _ (IsCertifying c.in-Certifying.checkpoint c.in-Certifying.audit c.in-Certifying.next) at (record { rest = refl; client = refl; lines = refl })
          (certify_passes_goes g.V.Store precheck c.args.client.now _ c.args.core.now.regions.items c.args.core.now.system.state c.args.core.now.vault c.in-Certifying.checkpoint c.in-Certifying.audit c.in-Certifying.next c.index_mut.result.now c.pass.new.region
          (lent_there c.args.core.now.regions.items c.in-Certifying.next c.index_mut.result.now within c.index_mut.ensures.value) c.pass.ensures.region c.pass.new.self c.pass.ensures.found refl _ refl);
      places = checked_go _ _ _ _ _ c.in-Certifying.next c.index_mut.result.now c.pass.new.region (lent_there c.args.core.now.regions.items c.in-Certifying.next c.index_mut.result.now within c.index_mut.ensures.value) c.pass.ensures.region tt tt;
      any_moment = leaves_still g.V.Store c.args.client.now.state c.args.client.now c.args.core.now.regions.items c.args.core.now.system.state _ c.args.core.now.vault _ (λ d past. g.met.V.Store.only_now c.args.core.now.vault.store d past) refl;
      refuses = certifies_on _ _ precheck c.args.client.now _ c.args.core.now.regions.items c.args.core.now.system.state _ c.in-Certifying.checkpoint c.in-Certifying.audit c.in-Certifying.next at within;
    }

pub returns-then-not-waits-clause-step : goal.returns-then-not-waits-clause-step
returns-then-not-waits-clause-step g c = λ precheck.
    let within : c.in-Certifying.next < length c.args.core.now.regions.items = search rules in
    let at : c.args.client.now.state ≡ IsCertifying c.in-Certifying.checkpoint c.in-Certifying.audit c.in-Certifying.next = search rules in
    record {
      goes =
          stepped g.V.Store precheck (is_ok c.no_run.result) c.args.core.now.regions.items _ c.args.core.now.system.state _ c.args.core.now.vault _
          c.args.client.now c.args.client.now _ (IsCertifying c.in-Certifying.checkpoint c.in-Certifying.audit c.in-Certifying.next) at (record { rest = refl; client = refl; lines = refl })
          (never_goes g.V.Store precheck (IsCertifying c.in-Certifying.checkpoint c.in-Certifying.audit c.in-Certifying.next) c.args.client.now c.args.core.now.regions.items c.args.core.now.system.state c.args.core.now.vault (slice_get c.in-Certifying.audit.findings c.in-Certifying.next ≡ Some Waiting) _ _ _ _ _
          (may_pass_on g.V.Store precheck c.args.client.now c.args.client.now c.args.core.now.regions.items c.args.core.now.system.state c.args.core.now.vault c.in-Certifying.checkpoint c.in-Certifying.audit c.in-Certifying.next within)
          (λ is. let waits : c.waits.result ≡ true = c.waits.ensures.told is in search rules));
      places = search rules;
      any_moment = leaves_still g.V.Store c.args.client.now.state c.args.client.now c.args.core.now.regions.items c.args.core.now.system.state _ c.args.core.now.vault _ (λ d past. g.met.V.Store.only_now c.args.core.now.vault.store d past) refl;
      refuses = refuses_none _ _ precheck c.args.client.now _ c.args.core.now.regions.items c.args.core.now.system.state c.no_run.result c.no_run.ensures c.args.client.now.state;
    }
