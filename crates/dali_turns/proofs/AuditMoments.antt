-- A crash inside the end of an audit.
use Rattle.std.proofs.Common.{◌≡◌, ℕ, ◌≤◌, false, List, [], ◌++◌, length, Option, None, ap, sym, subst, ◌∙◌}
use Rattle.std.proofs.lemmas.List.{append-nil}
use Rattle.dali_record.specs.declared.records.Record.{Record}
use Rattle.dali_region.specs.State.{RegionState}
use Rattle.dali_store.specs.Store.{Files as Disk}
use Rattle.dali_store.specs.declared.store.Store.{Ghosts}
use Rattle.dali_runs.specs.State.{SystemState, log_after}
use Rattle.dali_runs.specs.Steps.{audit_ended}
use Rattle.dali_crash.specs.Traces.{Start}
use Rattle.dali_core.specs.Vault.Vaulted.{Vaulted}
use Rattle.dali_core.specs.Moments.{Within, FlushLeaves}
use Rattle.dali_audit.specs.Findings.{Audited, damaged}
use Rattle.dali_turns.specs.declared.client.Client.{Client}
use Rattle.dali_turns.specs.declared.client.State.TheVariants.{Auditing}
use Rattle.dali_turns.specs.Moments.{Extends, StepLeavesRight}
use Rattle.dali_turns.proofs.Ending.{ended_point, did_end, vault_is}
use Rattle.dali_turns.proofs.Lefts.{flush_leaves}
use Rattle.dali_turns.proofs.Moments.{leaves_behind}

-- a core that logged nothing behind these records extends their log
pub extends_here : (s : Start) (x z : SystemState) (log : List Record) → log ≡ log_after s.log x → z.since ≡ x.since → Extends s z log
extends_here s x z log is since = ([], append-nil log ∙ (is ∙ ap (λ l. s.log ++ l) (sym since)))

module _ {V : Type 0} (means : Ghosts V)
    (k : Client) (gs : List RegionState) (y z : SystemState) (v u : Vaulted V) (audit : Audited) (next : ℕ) where
  pub end_leaves : length gs ≤ next → y.stop ≡ None → (x : SystemState) → x ≡ audit_ended y audit.begin (damaged audit.findings) → (v.stopped ≡ false → z.since ≡ x.since)
      → (v.stopped ≡ false → Within means.told means.moment means.left_since v u (FlushLeaves means.may_leave x v)) → StepLeavesRight means (Auditing audit next) k gs y v z u
  end_leaves all stop x logs since within precheck s B p w a stood of fits =
      let d = did_end means precheck s B p w gs y v stood a.client (Auditing audit next) audit next fits.passing (λ b other. other) all stop in
      let runs = vault_is means precheck s B p w gs y v stood a.client (Auditing audit next) audit next fits.passing (λ b other. other) all stop in
      leaves_behind means (Auditing audit next) k gs y z v u (FlushLeaves means.may_leave (audit_ended y audit.begin (damaged audit.findings)) v)
      (subst (λ (m : SystemState). Within means.told means.moment means.left_since v u (FlushLeaves means.may_leave m v)) logs (within runs)) s p (record {
        to = ended_point p audit.begin (damaged audit.findings);
        steps = d.steps;
        course = d.course;
        log = extends_here s (audit_ended y audit.begin (damaged audit.findings)) z _ (d.stood.stands.at.vault.run.run.log ∙ ap (log_after s.log) d.stood.stands.at.system) (since runs ∙ ap (λ (m : SystemState). m.since) logs);
        right = flush_leaves means s B (ended_point p audit.begin (damaged audit.findings)) gs (audit_ended y audit.begin (damaged audit.findings)) v d.stood.stands.at runs;
      })
