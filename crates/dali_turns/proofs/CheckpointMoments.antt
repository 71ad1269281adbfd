-- A crash inside a step of a checkpoint.
use Rattle.std.proofs.Common.{◌≡◌, ℕ, ◌+◌, ◌≤◌, Bool, true, false, List, [], ◌∷◌, length, Option, Some, None, IfSome, Result, Ok, Err, is_some, refl, ap, sym, subst, ◌∙◌}
use Rattle.dali_lists.proofs.Options.{none_of_test}
use Rattle.dali_region.specs.State.{RegionState}
use Rattle.dali_region.specs.Answers.{is_dirty}
use Rattle.dali_store.specs.Store.{Files as Disk, LeavesOnly}
use Rattle.dali_store.specs.declared.store.Store.{Ghosts}
use Rattle.dali_runs.specs.declared.causes.Cause.{Cause}
use Rattle.dali_runs.specs.State.{SystemState, log_after}
use Rattle.dali_runs.specs.Steps.{audit_ended}
use Rattle.dali_crash.specs.Checkpoints.{side_of}
use Rattle.dali_crash.specs.Disks.Disks.{image_name}
use Rattle.dali_core.specs.Vault.Vaulted.{Vaulted}
use Rattle.dali_core.specs.Steps.Said.{TornFrom}
use Rattle.dali_core.specs.Moments.{Within, FlushLeaves}
use Rattle.dali_audit.specs.Findings.{Audited, damaged}
use Rattle.dali_checkpoint.specs.Kept.{Checkpointed, side_in, cause_in, cause_of}
use Rattle.dali_checkpoint.specs.Moments.{WriteLeaves, TurnLeaves}
use Rattle.dali_checkpoint.proofs.Moments.{each_told}
use Rattle.dali_checkpoint.specs.declared.error.CheckpointError.{CheckpointError}
use Rattle.dali_checkpoint.specs.declared.error.CheckpointError.TheVariants.{InProgress, Stopped, Fault}
use Rattle.dali_transcripts.specs.declared.clients.command.Command.TheVariants.{Checkpoint as IsCheckpoint}
use Rattle.dali_turns.specs.declared.client.Client.{Client}
use Rattle.dali_turns.specs.declared.client.State.{State}
use Rattle.dali_turns.specs.declared.client.State.TheVariants.{Outside, Copying, Certifying}
use Rattle.dali_turns.specs.Clients.{next_of}
use Rattle.dali_turns.specs.Moments.{LeavesInStep, StepLeavesRight}
use Rattle.dali_turns.proofs.Commands.{behind_next, next_act}
use Rattle.dali_turns.proofs.Starting.{idle}
use Rattle.dali_turns.proofs.Ending.{ended_point, vault_runs}
use Rattle.dali_turns.proofs.Certified.{one, ran, settled, certified_by}
use Rattle.dali_turns.proofs.CertifySteps.{Certifies, since_is}
use Rattle.dali_turns.proofs.Lefts.{flush_leaves, start_leaves_in, copy_leaves_in, settle_leaves_in, certify_leaves_in}
use Rattle.dali_turns.proofs.Moments.{leaves_still, leaves_by, leaves_behind, leaves_at}
use Rattle.dali_turns.proofs.AuditMoments.{extends_here}

-- ---- what the start of a checkpoint answers where the engine is stopped
pub stopped_says : {V T : Type 0} (y : SystemState) (v : Vaulted V) (cause : Cause) (r : Result T CheckpointError) → y.stop ≡ Some cause → IfSome (cause_of y v) (λ cause. r ≡ Err (Stopped cause)) → r ≡ Err (Stopped cause)
stopped_says y v cause r stop says = subst (λ (o : Option Cause). IfSome (cause_in o v.stopped) (λ cause. r ≡ Err (Stopped cause))) stop says

pub never_started : {V T : Type 0} (y : SystemState) (v : Vaulted V) (cause : Cause) (x : T) (r : Result T CheckpointError) → r ≡ Ok x → y.stop ≡ Some cause → IfSome (cause_of y v) (λ cause. r ≡ Err (Stopped cause)) → ⊥
never_started y v cause x r is stop says = let no : r ≡ Err (Stopped cause) = stopped_says y v cause r stop says in cc

pub not_both : {T : Type 0} (r : Result T CheckpointError) → r ≡ Err InProgress → r ≡ Err Fault → ⊥
not_both r one other = cc

not_fault : {T : Type 0} (r : Result T CheckpointError) (cause : Cause) → r ≡ Err (Stopped cause) → r ≡ Err Fault → ⊥
not_fault r cause one other = cc

pub start_stays : {V T : Type 0} (y : SystemState) (v u : Vaulted V) (r : Result T CheckpointError) → (y.checking ≡ true → r ≡ Err InProgress) → (y.checking ≡ false → IfSome (cause_of y v) (λ cause. r ≡ Err (Stopped cause)))
    → ((r ≡ Err Fault → ⊥) → u ≡ v) → (cause : Cause) → y.stop ≡ Some cause → u ≡ v
start_stays y v u r in_progress stopped same cause stop = by_flag y.checking refl
  where
    by_flag : (b : Bool) → y.checking ≡ b → u ≡ v
    by_flag true e = same (λ f. not_both r (in_progress e) f)
    by_flag false e = same (λ f. not_fault r cause (stopped_says y v cause r stop (stopped e)) f)

module _ {V : Type 0} (means : Ghosts V)
    (k : Client) (gs : List RegionState) (y z : SystemState) (v u : Vaulted V) (now : (c : Disk) → means.left_since v.store (means.moment v.store) c → means.may_leave v.store c) where
  -- the engine is stopped, or another checkpoint is under way, or the start writes
  pub start_leaves : next_of k ≡ Some IsCheckpoint → ((cause : Cause) → y.stop ≡ Some cause → u ≡ v) → (y.checking ≡ true → u ≡ v)
      → (v.stopped ≡ false → Within means.told means.moment means.left_since v u (WriteLeaves means y v (image_name (side_of (v.current + 1))) 0 64))
      → StepLeavesRight means Outside k gs y v z u
  start_leaves next stays same within = by_stop y.stop refl
    where
      runs_there : y.stop ≡ None → StepLeavesRight means Outside k gs y v z u
      runs_there stop = by_flag y.checking refl
        where
          by_flag : (b : Bool) → y.checking ≡ b → StepLeavesRight means Outside k gs y v z u
          by_flag true set = leaves_still means Outside k gs y z v u now (same set)
          by_flag false clear = λ precheck s B p w a stood of fits.
              let runs = vault_runs v.stopped (is_some y.stop) stood.stops (ap is_some stop) in
              leaves_by means Outside k gs y z v u (WriteLeaves means y v (image_name (side_of (v.current + 1))) 0 64) (within runs) s p
              (start_leaves_in means s B p gs y v (idle means precheck s B p w a gs y v k k stood of fits (behind_next k) (next_act k IsCheckpoint next) clear) runs)

      by_stop : (o : Option Cause) → y.stop ≡ o → StepLeavesRight means Outside k gs y v z u
      by_stop (Some cause) is = leaves_still means Outside k gs y z v u now (stays cause is)
      by_stop None is = runs_there is

  module _ (c : Checkpointed) (next : ℕ) (stop : y.stop ≡ None) where
    copy_leaves : (g : RegionState) (at n : ℕ) (t : Vaulted V) → u ≡ t → (is_dirty g (side_in c) ≡ false → t ≡ v)
        → (is_dirty g (side_in c) ≡ true → v.stopped ≡ false → LeavesOnly means.moment means.left_since v.store t.store (TornFrom (means.may_leave v.store) (image_name (side_in c)) at n))
        → StepLeavesRight means (Copying c next) k gs y v z u
    copy_leaves g at n t left same within = by_flag (is_dirty g (side_in c)) refl
      where
        by_flag : (b : Bool) → is_dirty g (side_in c) ≡ b → StepLeavesRight means (Copying c next) k gs y v z u
        by_flag false clean = leaves_still means (Copying c next) k gs y z v u now (left ∙ same clean)
        by_flag true dirty = λ precheck s B p w a stood of fits.
            let runs = vault_runs v.stopped (is_some y.stop) stood.stops (ap is_some stop) in
            leaves_by means (Copying c next) k gs y z v u (TornFrom (means.may_leave v.store) (image_name (side_in c)) at n)
            (each_told (means.told v.store) _ (λ e. subst (λ (x : Vaulted V). LeavesOnly means.moment means.left_since v.store x.store (TornFrom (means.may_leave v.store) (image_name (side_in c)) at n)) (sym left) (within dirty runs))) s p
            (copy_leaves_in means s B p gs y v c fits.head at n (fits.copying runs) runs)

    pub settle_leaves : (at n : ℕ) (t : Vaulted V) → u ≡ t → (v.stopped ≡ false → Within means.told means.moment means.left_since v t (WriteLeaves means y v (image_name (side_in c)) at n))
        → StepLeavesRight means (Copying c next) k gs y v z u
    settle_leaves at n t left within precheck s B p w a stood of fits =
        let runs = vault_runs v.stopped (is_some y.stop) stood.stops (ap is_some stop) in
        leaves_by means (Copying c next) k gs y z v u (WriteLeaves means y v (image_name (side_in c)) at n)
        (subst (λ (x : Vaulted V). Within means.told means.moment means.left_since v x (WriteLeaves means y v (image_name (side_in c)) at n)) (sym left) (within runs)) s p
        (settle_leaves_in means s B p gs y v c fits.head at n (fits.copying runs) runs)

  -- a client that stands so copies a region
  pub region_leaves : (state : State) (c : Checkpointed) (next : ℕ) → state ≡ Copying c next → is_some y.stop ≡ false → (g : RegionState) (at n : ℕ) (t : Vaulted V) → u ≡ t → (is_dirty g (side_in c) ≡ false → t ≡ v)
      → (is_dirty g (side_in c) ≡ true → v.stopped ≡ false → LeavesOnly means.moment means.left_since v.store t.store (TornFrom (means.may_leave v.store) (image_name (side_in c)) at n))
      → StepLeavesRight means state k gs y v z u
  region_leaves state c next stands runs g at n t left same within =
      leaves_at means state k gs y z v u (Copying c next) stands (copy_leaves c next (none_of_test y.stop runs) g at n t left same within)

  -- ---- its end, behind the audit's
  module _ (c : Checkpointed) (audit : Audited) (next : ℕ) (all : length gs ≤ next) (stop : y.stop ≡ None) (x : SystemState) (logs : x ≡ audit_ended y audit.begin (damaged audit.findings))
      (made : Result ℕ CheckpointError) (says : Certifies means c (damaged audit.findings) x v made z u) where
    abbrev ending : SystemState
    ending = audit_ended y audit.begin (damaged audit.findings)

    pub certify_leaves : (damaged audit.findings ≡ [] → v.stopped ≡ false → Within means.told means.moment means.left_since v u (TurnLeaves means x v (side_in c)))
        → ((damaged audit.findings ≡ [] → ⊥) → v.stopped ≡ false → Within means.told means.moment means.left_since v u (FlushLeaves means.may_leave x v))
        → StepLeavesRight means (Certifying c audit next) k gs y v z u
    certify_leaves clean_within failing_within precheck s B p w a stood of fits = by_found (damaged audit.findings) refl
      where
        runs : v.stopped ≡ false
        runs = ran means precheck s B p w a gs y v k k stood of c audit next fits all stop

        since : z.since ≡ ending.since
        since = since_is means precheck k k gs y v c audit next all stop x z u made logs says runs s B p w stood ∙ ap (λ (m : SystemState). m.since) logs

        by_found : (l : List ℕ) → damaged audit.findings ≡ l → Within means.told means.moment means.left_since v u (LeavesInStep s p gs z)
        by_found [] clean =
            let d = one means precheck s B p w a gs y v k k stood of c audit next fits all stop in
            leaves_behind means (Certifying c audit next) k gs y z v u (TurnLeaves means ending v (side_in c))
            (subst (λ (m : SystemState). Within means.told means.moment means.left_since v u (TurnLeaves means m v (side_in c))) logs (clean_within clean runs)) s p (record {
              to = ended_point p audit.begin (damaged audit.findings);
              steps = d.steps;
              course = d.course;
              log = extends_here s ending z _ (d.stood.stands.at.vault.run.run.log ∙ ap (log_after s.log) d.stood.stands.at.system) since;
              right = certify_leaves_in means s B (ended_point p audit.begin (damaged audit.findings)) gs ending v c fits.head fits.number audit.begin
                  (settled means precheck s B p w a gs y v k k stood of c audit next fits all stop) (certified_by means precheck s B p w a gs y v k k stood of c audit next fits all stop clean) runs;
            })
        by_found (r ∷ rs) bad =
            let d = one means precheck s B p w a gs y v k k stood of c audit next fits all stop in
            leaves_behind means (Certifying c audit next) k gs y z v u (FlushLeaves means.may_leave ending v)
            (subst (λ (m : SystemState). Within means.told means.moment means.left_since v u (FlushLeaves means.may_leave m v)) logs (failing_within (λ none. let never : r ∷ rs ≡ [] = sym bad ∙ none in absurd (cc)) runs)) s p (record {
              to = ended_point p audit.begin (damaged audit.findings);
              steps = d.steps;
              course = d.course;
              log = extends_here s ending z _ (d.stood.stands.at.vault.run.run.log ∙ ap (log_after s.log) d.stood.stands.at.system) since;
              right = flush_leaves means s B (ended_point p audit.begin (damaged audit.findings)) gs ending v d.stood.stands.at runs;
            })
