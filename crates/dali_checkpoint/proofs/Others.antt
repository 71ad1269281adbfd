-- Steps of others, between the calls of a checkpoint.
use Rattle.std.proofs.Common.{◌≡◌, ℕ, Bool, true, false, List, [], Option, refl, ap, sym, ◌∙◌}
use Rattle.dali_region.specs.State.{RegionState}
use Rattle.dali_store.specs.Store.{Files as Disk}
use Rattle.dali_store.specs.declared.store.Store.{Ghosts}
use Rattle.dali_runs.specs.State.{SystemState, VaultState, CoreState}
use Rattle.dali_runs.specs.Flushes.{frame_of}
use Rattle.dali_runs.specs.Courses.{AuditEnds}
use Rattle.dali_runs.proofs.PartsLemmas.Vaults.{step_has_vault}
use Rattle.dali_crash.specs.Checkpoints.{Does, Point, is_of_checkpoint, target}
use Rattle.dali_crash.proofs.Flags.{flag_changes}
use Rattle.dali_core.specs.Steps.Called.{KeepsImage}
use Rattle.dali_core.specs.Steps.Courses.{calls_none}
use Rattle.dali_core.proofs.StepsLemmas.Courses.{came_same, vault_same, both_true}
use Rattle.dali_core.proofs.StepsLemmas.Steps.{quiet_goes, quiet_keeps}
use Rattle.dali_core.specs.Cores.{IsCoreAt}
use Rattle.dali_geometry.specs.Sizes.{Sizes}
use Rattle.dali_geometry.specs.Places.{regions}
use Rattle.std.proofs.Common.{length, subst, arith}
use Rattle.dali_checkpoint.specs.Running.{AreCopied}
use Rattle.dali_checkpoint.specs.Laws.{OthersKeep, AuditsTell}
use Rattle.dali_checkpoint.proofs.Stays.{Stays, does_stays, is_of_on, all_copied_on, same_target}
use Rattle.dali_checkpoint.proofs.Audited.{passes_go_on, begins_telling, ends_clean, certified_on}

module _ {V : Type 0} (means : Ghosts V) where
  pub others_keep : OthersKeep means
  others_keep s B p q v x quiet step taken = record {
    idle = λ gs y k. record { at = core gs y k.at; flag = flag y k.at.system k.flag; begun = stay.begun ∙ k.begun };
    copying = λ gs y c h k. record {
      at = core gs y k.at;
      flag = flag y k.at.system k.flag;
      is = is_of_on p q c h stay k.is;
      copies = all_copied_on p q h (length p.log) (length q.log) c.copied stay stay.longer k.copies;
      under_way = keeps.under_way h c.copied k.under_way;
    };
    settled = λ gs y c h n k. record {
      at = core gs y k.at;
      flag = flag y k.at.system k.flag;
      is = is_of_on p q c h stay k.is;
      settled = k.settled;
      within = omega (arith, k.within, stay.longer);
      copies = subst (λ (z : Sizes). AreCopied q h n (regions z)) (sym stay.sizes) (all_copied_on p q h n n (regions p.core.system.sizes) stay (omega arith) k.copies);
      head = ap q.heads (same_target p q stay.current) ∙ (ap (λ (z : Point). z.heads (target p)) step.2 ∙ k.head);
      whole = keeps.whole k.whole;
    };
    passes = λ gs y c h n b k tell. passes_go_on p q x h n b step stay k.copies tell;
    certified = λ n b is. certified_on p q n b stay is;
  }
    where
      calm : (is_of_checkpoint x ≡ false) × (calls_none x ≡ true)
      calm = both_true (is_of_checkpoint x) (calls_none x) quiet

      same : q.core.vault ≡ p.core.vault
      same = vault_same (frame_of p.log p.core) p.core.vault q.core.vault x calm.1 (step_has_vault p.log q.log p.core q.core x step.1.0)

      stay : Stays p q
      stay = does_stays p q x step (ap (λ (u : VaultState). u.current) same)

      keeps : KeepsImage means p q v.store v.store
      keeps = quiet_keeps means p q (Does x) v.store step refl same

      core : (gs : List RegionState) (y : SystemState) → IsCoreAt means s B p gs y v → IsCoreAt means s B q q.core.regions q.core.system v
      core gs y at = record {
        regions = refl;
        system = refl;
        vault = quiet_goes means s B p q (Does x) v at.vault step refl (came_same p.log p.core x calm.1) same;
        none_in_hand = λ runs. at.none_in_hand runs ∙ (ap (λ (z : SystemState). z.taken) (sym at.system) ∙ sym taken);
      }

      flag : {b : Bool} (y : SystemState) → p.core.system ≡ y → y.checking ≡ b → q.core.system.checking ≡ b
      flag y is was = flag_changes p q (Does x) step ∙ (ap (λ (z : SystemState). z.checking) is ∙ was)

pub audits_tell : AuditsTell
audits_tell p q b = record {
  begins = λ s. begins_telling p q s;
  ends = λ n s le tell. ends_clean p q n b s (does_stays p q (AuditEnds b []) s (ap (λ (c : CoreState). c.vault.current) s.1.0.1.1)) le tell;
}
