-- Where a round begins, its vault is as told.
use Rattle.std.proofs.Common.{[], ap, sym, subst, ◌∙◌}
use Rattle.dali_runs.specs.State.{SystemState}
use Rattle.dali_store.specs.Store.{Files as Disk}
use Rattle.dali_store.specs.declared.store.Store.{Ghosts}
use Rattle.dali_core.specs.Vault.Vaulted.{Vaulted}
use Rattle.dali_concurrent.specs.Moments.{VaultMoments}
use Rattle.dali_concurrent.proofs.Starts.{vault_starts}
use Rattle.dali_concurrent.proofs.Moments.{moments_begin}
use Rattle.dali_locked.specs.Begun.{Begun, outset}
use Rattle.dali_locked.specs.Vaults.{VaultBegins}

pub vault_begins : {V : Type 0} (means : Ghosts V) (began : Vaulted V → Type 0) (b : Begun) → ((d : V) (c : Disk) → means.left_since d (means.moment d) c → means.may_leave d c) → VaultBegins means began b
vault_begins means began b now gs y v with is = record {
  told = λ s p here.
      let may = with.each s p here in
      let at = may.1.stands.at in record {
        batches = may.0;
        at = vault_starts means s may.0 p (outset b s p) v at.vault;
        none = λ runs. at.none_in_hand runs ∙ ap (λ (x : SystemState). x.taken) (sym at.system);
        moments = λ u was. subst (λ z. VaultMoments means s p (outset b s p) z v []) (sym (is u was)) (moments_begin means s may.0 p (outset b s p) gs y v (now v.store) may.1.stands);
        told = at.vault.vault;
      };
  first = λ s p here. ap (λ (x : SystemState). x.first) (with.each s p here).1.stands.at.system;
}
