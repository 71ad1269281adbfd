use Rattle.std.proofs.Common.{sym, subst}
use Rattle.dali_notes.specs.History.{AreFresh}
use Rattle.dali_concurrent.specs.Told.{History}
use Rattle.dali_locked.specs.Vaults.{IsTold}
use Rattle.dali_locked.proofs.Beginnings.{values_begin}
use Rattle.dali_locked.proofs.VaultBeginnings.{vault_begins}
use Rattle.dali_locked.proofs.Freshness.{fresh_last}
use Rattle.dali_locked.proofs.sharing.share.Goals as goal

pub share_regions-requires-clause-told : goal.share_regions-requires-clause-told
share_regions-requires-clause-told g c κs within =
    (values_begin g.V.Store g.B.Beginning.begun c.args.core.regions.items c.args.core.system.state c.args.core.vault c.requires.begins).regions

pub new-vault-requires-clause-told : goal.new-vault-requires-clause-told
new-vault-requires-clause-told g c κs within =
    let fresh = subst (AreFresh g.H.Home.table 0) c.in-Some-Some.ensures.items c.share_regions.ensures.fresh.0 in
    subst (λ (T : History). IsTold g.V.Store g.B.VaultBeginning.began g.B.Beginning.begun c.args.core.vault T)
    (sym (fresh_last g.H.Home.table 0 c.pop.new.self.items c.in-Some-Some.of_vault fresh).2)
    (vault_begins g.V.Store g.B.VaultBeginning.began g.B.Beginning.begun g.met.V.Store.only_now
    c.args.core.regions.items c.args.core.system.state c.args.core.vault c.requires.begins c.requires.began).told
