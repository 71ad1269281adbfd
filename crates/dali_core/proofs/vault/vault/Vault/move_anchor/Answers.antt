use Rattle.dali_store.specs.Store.{Files}
use Rattle.dali_core.proofs.VaultLemmas.Serving.{still, both, closed_moved, anchored_moved}
use Rattle.dali_core.proofs.vault.vault.Vault.move_anchor.Goals as goal

pub invariant_of-self : goal.invariant_of-self
invariant_of-self g c =
    let old : Files → Type 0 = g.V.Store.may_leave c.self.inside.store in
    let new : Files → Type 0 = g.V.Store.may_leave c.move_anchor.new.store in
    record {
      closed = λ runs. both (g.V.Store.told c.self.inside.store) (g.V.Store.told c.move_anchor.new.store) c.move_anchor.ensures.tells
          (λ are moved. closed_moved old new c.self.inside.end c.self.inside.current are moved) (c.self.invariant.closed c.in_ok-running.ensures.runs) c.in-Ok.ensures.moved;
      anchored = λ runs. still (g.V.Store.told c.self.inside.store) (g.V.Store.told c.move_anchor.new.store) c.move_anchor.ensures.tells
          (λ moved. anchored_moved old new c.self.inside.current moved) c.in-Ok.ensures.moved;
    }
