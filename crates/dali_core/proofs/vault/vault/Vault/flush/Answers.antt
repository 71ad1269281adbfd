use Rattle.std.proofs.Common.{ℕ, sym, subst}
use Rattle.dali_store.specs.Store.{Files}
use Rattle.dali_log.specs.Batch.{IsClosedAt}
use Rattle.dali_log.specs.Appending.{bodies_of}
use Rattle.dali_core.proofs.VaultLemmas.Serving.{still, both, closed_added, anchored_added}
use Rattle.dali_core.proofs.vault.vault.Vault.flush.Goals as goal

pub invariant_of-self : goal.invariant_of-self
invariant_of-self g c =
    let old : Files → Type 0 = g.V.Store.may_leave c.self.inside.store in
    let new : Files → Type 0 = g.V.Store.may_leave c.flush.new.store in
    let more = bodies_of c.args.frame.now.body in
    record {
      closed = λ runs. still (g.V.Store.told c.self.inside.store) (g.V.Store.told c.flush.new.store) c.flush.ensures.tells
          (λ added. subst (λ (e : ℕ). (d : Files) → new d → IsClosedAt e d.log) (sym c.in-Ok.ensures.next) (closed_added old new c.self.inside.end more added)) c.in-Ok.ensures.acknowledged;
      anchored = λ runs. both (g.V.Store.told c.self.inside.store) (g.V.Store.told c.flush.new.store) c.flush.ensures.tells
          (λ are added. anchored_added old new c.self.inside.end c.self.inside.current more are added) (c.self.invariant.anchored c.in_ok-running.ensures.runs) c.in-Ok.ensures.acknowledged;
    }
