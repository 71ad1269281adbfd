use Rattle.std.proofs.Common.{length, subst}
use Rattle.dali_store.specs.declared.store.FileName.{FileName}
use Rattle.dali_store.specs.Store.{Files, TornIn, Follows}
use Rattle.dali_core.proofs.VaultLemmas.Serving.{still, closed_written, anchored_written}
use Rattle.dali_core.proofs.vault.vault.Vault.image_write.Goals as goal

pub invariant_of-self : goal.invariant_of-self
invariant_of-self g c =
    let old : Files → Type 0 = g.V.Store.may_leave c.self.inside.store in
    let new : Files → Type 0 = g.V.Store.may_leave c.write_at.new.self in
    let follows = subst (λ (f : FileName). Follows (TornIn f c.args.at (length c.args.bytes.now)) old new) c.file_of.ensures c.write_at.ensures.crash in
    record {
      closed = λ runs. still (g.V.Store.told c.self.inside.store) (g.V.Store.told c.write_at.new.self) c.write_at.ensures.tells
          (λ are. closed_written old new c.args.side c.args.at (length c.args.bytes.now) c.self.inside.end are follows) (c.self.invariant.closed c.in_ok-running.ensures.runs);
      anchored = λ runs. still (g.V.Store.told c.self.inside.store) (g.V.Store.told c.write_at.new.self) c.write_at.ensures.tells
          (λ are. anchored_written old new c.args.side c.args.at (length c.args.bytes.now) c.self.inside.current are follows) (c.self.invariant.anchored c.in_ok-running.ensures.runs);
    }
