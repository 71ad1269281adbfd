use Rattle.std.proofs.Common.{◌∙◌, ap, cond}
use Rattle.std.specs.Prelude.{None}
use Rattle.dali_locks.specs.Pairs.{mode_at, IsSetTo}
use Rattle.dali_locks.proofs.Order.{tied}
use Rattle.dali_locks.proofs.Kept.{others_stay, set_mirror}
use Rattle.dali_locks.proofs.table.release.Goals as goal

pub loop-key-preserved : goal.loop-key-preserved
loop-key-preserved c =
    let key = c.in-Some.key in
    let gone : IsSetTo None c.args.txn key c.loop-key.held.entries c.remove.new.self.entries = λ t k. c.remove.ensures.updates.0 (t, k) ∙ ap (λ b. cond b None (mode_at c.loop-key.held.entries t k)) (tied c.args.txn key t k) in
    let gone_too : IsSetTo None key c.args.txn c.loop-key.holders.entries c.remove-in-Some.new.self.entries = λ k t. c.remove-in-Some.ensures.updates.0 (k, t) ∙ ap (λ b. cond b None (mode_at c.loop-key.holders.entries k t)) (tied key c.args.txn k t) in
    record {
      others = λ u k other. others_stay c.loop-key.held.entries c.remove.new.self.entries c.args.txn key u k gone other ∙ c.loop-key.invariant.others u k other;
      mirror = set_mirror c.loop-key.held.entries c.remove.new.self.entries c.loop-key.holders.entries c.remove-in-Some.new.self.entries c.args.txn key None c.loop-key.invariant.mirror gone gone_too;
    }
