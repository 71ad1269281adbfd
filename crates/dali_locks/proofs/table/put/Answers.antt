use Rattle.std.proofs.Common.{◌∙◌, sym, ap, cond}
use Rattle.std.specs.Prelude.{Some, None}
use Rattle.dali_locks.specs.Pairs.{mode_at}
use Rattle.dali_locks.proofs.Order.{tied}
use Rattle.dali_locks.proofs.Kept.{taken_back}
use Rattle.dali_locks.proofs.table.put.Goals as goal

pub returns-in-Ok-clause-ok : goal.returns-in-Ok-clause-ok
returns-in-Ok-clause-ok c = (
  λ t k. c.in_ok-insert.ensures.updates.0 (t, k) ∙ ap (λ b. cond b (Some c.args.mode) (mode_at c.args.held.now.entries t k)) (tied c.args.txn c.args.key t k),
  λ k t. c.in-Ok.ensures.updates.0 (k, t) ∙ ap (λ b. cond b (Some c.args.mode) (mode_at c.args.holders.now.entries k t)) (tied c.args.key c.args.txn k t),
)

pub returns-in-Err-clause-err : goal.returns-in-Err-clause-err
returns-in-Err-clause-err c = (
  taken_back c.args.held.now.entries c.insert.new.self.entries c.remove.new.self.entries c.args.txn c.args.key c.args.mode (sym c.requires ∙ c.in-Err.ensures.absent)
      (λ t k. c.in_ok-insert.ensures.updates.0 (t, k) ∙ ap (λ b. cond b (Some c.args.mode) (mode_at c.args.held.now.entries t k)) (tied c.args.txn c.args.key t k))
      (λ t k. c.remove.ensures.updates.0 (t, k) ∙ ap (λ b. cond b None (mode_at c.insert.new.self.entries t k)) (tied c.args.txn c.args.key t k)),
  λ k t. ap (λ es. mode_at es k t) c.in-Err.ensures.err,
)
