use Rattle.std.proofs.Common.{◌∙◌, sym}
use Rattle.dali_locks.proofs.Kept.{has, apart_from}
use Rattle.dali_locks.proofs.table.LockTable.holds.Goals as goal

pub returns-clause-mode : goal.returns-clause-mode
returns-clause-mode c = c.copied.ensures ∙ c.get.ensures.value ∙ sym (has c.self.inside.held.entries c.args.self.now c.self.view_is c.args.txn c.args.key)

pub returns-clause-apart : goal.returns-clause-apart
returns-clause-apart c = apart_from c.self.inside.held.entries c.args.self.now c.self.view_is c.self.invariant.apart
