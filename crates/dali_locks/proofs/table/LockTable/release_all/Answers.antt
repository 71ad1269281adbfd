use Rattle.std.proofs.Common.{refl}
use Rattle.dali_locks.proofs.Kept.{apart_from, released_apart, released_made}
use Rattle.dali_locks.proofs.table.LockTable.release_all.Goals as goal

pub returns-clause-freed : goal.returns-clause-freed
returns-clause-freed c = released_made c.self.inside.held.entries c.release.new.held.entries c.args.self.now c.args.txn c.self.view_is c.release.ensures.released

pub returns-clause-apart : goal.returns-clause-apart
returns-clause-apart c = apart_from c.release.new.held.entries _ refl (released_apart c.self.inside.held.entries c.release.new.held.entries c.args.txn c.release.ensures.released c.self.invariant.apart)
