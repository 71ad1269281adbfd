use Rattle.std.proofs.Common.{subst, sym, ap}
use Rattle.std.specs.FinMap.{from_entries}
use Rattle.dali_locks.specs.Locks.{Locks, IsApart, lock_cmp}
use Rattle.dali_locks.proofs.Kept.{empty_apart}
use Rattle.dali_locks.proofs.table.LockTable.new.Goals as goal

pub returns-clause-apart : goal.returns-clause-apart
returns-clause-apart c = subst (λ (ls : Locks). IsApart ls) (sym (ap (λ es. from_entries {R = lock_cmp} es) c.new.ensures.empty)) empty_apart
