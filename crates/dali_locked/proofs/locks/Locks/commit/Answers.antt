use Rattle.std.proofs.Common.{rules}
use Rattle.dali_locked.proofs.locks.Locks.commit.Goals as goal

pub returns-in-Ok-clause-logs : goal.returns-in-Ok-clause-logs
returns-in-Ok-clause-logs g c = record {
  region = c.deref_mut.result.now.region;
  system = c.deref_mut-then-at-lt18446744073709551615.result.now.served;
  behind = c.commit-logged.new.system.served;
  logs = record { onward = search rules; back = search rules };
  theirs = c.deref_mut-then-at-lt18446744073709551615.result.now.seen;
  seen = c.deref_mut.result.now.seen;
  added = search rules;
  id = search rules;
}
