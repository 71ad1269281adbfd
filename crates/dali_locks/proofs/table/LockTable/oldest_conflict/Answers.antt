use Rattle.dali_locks.proofs.Kept.{apart_from, nobody_in_the_way, one_in_the_way, all_beside}
use Rattle.dali_locks.proofs.Outcomes.{if_none, not_shared, is_shared}
use Rattle.dali_locks.proofs.table.LockTable.oldest_conflict.Goals as goal

pub returns-in-Some-clause-oldest : goal.returns-in-Some-clause-oldest
returns-in-Some-clause-oldest c =
    one_in_the_way c.self.inside.held.entries c.self.inside.holders.entries c.args.self.now c.self.view_is c.self.invariant c.args.txn c.args.key c.args.mode c.in-Some.holder c.in-Some.held
    c.in-Some.ensures.oldest (not_shared _ c.if-conflicts_with.ensures)

pub returns-in-Some-clause-apart : goal.returns-in-Some-clause-apart
returns-in-Some-clause-apart c = apart_from c.self.inside.held.entries c.args.self.now c.self.view_is c.self.invariant.apart

pub returns-in_default-clause-free : goal.returns-in_default-clause-free
returns-in_default-clause-free c =
    all_beside c.self.inside.held.entries c.self.inside.holders.entries c.args.self.now c.self.view_is c.self.invariant c.args.txn c.args.key c.args.mode c.in-Some.holder c.in-Some.held
    c.in-Some.ensures.oldest (is_shared _ c.if-conflicts_with.ensures)

pub returns-in_default-clause-apart : goal.returns-in_default-clause-apart
returns-in_default-clause-apart c = apart_from c.self.inside.held.entries c.args.self.now c.self.view_is c.self.invariant.apart

pub returns-in_default-2-clause-free : goal.returns-in_default-2-clause-free
returns-in_default-2-clause-free c =
    nobody_in_the_way c.self.inside.held.entries c.self.inside.holders.entries c.args.self.now c.self.view_is c.self.invariant c.args.txn c.args.key c.args.mode
    (if_none c.oldest_other.result c.oldest_other.ensures.none c.in_default.is)

pub returns-in_default-2-clause-apart : goal.returns-in_default-2-clause-apart
returns-in_default-2-clause-apart c = apart_from c.self.inside.held.entries c.args.self.now c.self.view_is c.self.invariant.apart
