use Rattle.dali_locks.proofs.Ranges.{below_some, below_none, nothing_left}
use Rattle.dali_locks.proofs.table.oldest_below.Goals as goal

pub returns-in-Some-clause-oldest : goal.returns-in-Some-clause-oldest
returns-in-Some-clause-oldest c = below_some c.args.holders.now c.args.key c.args.txn c.range.result (c.range.ensures.in_range tt) c.next.new.self c.in-Some.field-0-0.now c.in-Some.field-0-1.now c.in-Some.ensures.steps

pub returns-in-None-clause-none : goal.returns-in-None-clause-none
returns-in-None-clause-none c = below_none c.args.holders.now c.args.key c.args.txn c.range.result (c.range.ensures.in_range tt) (nothing_left c.range.result c.next.new.self _ c.next.result c.next.ensures.steps c.in-None.is)
