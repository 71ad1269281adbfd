use Rattle.dali_locks.proofs.Ranges.{above_some, above_past, above_none, nothing_left}
use Rattle.dali_locks.proofs.table.oldest_above.Goals as goal

pub returns-in-Some-clause-oldest : goal.returns-in-Some-clause-oldest
returns-in-Some-clause-oldest c = above_some c.args.holders.now c.args.key c.args.txn c.range.result (c.range.ensures.in_range tt) c.next.new.self c.in-Some.field-0-0.now c.in-Some.field-0-1.now c.in-Some.ensures.steps c.if-other-key.true

pub returns-in_default-clause-none : goal.returns-in_default-clause-none
returns-in_default-clause-none c = above_past c.args.holders.now c.args.key c.args.txn c.range.result (c.range.ensures.in_range tt) c.next.new.self c.in-Some.field-0-0.now c.in-Some.field-0-1.now c.in-Some.ensures.steps c.if-other-key.false

pub returns-in_default-2-clause-none : goal.returns-in_default-2-clause-none
returns-in_default-2-clause-none c = above_none c.args.holders.now c.args.key c.args.txn c.range.result (c.range.ensures.in_range tt) (nothing_left c.range.result c.next.new.self _ c.next.result c.next.ensures.steps c.in_default.is)
