use Rattle.dali_locks.proofs.Ranges.{first_past, first_none, nothing_left}
use Rattle.dali_locks.proofs.table.first_key.Goals as goal

pub returns-in_default-clause-none : goal.returns-in_default-clause-none
returns-in_default-clause-none c = first_past c.args.held.now 0 c.args.txn c.range.result (c.range.ensures.in_range tt) c.next.new.self c.in-Some.field-0-0.now c.in-Some.field-0-1.now c.in-Some.ensures.steps c.if-holder-txn.false

pub returns-in_default-2-clause-none : goal.returns-in_default-2-clause-none
returns-in_default-2-clause-none c = first_none c.args.held.now 0 c.args.txn c.range.result (c.range.ensures.in_range tt) (nothing_left c.range.result c.next.new.self _ c.next.result c.next.ensures.steps c.in_default.is)
