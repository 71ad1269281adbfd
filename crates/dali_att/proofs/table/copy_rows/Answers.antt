use Rattle.dali_att.proofs.Rows.{copied}
use Rattle.dali_att.proofs.table.copy_rows.Goals as goal

pub loop-txn-preserved-in_ok-insert : goal.loop-txn-preserved-in_ok-insert
loop-txn-preserved-in_ok-insert g c =
    copied c.args.rows.now.entries c.loop-txn.copy.entries c.loop-txn.txn-iterator c.next.new.self c.insert.new.self.entries _ c.in-Some.row.now c.in_ok-copy.field-0
    c.into_iter-txn-iterator.ensures.into_iter_gives.5 c.loop-txn.invariant c.in-Some.ensures.steps c.in_ok-insert.ensures.entries c.in_ok-copy.ensures

pub loop-txn-preserved : goal.loop-txn-preserved
loop-txn-preserved g c =
    copied c.args.rows.now.entries c.loop-txn.copy.entries c.loop-txn.txn-iterator c.next.new.self c.insert.new.self.entries _ c.in-Some.row.now c.in_ok-copy.field-0
    c.into_iter-txn-iterator.ensures.into_iter_gives.5 c.loop-txn.invariant c.in-Some.ensures.steps c.in_ok-insert.ensures.entries c.in_ok-copy.ensures
