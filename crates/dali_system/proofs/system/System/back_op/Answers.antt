use Rattle.std.proofs.Common.{sym, subst}
use Rattle.dali_record.specs.declared.operations.Pending.{Pending}
use Rattle.dali_att.specs.Table.{Table}
use Rattle.dali_system.specs.Rows.{AreRows}
use Rattle.dali_record.specs.declared.records.Record.TheVariants.{Back}
use Rattle.dali_system.proofs.RowsAre.{rows_popped}
use Rattle.dali_system.proofs.Systems.{bounded_push}
use Rattle.dali_system.proofs.system.System.back_op.Goals as goal

pub invariant_of-self-2 : goal.invariant_of-self-2
invariant_of-self-2 c =
    bounded_push c.self.inside c.push_back.new.self (Back c.args.txn c.args.block.now) _ c.pop.new.self c.self.inside.locks _ c.self.invariant c.in_ok-push_back.ensures.ok (c.op_record_length.ensures.spelled_back c.requires.spelled)
    (subst (λ (m : Table Pending). AreRows c.self.inside.next m) (sym c.pop.ensures.rest) (rows_popped c.self.inside.next c.self.inside.table c.args.txn c.self.invariant.rows))
