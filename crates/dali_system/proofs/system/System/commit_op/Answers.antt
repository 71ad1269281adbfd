use Rattle.std.proofs.Common.{sym, subst}
use Rattle.dali_record.specs.declared.operations.Pending.{Pending}
use Rattle.dali_att.specs.Table.{Table}
use Rattle.dali_system.specs.Rows.{AreRows}
use Rattle.dali_record.specs.declared.records.Record.TheVariants.{Forward}
use Rattle.dali_system.proofs.Journals.{ok_here}
use Rattle.dali_system.proofs.RowsAre.{rows_kept}
use Rattle.dali_system.proofs.Systems.{bounded_push}
use Rattle.dali_system.proofs.system.System.commit_op.Goals as goal

pub invariant_of-self-2 : goal.invariant_of-self-2
invariant_of-self-2 c =
    bounded_push c.self.inside c.push_op.new.self (Forward c.args.txn c.args.block.now) _ c.keep.new.table c.self.inside.locks _ c.self.invariant (ok_here c.push_op.result _ c.if-is_err.ensures.value c.push_op.ensures.ok) (c.op_record_length-length.ensures.spelled c.requires.spelled)
    (subst (λ (m : Table Pending). AreRows c.self.inside.next m) (sym c.in_ok-keep.ensures.ok) (rows_kept c.self.inside.next c.self.inside.table c.args.txn c.args.block.now c.args.block.now.undo c.requires.spelled.1.undo c.self.invariant.rows))
