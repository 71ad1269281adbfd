use Rattle.std.proofs.Common.{sym, subst}
use Rattle.dali_record.specs.declared.operations.Pending.{Pending}
use Rattle.dali_att.specs.Table.{Table}
use Rattle.dali_system.specs.Rows.{AreRows}
use Rattle.dali_att.specs.declared.state.State.TheVariants.{Cleaning}
use Rattle.dali_system.proofs.RowsAre.{rows_in_state}
use Rattle.dali_system.proofs.Systems.{bounded_table}
use Rattle.dali_system.proofs.system.System.claim.Goals as goal

pub invariant_of-self : goal.invariant_of-self
invariant_of-self c =
    bounded_table c.self.inside c.set_state.new.self c.self.invariant
    (subst (λ (m : Table Pending). AreRows c.self.inside.next m) (sym c.set_state.ensures) (rows_in_state c.self.inside.next c.self.inside.table c.args.txn (Cleaning _) c.self.invariant.rows))
