use Rattle.std.proofs.Common.{arith, ◌≡◌, ◌≤◌, false, true, sym, subst}
use Rattle.dali_record.specs.declared.operations.Pending.{Pending}
use Rattle.dali_att.specs.Table.{Table}
use Rattle.dali_system.specs.Rows.{AreRows}
use Rattle.dali_system.proofs.RowsAre.{row_ended}
use Rattle.dali_record.specs.declared.records.Record.TheVariants.{Ended}
use Rattle.dali_system.specs.Served.{Served}
use Rattle.dali_system.specs.Promised.{promised_to}
use Rattle.dali_system.proofs.Systems.{bounded_push, nine_ended}
use Rattle.dali_system.proofs.system.System.ended.Goals as goal

pub invariant_of-self-2 : goal.invariant_of-self-2
invariant_of-self-2 c =
    bounded_push c.self.inside c.push_last.new.self (Ended c.args.txn) _ c.end.new.self c.release_all.new.self 9 c.self.invariant c.in_ok-push_last.ensures.ok (nine_ended c.args.txn)
    (subst (λ (m : Table Pending). AreRows c.self.inside.next m) (sym c.end.ensures) (row_ended c.self.inside.next c.self.inside.table c.args.txn c.self.invariant.rows))

pub returns-in_err-push_last-clause-promised : goal.returns-in_err-push_last-clause-promised
returns-in_err-push_last-clause-promised c runs enough =
    let no : false ≡ true = c.in_err-push_last.ensures.promised (omega (arith, nine_ended c.args.txn, subst (λ (y : Served). 9 ≤ promised_to y.promised c.args.txn) (sym c.self.view_is) enough)) in absurd cc
