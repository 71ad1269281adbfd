use Rattle.std.proofs.Common.{ap, sym, subst, ◌+◌, ◌∙◌}
use Rattle.std.specs.FinMap.{remove}
use Rattle.dali_record.specs.declared.operations.Pending.{Pending}
use Rattle.dali_att.specs.Table.{Table}
use Rattle.dali_record.specs.declared.records.Record.TheVariants.{Begin}
use Rattle.dali_system.specs.Rows.{AreRows}
use Rattle.dali_system.proofs.RowsAre.{none_next, row_added}
use Rattle.dali_system.proofs.Journals.{err_here, ok_here}
use Rattle.dali_system.proofs.Rows.{row_forgotten}
use Rattle.dali_system.proofs.Systems.{same_parts, bounded_begin, bounded_same, nine_begin}
use Rattle.dali_system.proofs.system.System.begin.Goals as goal

pub returns-then-is_err-clause-err : goal.returns-then-is_err-clause-err
returns-then-is_err-clause-err c =
    same_parts c.self.inside c.push.new.self c.end.new.self c.args.self.now (err_here c.push.result _ c.if-is_err.ensures.value c.push.ensures.err)
    (c.end.ensures ∙ ap (λ m. remove m c.self.inside.next) c.in_ok-begin.ensures.ok ∙ row_forgotten c.self.inside.table c.self.inside.next (none_next c.self.inside.next c.self.inside.table c.self.invariant.rows))
    c.self.view_is

pub invariant_of-self-2 : goal.invariant_of-self-2
invariant_of-self-2 c =
    bounded_begin c.self.inside c.push.new.self (Begin c.self.inside.next) _ c.begin.new.self c.self.inside.locks 9 c.self.invariant (ok_here c.push.result _ c.if-is_err.ensures.value c.push.ensures.ok) (nine_begin c.self.inside.next)
    (subst (λ (m : Table Pending). AreRows (c.self.inside.next + 1) m) (sym c.in_ok-begin.ensures.ok) (row_added c.self.inside.next c.self.inside.table c.self.invariant.rows))

-- the row that was added is gone again
pub invariant_of-self-then-is_err : goal.invariant_of-self-then-is_err
invariant_of-self-then-is_err c =
    bounded_same c.self.inside c.push.new.self c.end.new.self c.self.invariant (err_here c.push.result _ c.if-is_err.ensures.value c.push.ensures.err)
    (subst (λ (m : Table Pending). AreRows c.self.inside.next m)
    (sym (c.end.ensures ∙ ap (λ m. remove m c.self.inside.next) c.in_ok-begin.ensures.ok ∙ row_forgotten c.self.inside.table c.self.inside.next (none_next c.self.inside.next c.self.inside.table c.self.invariant.rows)))
    c.self.invariant.rows)
