use Rattle.std.proofs.Common.{arith, ◌≡◌, ◌≤◌, false, true, ap, sym, subst, refl, ◌∙◌, ◌+◌}
use Rattle.std.specs.FinMap.{get}
use Rattle.std.specs.Prelude.{IsSome}
use Rattle.dali_record.specs.declared.operations.Pending.{Pending}
use Rattle.dali_system.specs.Rows.{AreRows}
use Rattle.dali_system.proofs.RowsAre.{rows_in_state, rows_cleared}
use Rattle.dali_att.specs.Table.{Table, with_row, with_state, without_undos}
use Rattle.dali_att.specs.declared.state.State.TheVariants.{Committed}
use Rattle.dali_record.specs.declared.records.Record.TheVariants.{Commit}
use Rattle.dali_system.specs.Served.{Served}
use Rattle.dali_system.specs.Promised.{promised_to, used}
use Rattle.dali_runs.specs.Steps.{commit_logged}
use Rattle.dali_system.proofs.Rows.{row_twice, row_stays}
use Rattle.dali_system.proofs.Systems.{stepped, bounded_push, nine_commit}
use Rattle.dali_system.proofs.system.System.commit.Goals as goal

pub set_state-requires : goal.set_state-requires
set_state-requires c =
    record { present = row_stays c.self.inside.table c.clear.new.self c.args.txn without_undos c.clear.ensures (subst (λ (y : Served). IsSome (get y.state.table c.args.txn)) (sym c.self.view_is) c.requires.running) }

pub invariant_of-self-2 : goal.invariant_of-self-2
invariant_of-self-2 c =
    bounded_push c.self.inside c.push_from.new.self (Commit c.args.txn) _ c.set_state.new.self c.self.inside.locks 9 c.self.invariant c.in_ok-push_from.ensures.ok (nine_commit c.args.txn)
    (subst (λ (m : Table Pending). AreRows c.self.inside.next m) (sym (c.set_state.ensures ∙ ap (λ m. with_row m c.args.txn (with_state Committed)) c.clear.ensures))
    (rows_in_state c.self.inside.next (with_row c.self.inside.table c.args.txn without_undos) c.args.txn Committed (rows_cleared c.self.inside.next c.self.inside.table c.args.txn c.self.invariant.rows)))

pub returns-clause-ok : goal.returns-clause-ok
returns-clause-ok c =
    stepped c.self.inside c.push_from.new.self (Commit c.args.txn) _ c.set_state.new.self _ c.self.inside.locks c.self.inside.locks (c.self.inside.end + 9) (c.self.inside.end + 9) c.self.inside.next c.self.inside.next
    c.in_ok-push_from.ensures.ok
    (c.set_state.ensures ∙ ap (λ m. with_row m c.args.txn (with_state Committed)) c.clear.ensures ∙ row_twice c.self.inside.table c.args.txn without_undos (with_state Committed)) refl refl refl
    ∙ ap (λ (y : Served). let z : Served = record { state = commit_logged y.state c.args.txn; promised = used y.promised c.args.txn 9 } in z) c.self.view_is

pub returns-in_err-push_from-clause-promised : goal.returns-in_err-push_from-clause-promised
returns-in_err-push_from-clause-promised c runs enough =
    let no : false ≡ true = c.in_err-push_from.ensures.promised (omega (arith, nine_commit c.args.txn)) (omega (arith, nine_commit c.args.txn, subst (λ (y : Served). 9 ≤ promised_to y.promised c.args.txn) (sym c.self.view_is) enough)) in absurd cc
