use Rattle.std.proofs.Common.{ap, sym, subst, ◌∙◌}
use Rattle.std.proofs.lemmas.Result.{on_ok_weaker}
use Rattle.dali_att.specs.Table.{with_row, with_undo}
use Rattle.dali_record.specs.declared.operations.Pending.{Pending}
use Rattle.dali_record.specs.declared.records.Record.TheVariants.{Forward}
use Rattle.dali_redo.specs.Steps.{Advances, IsCleared}
use Rattle.dali_redo.proofs.Statuses.{adds_one}
use Rattle.dali_redo.proofs.Cleared.{added_cleared}
use Rattle.dali_redo.proofs.tables.add_undo.Goals as goal

pub returns-clause-ok : goal.returns-clause-ok
returns-clause-ok c = on_ok_weaker c.push.result (λ e. subst (λ n. Advances c.args.table.now n (Forward c.args.txn c.args.block.now)) (sym (e ∙ ap (λ (p : Pending). with_row c.args.table.now c.args.txn (with_undo p)) c.pending.ensures)) (adds_one c.args.table.now c.args.txn c.args.block.now c.in-Some.undo (sym c.is_active.ensures ∙ c.if-not-is_active.false) c.in-Some.is)) c.push.ensures.ok

pub returns-clause-cleared : goal.returns-clause-cleared
returns-clause-cleared c =
    on_ok_weaker c.push.result (λ e. subst (λ n. IsCleared c.args.table.now → IsCleared n) (sym e) (added_cleared c.args.table.now c.args.txn c.pending.result (sym c.is_active.ensures ∙ c.if-not-is_active.false))) c.push.ensures.ok
