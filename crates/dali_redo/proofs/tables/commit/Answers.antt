use Rattle.std.proofs.Common.{sym, subst, ap, ◌∙◌, IsSome}
use Rattle.std.specs.FinMap.{get}
use Rattle.dali_att.specs.declared.state.State.TheVariants.{Committed}
use Rattle.dali_att.specs.Table.{with_row, with_state}
use Rattle.dali_record.specs.declared.records.Record.TheVariants.{Commit}
use Rattle.dali_redo.specs.Steps.{Advances, IsCleared}
use Rattle.dali_redo.proofs.Statuses.{cleared_there, commits_one}
use Rattle.dali_redo.proofs.Cleared.{committed_cleared}
use Rattle.dali_redo.proofs.tables.commit.Goals as goal

pub set_state-requires : goal.set_state-requires
set_state-requires c = record { present = subst (λ n. IsSome (get n c.args.txn)) (sym c.clear.ensures) (cleared_there c.args.table.now c.args.txn c.in-Some.field-0 (sym c.state.ensures ∙ c.in-Some.is)) }

pub returns-in-Some-clause-advances : goal.returns-in-Some-clause-advances
returns-in-Some-clause-advances c = subst (λ n. Advances c.args.table.now n (Commit c.args.txn)) (sym (c.set_state.ensures ∙ ap (λ n. with_row n c.args.txn (with_state Committed)) c.clear.ensures)) (commits_one c.args.table.now c.args.txn c.in-Some.field-0 (sym c.state.ensures ∙ c.in-Some.is))

pub returns-in-Some-clause-cleared : goal.returns-in-Some-clause-cleared
returns-in-Some-clause-cleared c = subst (λ n. IsCleared c.args.table.now → IsCleared n) (sym (c.set_state.ensures ∙ ap (λ n. with_row n c.args.txn (with_state Committed)) c.clear.ensures)) (committed_cleared c.args.table.now c.args.txn)
