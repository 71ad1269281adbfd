use Rattle.std.proofs.Common.{ap, ◌∙◌, sym}
use Rattle.dali_att.specs.Table.{state_at, undos_at}
use Rattle.dali_resume.specs.Tests.{undoes_last}
use Rattle.dali_redo.proofs.Told.{takes_running}
use Rattle.dali_redo.proofs.rules.may_take_back.Goals as goal

pub returns-then-is_active : goal.returns-then-is_active
returns-then-is_active c =
    c.takes_last_back.ensures
    ∙ (ap (undoes_last c.args.block.now) c.last.ensures
    ∙ takes_running (state_at c.args.table.now c.args.txn) (undos_at c.args.table.now c.args.txn) c.args.block.now (sym c.is_active.ensures ∙ c.if-is_active.true))
