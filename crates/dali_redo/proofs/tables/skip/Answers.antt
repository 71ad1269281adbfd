use Rattle.std.proofs.Common.{sym, subst}
use Rattle.dali_redo.specs.Tables.{Holds}
use Rattle.dali_redo.proofs.Copies.{holds}
use Rattle.dali_redo.proofs.tables.skip.Goals as goal

pub returns-in-Ok-clause-left : goal.returns-in-Ok-clause-left
returns-in-Ok-clause-left c = subst (λ n. Holds c.args.left.now c.args.table.now c.args.logged.now n) (sym c.end_epoch.ensures) (holds c.args.left.now c.args.table.now c.hold.new.left c.args.logged.now c.in_ok-held.held c.in_ok-held.ensures.ok)
