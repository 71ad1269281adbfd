use Rattle.dali_system.proofs.Rows.{kept_and_forgotten}
use Rattle.dali_system.proofs.undos.forget.Goals as goal

pub returns-in-Some : goal.returns-in-Some
returns-in-Some c before has kept = kept_and_forgotten before c.args.table.now c.pop.new.self c.args.txn c.args.block.now _ c.in-Some.is kept c.pop.ensures.rest
