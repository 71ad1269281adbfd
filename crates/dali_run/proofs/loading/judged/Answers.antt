use Rattle.std.proofs.Common.{sym, ◌∙◌}
use Rattle.dali_load.proofs.Judged.{well}
use Rattle.dali_run.proofs.loading.judged.Goals as goal

pub returns-in-AllWell-clause-well : goal.returns-in-AllWell-clause-well
returns-in-AllWell-clause-well c = (well c.args.count c.args.lines.now).0 (sym c.in_ok-judge.ensures ∙ c.in-AllWell.is)
