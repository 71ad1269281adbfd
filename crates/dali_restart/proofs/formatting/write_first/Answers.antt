use Rattle.dali_restart.proofs.Formatted.{ends_at}
use Rattle.dali_restart.proofs.formatting.write_first.Goals as goal

pub returns-clause-end : goal.returns-clause-end
returns-clause-end g c = ends_at c.args.geometry.now c.args.frame.now.body c.format.result c.requires.first c.format.ensures.next
