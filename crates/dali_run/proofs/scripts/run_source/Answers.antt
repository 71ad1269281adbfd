use Rattle.dali_run.proofs.Fit.{all_fit}
use Rattle.dali_run.proofs.scripts.run_source.Goals as goal

pub run_script-requires-clause-fit : goal.run_script-requires-clause-fit
run_script-requires-clause-fit g c = let spells = c.in-Ok.ensures.read in all_fit spells.bytes c.in-Ok.script spells.spelled
