use Rattle.std.proofs.Common.{List, sym, subst}
use Rattle.dali_load.specs.Scripts.{script_of}
use Rattle.dali_script.specs.declared.commands.Command.{Command}
use Rattle.dali_run.specs.Told.{AreFit}
use Rattle.dali_run.proofs.Fit.{fits}
use Rattle.dali_run.proofs.loading.store_rows.Goals as goal

pub run_in_memory-store-requires-clause-fit : goal.run_in_memory-store-requires-clause-fit
run_in_memory-store-requires-clause-fit g c =
    subst (λ (script : List Command). AreFit script) (sym c.in-Ok.ensures) (fits (script_of c.args.index c.args.heap c.args.rows.now) c.requires.loadable.right)
