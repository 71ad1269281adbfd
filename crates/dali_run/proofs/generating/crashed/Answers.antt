use Rattle.std.proofs.Common.{refl}
use Rattle.dali_script.specs.declared.commands.Command.TheVariants.{Crash}
use Rattle.dali_run.specs.declared.program.Program.TheVariants.{Up}
use Rattle.dali_run.specs.Program.{store_of}
use Rattle.dali_run.proofs.Generated.{fails_in}
use Rattle.dali_run.proofs.generating.crashed.Goals as goal
use Rattle.dali_run.proofs.Courses.{err_of}

pub returns-in-Err-clause-fails : goal.returns-in-Err-clause-fails
returns-in-Err-clause-fails g c =
    fails_in g.V.Store c.in-Err.halt c.leave.result.halt (Crash 0) (Crash 0) (Up c.args.core)
    (store_of c.crash-program.result.0) c.leave.result.store c.args.setting.now.precheck c.requires.unchecked refl
    (err_of _ c.crash-program.result.1 c.in-Err.halt c.in-Err.is c.crash-program.ensures.fails) c.leave.ensures.halt c.leave.ensures.store
