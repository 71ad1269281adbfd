use Rattle.std.proofs.Common.{refl, inl}
use Rattle.dali_script.specs.declared.commands.Command.TheVariants.{Restart}
use Rattle.dali_run.specs.Program.{store_of}
use Rattle.dali_run.proofs.Generated.{fails_in, not_restarted, restarts}
use Rattle.dali_run.proofs.RoundCalls.{ok_holds}
use Rattle.dali_run.proofs.generating.found.Goals as goal
use Rattle.dali_run.proofs.Courses.{err_of}

pub returns-in-Err-clause-fails : goal.returns-in-Err-clause-fails
returns-in-Err-clause-fails g c =
    inl (fails_in g.V.Store c.in-Err.halt c.leave.result.halt Restart Restart c.args.program
    (store_of c.open-program.result.0) c.leave.result.store c.args.setting.now.precheck c.requires.unchecked refl
    (err_of _ c.open-program.result.1 c.in-Err.halt c.in-Err.is c.open-program.ensures.fails) c.leave.ensures.halt c.leave.ensures.store)

pub returns-in-Up-clause-finds : goal.returns-in-Up-clause-finds
returns-in-Up-clause-finds g c =
    restarts g.V.Store c.args.setting.now.limit c.args.program c.open-program.result.0 c.in_default.field-0.items c.in-Up.core c.in-Up.is
    (ok_holds _ c.open-program.result.1 c.in_default.field-0 c.in_default.is c.open-program.ensures.steps)

pub returns-clause-fails : goal.returns-clause-fails
returns-clause-fails g c =
    not_restarted g.V.Store c.args.setting.now.limit c.args.program c.open-program.result.0 c.in_default.field-0.items c.in-Down.store
    c.leave-in-Down.result.halt c.leave-in-Down.result.store c.in-Down.is
    (ok_holds _ c.open-program.result.1 c.in_default.field-0 c.in_default.is c.open-program.ensures.steps) c.leave-in-Down.ensures.halt c.leave-in-Down.ensures.store
