use Rattle.std.proofs.Common.{◌≡◌, refl, subst}
use Rattle.dali_generator.specs.Generated.{index_regions, heap_regions}
use Rattle.dali_script.specs.declared.commands.Command.TheVariants.{Size}
use Rattle.dali_run.specs.declared.program.Program.{Program}
use Rattle.dali_run.specs.Program.{HoldsImages, store_of}
use Rattle.dali_run.proofs.Generated.{fails_in, is_made}
use Rattle.dali_run.proofs.RoundCalls.{ok_holds}
use Rattle.dali_run.proofs.generating.made.Goals as goal
use Rattle.dali_run.proofs.Courses.{err_of}

pub returns-in-Err-clause-fails : goal.returns-in-Err-clause-fails
returns-in-Err-clause-fails g c =
    let same : Size c.index_regions.result c.heap_regions.result ≡ Size (index_regions c.args.clients c.args.size) (heap_regions c.args.clients c.args.size) =
    rw (c.index_regions.ensures, c.heap_regions.ensures) refl in (
      c.down.result,
      c.down.ensures,
      fails_in g.V.Store c.in-Err.halt c.leave.result.halt
          (Size c.index_regions.result c.heap_regions.result) (Size (index_regions c.args.clients c.args.size) (heap_regions c.args.clients c.args.size)) c.down.result
          (store_of c.size-program.result.0) c.leave.result.store c.args.setting.now.precheck c.requires.unchecked same
          (err_of _ c.size-program.result.1 c.in-Err.halt c.in-Err.is c.size-program.ensures.fails) c.leave.ensures.halt c.leave.ensures.store,
    )

pub returns-clause-made : goal.returns-clause-made
returns-clause-made g c = (
  is_made g.V.Store c.args.setting.now.limit c.args.clients c.args.size c.args.store c.in-Up.core
      c.down.result c.size-program.result.0 c.index_regions.result c.heap_regions.result c.in_default.field-0.items c.down.ensures c.index_regions.ensures c.heap_regions.ensures c.in-Up.is
      (ok_holds _ c.size-program.result.1 c.in_default.field-0 c.in_default.is c.size-program.ensures.steps),
  subst (λ (p : Program g.row.V.Denot). HoldsImages g.V.Store p) c.in-Up.is c.size-program.ensures.images,
)
