use Rattle.std.proofs.Common.{subst}
use Rattle.dali_geometry.specs.Sizes.{Sizes}
use Rattle.dali_fuse.specs.declared.fuse.Fuse.{Fuse}
use Rattle.dali_run.specs.Program.{store_of}
use Rattle.dali_run.proofs.StoreCalls.{Formatted, format_fails_over, format_steps}
use Rattle.dali_run.proofs.stores.size.Goals as goal

pub returns-in-Ok-format-clause-steps : goal.returns-in-Ok-format-clause-steps
returns-in-Ok-format-clause-steps g c =
    let made = c.in-Ok-format.ensures in
    format_steps g.V.Store c.args.setting.now.limit c.args.index c.args.heap c.args.program c.in-Ok-format.core
    c.new-in-Ok-format.result.items c.new-in-Ok-format.ensures.items
    (subst (λ (s : Sizes). Formatted g.V.Store c.args.setting.now.limit s (store_of c.args.program) c.in-Ok-format.core) c.in-Ok.ensures.1
    (subst (λ (f : Fuse g.row.V.Denot). Formatted g.V.Store c.args.setting.now.limit c.in-Ok.geometry f c.in-Ok-format.core) c.into_store.ensures
    (record {
      core = made.core;
      whole = made.whole;
      begins = made.begins;
      unformatted = made.unformatted;
      makes = made.makes;
      left = made.leaves;
      kept = made.kept;
    })))

pub returns-in-Ok-format-clause-images : goal.returns-in-Ok-format-clause-images
returns-in-Ok-format-clause-images g c = c.in-Ok-format.ensures.whole.files

-- no core
pub returns-in-Err-clause-fails : goal.returns-in-Err-clause-fails
returns-in-Err-clause-fails g c =
    let r = c.in-Err.ensures in
    let e = c.in-Err.refused.error in
    let f = c.in-Err.refused.store in
    format_fails_over g.V.Store c.args.setting.now.precheck c.args.index c.args.heap c.in-Ok.geometry e c.from-halt.result c.args.program c.into_store.result f
    c.in-Ok.ensures.1 c.into_store.ensures c.from-halt.ensures
    (record { formatted = r.formatted; wanting = r.wanting; reads = r.reads; errors_are = r.errors; fault = r.fault; kept = r.kept; left = r.leaves })
