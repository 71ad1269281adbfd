use Rattle.std.proofs.Common.{◌≡◌, ◌<◌, ◌∷◌, []}
use Rattle.std.proofs.lemmas.Result.{IfOk-weaker}
use Rattle.dali_fuse.specs.Fuse.{failed_of}
use Rattle.dali_report.specs.Lines.{texts}
use Rattle.dali_report.specs.declared.printed.Line.TheVariants as lines
use Rattle.dali_restart.specs.declared.error.RestartError.TheVariants.{Fault}
use Rattle.dali_script.specs.declared.commands.Command.TheVariants as commands
use Rattle.dali_run.specs.Fails.{Fails, HaltsWith}
use Rattle.dali_run.specs.Program.{store_of}
use Rattle.dali_run.specs.Steps.{StepsRestart}
use Rattle.dali_run.specs.declared.program.Program.TheVariants.{Up, Down}
use Rattle.dali_run.proofs.Alone.{ends}
use Rattle.dali_run.proofs.StoreCalls.{Restored, restart_fails_over, restart_steps, restart_stops_over, restored_by, restored_fails}
use Rattle.dali_run.proofs.stores.open.Goals as goal

-- the core
pub returns-in-Ok-clause-steps : goal.returns-in-Ok-clause-steps
returns-in-Ok-clause-steps g c =
    let made = c.in-Ok.ensures in
    let restored : Restored g.V.Store c.args.setting.now.limit (store_of c.args.program) c.in-Ok.core c.in-Ok.report =
    restored_by g.V.Store c.args.setting.now.limit (store_of c.args.program) c.into_store-store.result c.in-Ok.core c.in-Ok.report c.into_store-store.ensures made.gives made.read made.fresh made.whole made.begins made.rests made.idle made.any_moment made.kept in
    IfOk-weaker c.text_of_restart-text.result (λ text. text.items ≡ texts (lines.RolledBack c.in-Ok.report.rolled_back.items ∷ lines.Deleted c.in-Ok.report.deleted.items ∷ []))
    (λ text. StepsRestart g.V.Store c.args.setting.now.limit c.args.program text.items (Up c.in-Ok.core))
    (λ text printed. restart_steps g.V.Store c.args.setting.now.limit c.args.program c.in-Ok.core c.in-Ok.report text.items printed restored)
    c.text_of_restart-text.ensures.text

pub returns-in-Ok-clause-fails : goal.returns-in-Ok-clause-fails
returns-in-Ok-clause-fails g c =
    let made = c.in-Ok.ensures in
    let restored : Restored g.V.Store c.args.setting.now.limit (store_of c.args.program) c.in-Ok.core c.in-Ok.report =
    restored_by g.V.Store c.args.setting.now.limit (store_of c.args.program) c.into_store-store.result c.in-Ok.core c.in-Ok.report c.into_store-store.ensures made.gives made.read made.fresh made.whole made.begins made.rests made.idle made.any_moment made.kept in
    restored_fails g.V.Store c.args.setting.now.limit c.args.setting.now.precheck c.text_of_restart-text.result c.args.program c.in-Ok.core c.in-Ok.report restored
    c.text_of_restart-text.ensures.memory

pub returns-in-Ok-clause-images : goal.returns-in-Ok-clause-images
returns-in-Ok-clause-images g c = c.in-Ok.ensures.whole.files

-- no core
pub returns-in-Err-clause-steps : goal.returns-in-Err-clause-steps
returns-in-Err-clause-steps g c =
    let r = c.in-Err.ensures in
    let f = c.in-Err.refused.store in
    IfOk-weaker c.refusal-printed.result (λ text. (c.in-Err.refused.error ≡ Fault) × (c.failed-failed.result < failed_of f) × (text.items ≡ texts (lines.RestartStoreStopped ∷ [])))
    (λ text. StepsRestart g.V.Store c.args.setting.now.limit c.args.program text.items (Down f))
    (λ text w.
    restart_stops_over g.V.Store c.args.setting.now.limit c.args.program c.into_store-store.result f c.failed-failed.result text.items c.into_store-store.ensures c.failed-failed.ensures w.1
    (r.fault w.0) (record { left = r.any_moment; none = r.none }) w.2)
    c.refusal-printed.ensures.line

pub returns-in-Err-clause-fails : goal.returns-in-Err-clause-fails
returns-in-Err-clause-fails g c =
    let r = c.in-Err.ensures in
    let e = c.in-Err.refused.error in
    let f = c.in-Err.refused.store in
    ends g.V.Store c.args.setting.now.precheck (λ halt. HaltsWith e c.failed-failed.result (failed_of f) halt)
    (λ halt. Fails g.V.Store c.args.setting.now.precheck halt commands.Restart c.args.program f) c.refusal-printed.result
    (λ halt halts.
    restart_fails_over g.V.Store c.args.setting.now.precheck e halt c.failed-failed.result c.args.program c.into_store-store.result f c.into_store-store.ensures c.failed-failed.ensures halts
    (record {
      bad = r.bad;
      unformatted = r.unformatted;
      long = r.long;
      steady = r.steady;
      formatted = r.formatted;
      reads = r.reads;
      fault = r.fault;
      kept = r.kept;
      left = record { left = r.any_moment; none = r.none };
    }))
    c.refusal-printed.ensures.halts
