use Rattle.std.proofs.Common.{◌≡◌}
use Rattle.dali_run.specs.Program.{HoldsImages}
use Rattle.dali_run.proofs.Courses.{Reached}
use Rattle.dali_run.proofs.scripts.run_script.Given as goal

abbrev pub invariant-loop-command : goal.invariant-loop-command
invariant-loop-command g l = record {
  reached : Reached g.V.Store l.setting.limit l.setting.precheck l.fn.store l.script l.command-index (g.K.Sink.taken l.fn.sink) l.program (g.K.Sink.taken l.sink);
  images : HoldsImages g.V.Store l.program;
  kept : g.K.Sink.faults l.sink ≡ g.K.Sink.faults l.fn.sink;
}
