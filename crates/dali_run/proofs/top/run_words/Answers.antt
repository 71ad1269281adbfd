use Rattle.std.specs.Prelude.{map, string_bytes}
use Rattle.dali_arguments.proofs.InRange.{in_range}
use Rattle.dali_run.proofs.top.run_words.Goals as goal

pub run_task-requires : goal.run_task-requires
run_task-requires g c = record { range = in_range (map string_bytes c.args.words.now) c.in-Ok.task c.in-Ok.ensures.means }
