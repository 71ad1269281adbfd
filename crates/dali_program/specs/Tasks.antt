-- What the edge asks of a task, where the words mean one.
--     reads_input task    standard input is read for it
--     only_reads task     the files are only read for it
use Rattle.std.specs.Prelude.{Bool, true, false, Option, Some, None}
use Rattle.dali_arguments.specs.declared.task.Task.{Task}
use Rattle.dali_arguments.specs.declared.task.Task.TheVariants.{Run, Load}
use Rattle.dali_arguments.specs.Tasks.{only_reads as task_only_reads}

abbrev pub reads_input : Option Task → Bool
reads_input None = false
reads_input (Some (Run precheck limit)) = true
reads_input (Some (Load index heap)) = true
reads_input (Some _) = false

abbrev pub only_reads : Option Task → Bool
only_reads None = false
only_reads (Some task) = task_only_reads task
