-- What a task does.
--     only_reads task    whether it only reads the store
use Rattle.std.specs.Prelude.{Bool, true, false}
use Rattle.dali_arguments.specs.declared.task.Task.{Task}
use Rattle.dali_arguments.specs.declared.task.Task.TheVariants.{Run, Generate, Dump, Show, Status, Load}

abbrev pub only_reads : Task → Bool
only_reads (Run precheck limit) = false
only_reads (Generate clients size number) = false
only_reads Dump = true
only_reads Show = true
only_reads Status = true
only_reads (Load index heap) = false
