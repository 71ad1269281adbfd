-- What holds of the meaning itself.
--     IsInRange task    each number of the task is in its range
use Rattle.std.specs.Prelude.{⊤, ◌≤◌, ◌<◌, ◌^◌}
use Rattle.dali_arguments.specs.declared.task.Task.{Task}
use Rattle.dali_arguments.specs.declared.task.Task.TheVariants.{Run, Generate, Dump, Show, Status, Load}

abbrev pub IsInRange : Task → Type 0
IsInRange (Run precheck limit) = (4096 ≤ limit) × (limit ≤ 268435456)
IsInRange (Generate clients size number) = ((1 ≤ clients) × (clients ≤ 64)) × ((1 ≤ size) × (size ≤ 1000)) × (number < 2 ^ 64)
IsInRange Dump = ⊤
IsInRange Show = ⊤
IsInRange Status = ⊤
IsInRange (Load index heap) = ((1 ≤ index) × (index ≤ 32768)) × ((1 ≤ heap) × (heap ≤ 65536))
