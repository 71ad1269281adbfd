use Rattle.std.proofs.Common.{◌≡◌, ◌++◌, take, drop}
use Rattle.dali_disk.specs.State.{mixed_from}
use Rattle.dali_disk.proofs.disk.mix_all.Given as goal

abbrev pub invariant-loop-at : goal.invariant-loop-at
invariant-loop-at l = take l.at l.seen ++ mixed_from l.choice l.file l.synced l.spans l.at (drop l.at l.seen) ≡ mixed_from l.choice l.file l.synced l.spans 0 l.fn.seen
