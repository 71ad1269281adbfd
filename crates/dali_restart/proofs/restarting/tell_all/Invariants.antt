use Rattle.std.proofs.Common.{take}
use Rattle.dali_record.specs.Blocks.{AllAreWords}
use Rattle.dali_restart.proofs.restarting.tell_all.Given as goal

abbrev pub invariant-loop-words : goal.invariant-loop-words
invariant-loop-words l = AllAreWords (take l.words-index l.regions)
