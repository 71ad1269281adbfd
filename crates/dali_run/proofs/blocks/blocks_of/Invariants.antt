use Rattle.std.proofs.Common.{◌≡◌, map, take}
use Rattle.dali_transcripts.specs.Clients.Told.{told_of}
use Rattle.dali_run.specs.Told.{told_by}
use Rattle.dali_run.proofs.blocks.blocks_of.Given as goal

abbrev pub invariant-loop-block : goal.invariant-loop-block
invariant-loop-block l = map told_of l.blocks.items ≡ map told_by (take l.block-index l.told)
