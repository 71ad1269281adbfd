use Rattle.std.proofs.Common.{◌≡◌, map, take}
use Rattle.dali_transcripts.specs.Clients.Told.{act_of}
use Rattle.dali_run.specs.Told.{act_by}
use Rattle.dali_run.proofs.blocks.commands_of.Given as goal

abbrev pub invariant-loop-command : goal.invariant-loop-command
invariant-loop-command l = map act_of l.commands.items ≡ map act_by (take l.command-index l.told)
