use Rattle.std.proofs.Common.{◌≡◌, ◌∷◌, map, take}
use Rattle.dali_script.specs.declared.commands.ClientCommand.TheVariants.{Begin}
use Rattle.dali_load.specs.Scripts.{insert}
use Rattle.dali_load.proofs.building.round_of.Given as goal

abbrev pub invariant-loop-row : goal.invariant-loop-row
invariant-loop-row l = l.commands.items ≡ Begin ∷ map insert (take l.row-index l.rows)
