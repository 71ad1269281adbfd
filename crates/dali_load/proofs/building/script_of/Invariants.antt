use Rattle.std.proofs.Common.{◌≡◌, ◌∷◌, map}
use Rattle.dali_access.specs.Index.Records.{below}
use Rattle.dali_script.specs.declared.commands.Command.TheVariants.{Size}
use Rattle.dali_load.specs.Scripts.{group_at, round_of}
use Rattle.dali_load.proofs.building.script_of.Given as goal

abbrev pub invariant-loop-number : goal.invariant-loop-number
invariant-loop-number l = l.commands.items ≡ Size l.index l.heap ∷ map (λ i. round_of (group_at l.rows i)) (below l.number)
