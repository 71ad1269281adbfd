use Rattle.std.proofs.Common.{◌≡◌, take}
use Rattle.dali_run.specs.Generating.{sum_of_keys}
use Rattle.dali_run.proofs.generating.sum_of_keys.Given as goal

abbrev pub invariant-loop-row : goal.invariant-loop-row
invariant-loop-row l = l.sum ≡ sum_of_keys (take l.row-index l.rows)
