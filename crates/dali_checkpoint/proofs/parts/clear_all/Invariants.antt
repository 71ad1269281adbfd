use Rattle.std.proofs.Common.{◌≡◌, ◌-◌}
use Rattle.dali_region.specs.Answers.{cleaned}
use Rattle.dali_checkpoint.specs.Runs.{change}
use Rattle.dali_checkpoint.proofs.parts.clear_all.Given as goal

abbrev pub invariant-loop-number : goal.invariant-loop-number
invariant-loop-number l = record {
  changed : l.regions ≡ change (cleaned l.side) l.from (l.number - l.from) l.fn.regions;
}
