use Rattle.std.proofs.Common.{◌≡◌}
use Rattle.std.specs.Prelude.{flat_map}
use Rattle.dali_access.specs.Index.Records.{below}
use Rattle.dali_load.specs.Answers.{lines_at}
use Rattle.dali_load.proofs.judging.expected.Given as goal

abbrev pub invariant-loop-group : goal.invariant-loop-group
invariant-loop-group l = l.text.items ≡ flat_map (lines_at l.count) (below l.group)
