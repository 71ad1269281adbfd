use Rattle.dali_replay.specs.Cutting.{IsCutAt}
use Rattle.dali_replay.proofs.deleted.delete_all.Given as goal

abbrev pub invariant-loop-at : goal.invariant-loop-at
invariant-loop-at l = IsCutAt l.log l.at l.first l.deleted.items
