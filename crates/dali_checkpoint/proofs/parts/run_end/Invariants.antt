use Rattle.dali_checkpoint.proofs.Pieces.{AreAlike}
use Rattle.dali_checkpoint.proofs.parts.run_end.Given as goal

abbrev pub invariant-loop-count : goal.invariant-loop-count
invariant-loop-count l = record {
  alike : AreAlike l.side l.flag l.regions l.from l.count;
}
