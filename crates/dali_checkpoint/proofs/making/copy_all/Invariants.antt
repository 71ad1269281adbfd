use Rattle.std.proofs.Common.{◌-◌, length}
use Rattle.dali_checkpoint.specs.Making.{CopiesStayRight}
use Rattle.dali_checkpoint.proofs.Copying.{CopiesTo}
use Rattle.dali_checkpoint.proofs.making.copy_all.Given as goal

abbrev pub invariant-loop-regions : goal.invariant-loop-regions
invariant-loop-regions g l = record {
  copies : CopiesTo g.V.Store l.fn.checkpoint l.fn.regions l.fn.vault l.checkpoint l.regions l.vault;
  right : CopiesStayRight g.V.Store l.fn.regions l.fn.vault l.fn.checkpoint l.vault;
}

abbrev pub decreases-loop-regions : goal.decreases-loop-regions
decreases-loop-regions g l = length l.regions - l.checkpoint.copied
