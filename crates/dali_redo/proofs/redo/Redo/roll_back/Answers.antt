use Rattle.dali_redo.proofs.Whole.{end_undos, as_many}
use Rattle.dali_redo.proofs.redo.Redo.roll_back.Goals as goal

pub invariant_of-self : goal.invariant_of-self
invariant_of-self c = record {
  undos = λ t. end_undos c.perform.new.left c.perform.new.table t c.perform.ensures.table c.perform.ensures.left;
  regions = as_many c.self.inside.geometry c.self.inside.image c.perform.new.image c.self.invariant.regions c.perform.ensures.regions;
}
