use Rattle.dali_redo.proofs.Whole.{as_many_freed}
use Rattle.dali_redo.proofs.redo.Redo.free_dead.Goals as goal

pub invariant_of-self : goal.invariant_of-self
invariant_of-self c = record {
  undos = c.self.invariant.undos;
  regions = as_many_freed c.self.inside.geometry c.self.inside.image c.free_dead.new.self c.self.invariant.regions c.free_dead.ensures;
}
