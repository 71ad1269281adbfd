use Rattle.dali_redo.proofs.Whole.{start_undos, as_many_at_start}
use Rattle.dali_redo.proofs.redo.Redo.new.Goals as goal

pub invariant_of-result : goal.invariant_of-result
invariant_of-result c = record {
  undos = λ t. start_undos c.new-2.result c.args.att t c.new-2.ensures (c.requires.undos t);
  regions = as_many_at_start c.args.geometry c.args.regions.items c.new.result c.requires.regions c.new.ensures;
}
