use Rattle.std.proofs.Common.{arith}
use Rattle.dali_system.proofs.RowsAre.{rows_none}
use Rattle.dali_system.proofs.system.System.new.Goals as goal

pub invariant_of-result : goal.invariant_of-result
invariant_of-result c = record {
  first = c.requires.first;
  end = omega (arith, c.requires.end);
  next = omega (arith, c.requires.next);
  limit = c.requires.limit;
  rows = rows_none c.args.next c.new-2.result c.new-2.ensures;
}
