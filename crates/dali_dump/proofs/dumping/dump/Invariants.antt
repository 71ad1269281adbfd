use Rattle.std.proofs.Common.{◌-◌, ◌^◌}
use Rattle.dali_dump.proofs.Numbered.{IsDumping}
use Rattle.dali_dump.proofs.dumping.dump.Given as goal

abbrev pub invariant-records : goal.invariant-records
invariant-records g l = IsDumping g.V.Store l.fn.store l.store l.reader l.number l.text.items

abbrev pub decreases-records : goal.decreases-records
decreases-records g l = 2 ^ 62 - l.reader.at
