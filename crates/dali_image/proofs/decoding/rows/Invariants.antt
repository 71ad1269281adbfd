use Rattle.std.proofs.Common.{◌≡◌, ◌-◌}
use Rattle.std.specs.Prelude.{None}
use Rattle.std.specs.FinMap.{empty}
use Rattle.dali_image.specs.Decoding.{rows_from}
use Rattle.dali_image.proofs.Above.{IsAbove}
use Rattle.dali_image.proofs.decoding.rows.Given as goal

abbrev pub invariant-loop : goal.invariant-loop
invariant-loop l = record {
  so_far : rows_from l.geometry l.next l.last l.att (l.count - l.counter) l.reader ≡ rows_from l.geometry l.next None empty l.count l.fn.reader;
  above : IsAbove l.att l.last;
}
