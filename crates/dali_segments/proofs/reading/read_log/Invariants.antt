use Rattle.std.proofs.Common.{◌≡◌, ◌≤◌, ◌<◌, ◌+◌, ◌*◌, length}
use Rattle.std.specs.Prelude.{IfSome}
use Rattle.dali_segments.specs.Quiet.{IsQuiet}
use Rattle.dali_segments.specs.Segments.{EndsIn}
use Rattle.dali_segments.proofs.Readings.{HasRead}
use Rattle.dali_segments.proofs.reading.read_log.Given as goal

abbrev pub invariant-loop-number : goal.invariant-loop-number
invariant-loop-number g l = record {
  so_far : l.count ≤ length l.fn.into;
  in_segment : l.offset < l.size;
  placed : l.number * l.size + l.offset ≡ l.at + l.count;
  whole : length l.into ≡ length l.fn.into;
  bytes_read : IfSome (g.F.Files.told l.fn.files) (λ fs. EndsIn l.size l.last l.dropped fs → HasRead l.size l.at l.count fs l.fn.into l.into);
  quiet : IsQuiet (g.F.Files.told l.fn.files) (g.F.Files.told l.files) (g.F.Files.may_leave l.fn.files) (g.F.Files.may_leave l.files) (g.F.Files.is_going l.fn.files) (g.F.Files.is_going l.files) (g.F.Files.moment l.fn.files) (g.F.Files.moment l.files) (g.F.Files.left_since l.fn.files) (g.F.Files.left_since l.files);
  faults : g.F.Files.faults l.files ≡ g.F.Files.faults l.fn.files;
}
