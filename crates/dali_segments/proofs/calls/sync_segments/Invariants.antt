use Rattle.std.proofs.Common.{◌≡◌}
use Rattle.dali_segments.specs.Quiet.{IsQuiet}
use Rattle.dali_segments.proofs.Quiets.{AreKept}
use Rattle.dali_segments.proofs.calls.sync_segments.Given as goal

abbrev pub invariant-loop-number : goal.invariant-loop-number
invariant-loop-number g l = record {
  quiet : IsQuiet (g.F.Files.told l.fn.files) (g.F.Files.told l.files) (g.F.Files.may_leave l.fn.files) (g.F.Files.may_leave l.files) (g.F.Files.is_going l.fn.files) (g.F.Files.is_going l.files) (g.F.Files.moment l.fn.files) (g.F.Files.moment l.files) (g.F.Files.left_since l.fn.files) (g.F.Files.left_since l.files);
  kept : AreKept (g.F.Files.told l.fn.files) (g.F.Files.may_leave l.files) l.from l.number;
  faults : g.F.Files.faults l.files ≡ g.F.Files.faults l.fn.files;
}
