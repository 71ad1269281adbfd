use Rattle.std.proofs.Common.{◌≡◌}
use Rattle.dali_segments.specs.Clears.{Clears, AreGone}
use Rattle.dali_segments.proofs.calls.clear.Given as goal

abbrev pub invariant-loop-number : goal.invariant-loop-number
invariant-loop-number g l = record {
  clears : Clears l.from l.below (g.F.Files.told l.fn.files) (g.F.Files.told l.files) (g.F.Files.may_leave l.fn.files) (g.F.Files.may_leave l.files) (g.F.Files.is_going l.fn.files) (g.F.Files.is_going l.files) (g.F.Files.moment l.fn.files) (g.F.Files.moment l.files) (g.F.Files.left_since l.fn.files) (g.F.Files.left_since l.files);
  gone : AreGone l.from l.number (g.F.Files.told l.files) (g.F.Files.may_leave l.files) (g.F.Files.is_going l.files);
  faults : g.F.Files.faults l.files ≡ g.F.Files.faults l.fn.files;
}
