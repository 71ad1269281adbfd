use Rattle.std.proofs.Common.{◌≡◌, ◌<◌, ℕ, length}
use Rattle.std.specs.Prelude.{IfSome}
use Rattle.dali_segments.specs.Quiet.{IsQuiet}
use Rattle.dali_segments.specs.Extents.{piece_from}
use Rattle.dali_segments.proofs.extent.last_of.Given as goal

abbrev pub invariant-loop-number : goal.invariant-loop-number
invariant-loop-number g l = record {
  full : IfSome (g.F.Files.told l.fn.files) (λ fs. (n : ℕ) → n < l.number → length (piece_from l.size l.dropped fs n) ≡ l.size);
  quiet : IsQuiet (g.F.Files.told l.fn.files) (g.F.Files.told l.files) (g.F.Files.may_leave l.fn.files) (g.F.Files.may_leave l.files) (g.F.Files.is_going l.fn.files) (g.F.Files.is_going l.files) (g.F.Files.moment l.fn.files) (g.F.Files.moment l.files) (g.F.Files.left_since l.fn.files) (g.F.Files.left_since l.files);
  faults : g.F.Files.faults l.files ≡ g.F.Files.faults l.fn.files;
}
