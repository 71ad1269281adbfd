use Rattle.std.proofs.Common.{◌≡◌, ◌<◌, ℕ}
use Rattle.dali_segments.specs.Quiet.{IsQuiet}
use Rattle.dali_segments.specs.Extents.{key_at}
use Rattle.dali_segments.proofs.Fixings.{AreSynced}
use Rattle.dali_segments.proofs.extent.sync_all.Given as goal

abbrev pub invariant-loop-number : goal.invariant-loop-number
invariant-loop-number g l = record {
  synced : AreSynced l.number (g.F.Files.told l.fn.files) (g.F.Files.may_leave l.files);
  still : (n : ℕ) → n < l.number → g.F.Files.is_going l.files (key_at n) → ⊥;
  quiet : IsQuiet (g.F.Files.told l.fn.files) (g.F.Files.told l.files) (g.F.Files.may_leave l.fn.files) (g.F.Files.may_leave l.files) (g.F.Files.is_going l.fn.files) (g.F.Files.is_going l.files) (g.F.Files.moment l.fn.files) (g.F.Files.moment l.files) (g.F.Files.left_since l.fn.files) (g.F.Files.left_since l.files);
  faults : g.F.Files.faults l.files ≡ g.F.Files.faults l.fn.files;
}
