use Rattle.std.proofs.Common.{◌≡◌, ◌≤◌, ◌<◌, ◌+◌, ◌*◌, length, take}
use Rattle.std.specs.Prelude.{◌⊎◌}
use Rattle.dali_store.specs.Store.{HoldsIn}
use Rattle.dali_store.specs.declared.store.FileName.TheVariants.{Log}
use Rattle.dali_segments.specs.Segments.{told_of, LeavesWhere, FullBelow}
use Rattle.dali_segments.specs.Writes.{Writes}
use Rattle.dali_segments.proofs.segmented.Segmented.write_parts.Given as goal

abbrev pub invariant-loop-number : goal.invariant-loop-number
invariant-loop-number g l = record {
  so_far : l.done ≤ length l.bytes;
  in_segment : l.offset < l.fn.self.size;
  placed : l.number ≤ l.last → l.number * l.fn.self.size + l.offset ≡ l.first * l.fn.self.size + l.at + l.done;
  ended : l.last < l.number → l.done ≡ length l.bytes;
  reach : (l.self.last ≤ l.fn.self.last) ⊎ (l.self.last ≤ l.number);
  same : (l.self.size ≡ l.fn.self.size) × ((l.self.dropped ≡ l.fn.self.dropped) × ((l.self.lost ≡ l.fn.self.lost) × (l.self.refused ≡ l.fn.self.refused)));
  writes : Writes (l.first * l.fn.self.size + l.at) l.done (told_of l.fn.self.size (g.F.Files.told l.fn.self.files)) (told_of l.self.size (g.F.Files.told l.self.files)) (LeavesWhere l.fn.self.size (g.F.Files.told l.fn.self.files) (g.F.Files.may_leave l.fn.self.files)) (LeavesWhere l.self.size (g.F.Files.told l.self.files) (g.F.Files.may_leave l.self.files)) (g.F.Files.moment l.fn.self.files) (g.F.Files.moment l.self.files) (λ t. LeavesWhere l.fn.self.size (g.F.Files.told l.fn.self.files) (g.F.Files.left_since l.fn.self.files t)) (λ t. LeavesWhere l.self.size (g.F.Files.told l.self.files) (g.F.Files.left_since l.self.files t));
  written : HoldsIn Log (l.first * l.fn.self.size + l.at) (take l.done l.bytes) (told_of l.fn.self.size (g.F.Files.told l.fn.self.files)) (told_of l.self.size (g.F.Files.told l.self.files));
  full : FullBelow l.self.size l.fn.self.last (g.F.Files.told l.self.files) (g.F.Files.may_leave l.self.files);
  faults : g.F.Files.faults l.self.files ≡ g.F.Files.faults l.fn.self.files;
}
