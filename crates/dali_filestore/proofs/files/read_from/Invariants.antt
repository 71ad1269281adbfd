use Rattle.std.proofs.Common.{◌≡◌, ◌≤◌, length}
use Rattle.dali_filestore.proofs.files.read_from.Given as goal

abbrev pub invariant-loop : goal.invariant-loop
invariant-loop g l = record { inside : l.count ≤ length l.into; size : length l.into ≡ length l.fn.into }
