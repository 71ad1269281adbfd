use Rattle.std.proofs.Common.{◌≡◌, ℕ, ◌<◌, ◌≤◌, length, get_or}
use Rattle.dali_region.specs.State.{restored}
use Rattle.dali_region.proofs.restore.Given as goal

abbrev pub invariant-loop-word : goal.invariant-loop-word
invariant-loop-word l = record {
  size : length l.words ≡ length l.initial.words;
  done : (i : ℕ) → i < l.word → get_or l.words i 0 ≡ get_or (restored l.set l.olds l.initial.words) i 0;
  left : (i : ℕ) → l.word ≤ i → get_or l.words i 0 ≡ get_or l.initial.words i 0;
}
