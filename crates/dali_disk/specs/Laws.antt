-- What reads give, and what a cut makes of a file, is one of the things that a crash may leave.
use Rattle.std.specs.Prelude.{ℕ, zero, suc, ◌+◌, refl}
use Rattle.std.proofs.Common.{arith, inr}
use Rattle.dali_disk.specs.State.{State, IsImage, cut_by}
use Rattle.dali_disk.specs.Mixed.{mixed_image}
use Rattle.dali_disk.specs.Sound.{IsSound}

-- what reads give is one of the images
pub seen_image : (s : State) → IsSound s → IsImage s s.seen
seen_image s h = record { no_shorter = h.longer; no_longer = omega arith; same = λ i lt out. refl }

-- what a cut makes of the file is one of the images
pub cut_image : (n f : ℕ) (s : State) → IsSound s → IsImage s (cut_by n f s).seen
cut_image zero f s h = seen_image s h
cut_image (suc zero) f s h = record {
  no_shorter = omega arith;
  no_longer = h.longer;
  same = λ i lt out. h.agree i lt (λ inside. out (inr inside));
}
cut_image (suc (suc n)) f s h = mixed_image (n + 2) f s h.longer
