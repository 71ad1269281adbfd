-- The walk of a key as a relation on the flags alone, which an operation may have raised.
--     walk s n r               the index region n steps after r
--     Reach s F k r            the walk of k comes to r: each region before it has its flag raised
use Rattle.std.proofs.Common.{◌≡◌, ℕ, ◌<◌, true}
use Rattle.dali_geometry.specs.Sizes.{Sizes}
use Rattle.dali_geometry.specs.Places.{home}
use Rattle.dali_access.specs.Index.Reached.{region_after}
use Rattle.dali_access.proofs.IndexLemmas.Worlds.{Flags}

abbrev pub walk : Sizes → ℕ → ℕ → ℕ
walk s n r = region_after s n r

abbrev pub Raised : Sizes → Flags → ℕ → ℕ → Type 0
Raised s F k n = (m : ℕ) → m < n → F (walk s m (home s k)) ≡ true

abbrev pub Reach : Sizes → Flags → ℕ → ℕ → Type 0
Reach s F k r = (n : ℕ) × (n < s.index) × (walk s n (home s k) ≡ r) × Raised s F k n

-- flags only rise
abbrev pub Rises : Flags → Flags → Type 0
Rises F G = (r : ℕ) → F r ≡ true → G r ≡ true

pub reach_rises : (s : Sizes) (F G : Flags) (k r : ℕ) → Rises F G → Reach s F k r → Reach s G k r
reach_rises s F G k r up h = (h.0, h.1, h.2, λ m b. up (walk s m (home s k)) (h.3 m b))
