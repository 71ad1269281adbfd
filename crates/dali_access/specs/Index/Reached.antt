-- The walk of a key as a relation, and the pairs that are records, beside the tests that compute them.
--     region_after s n r       the index region n steps after r, in a circle
--     IsReached s image k r    the walk of key k comes to region r: it stands fewer steps behind the home of k than there are index regions, and the overflow flag of each region before it isn't 0
--     WalksAreReached          the test is_reached says just this
--     RecordsAreStored         the records are just the pairs of IsRecord
use Rattle.std.specs.Prelude.{◌≡◌, ◌≢◌, ◌↔◌, ℕ, zero, suc, ◌<◌, true, List, Contains}
use Rattle.dali_geometry.specs.Sizes.{Sizes}
use Rattle.dali_geometry.specs.Places.{home, next_index}
use Rattle.dali_access.specs.Index.Entries.{flag_of}
use Rattle.dali_access.specs.Index.Records.{words_of, is_reached, records, IsRecord}

abbrev pub region_after : Sizes → ℕ → ℕ → ℕ
region_after s zero r = r
region_after s (suc n) r = next_index s (region_after s n r)

abbrev pub IsReached : Sizes → List (List ℕ) → ℕ → ℕ → Type 0
IsReached s image k r = (n : ℕ) × (n < s.index) × (region_after s n (home s k) ≡ r) × ((m : ℕ) → m < n → flag_of (words_of image (region_after s m (home s k))) ≢ 0)

abbrev pub WalksAreReached : Type 0
WalksAreReached = (s : Sizes) (image : List (List ℕ)) (k r : ℕ) → (is_reached s image k r ≡ true) ↔ IsReached s image k r

abbrev pub RecordsAreStored : Type 0
RecordsAreStored = (s : Sizes) (image : List (List ℕ)) (k : ℕ) (v : List ℕ) → Contains (records s image) (k, v) ↔ IsRecord s image k v
