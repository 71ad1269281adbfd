-- The map of an image.
--     map_of s image           the first value that the image's records have at each key
--     HasRecords s image m     the image's records are exactly the pairs of m
use Rattle.std.specs.Prelude.{◌≡◌, ℕ, ◌↔◌, List, ◌==◌, Option, Some, None, Contains}
use Rattle.std.specs.List.{find}
use Rattle.dali_geometry.specs.Sizes.{Sizes}
use Rattle.dali_access.specs.Index.Records.{records}
use Rattle.dali_history.specs.Serial.{Map}

abbrev pub value_in : Option (ℕ × List ℕ) → Option (List ℕ)
value_in None = None
value_in (Some p) = Some p.1

abbrev pub map_of : Sizes → List (List ℕ) → Map
map_of s image k = value_in (find (λ p. p.0 == k) (records s image))

abbrev pub HasRecords : Sizes → List (List ℕ) → Map → Type 0
HasRecords s image m = (k : ℕ) (v : List ℕ) → Contains (records s image) (k, v) ↔ (m k ≡ Some v)
