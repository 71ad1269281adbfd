-- What `may_clean` looks at.
--     HasLeft rs r t           the region r is latched for t, whose client died
--     IsNamed rs o t           so is the region that the state o of a dead transaction names
--     StandsSo o t r h         a hold h on the region r is of a client that died, and one of t stands where o names r
--     StandSo o t rs           so it is of each region
use Rattle.std.specs.Prelude.{◌≡◌, ℕ, true, List, Option, Some, IfSome, slice_get}
use Rattle.dali_region.specs.declared.Hold.{Hold}
use Rattle.dali_region.specs.State.{RegionState}
use Rattle.dali_att.specs.declared.state.State.{State}
use Rattle.dali_att.specs.declared.state.State.TheVariants.{Dead}
use Rattle.dali_runs.specs.State.{hold_in}

abbrev pub HasLeft : List RegionState → ℕ → ℕ → Type 0
HasLeft rs r t = (h : Hold) × (hold_in (slice_get rs r) ≡ Some h) × (h.txn ≡ t) × (h.dead ≡ true)

abbrev pub IsNamed : List RegionState → Option State → ℕ → Type 0
IsNamed rs o t = (r : ℕ) → o ≡ Some (Dead (Some r)) → HasLeft rs r t

abbrev pub StandsSo : Option ℕ → ℕ → ℕ → Option Hold → Type 0
StandsSo latched t r o = IfSome o (λ h. (h.dead ≡ true) × (h.txn ≡ t → latched ≡ Some r))

abbrev pub StandSo : Option ℕ → ℕ → List RegionState → Type 0
StandSo latched t rs = (r : ℕ) (g : RegionState) → slice_get rs r ≡ Some g → StandsSo latched t r g.hold
