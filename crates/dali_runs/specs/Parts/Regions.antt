-- One region's part of a run and of each step, in words of the region alone.
--     with_record e x          the epoch with one record more
--     IsOrdered e              its clean place is within it
--     RegionMoves              a step on the region keeps its part
--     RegionTouches            the operation that is open there is done and logged
--     MayMiss e r g x          what a record that is no block on the region asks of it: an audit that ends clean has certified it
--     RegionMisses             any other record keeps its part
--     IsRegionStep r g x h     what the step x does to the region r: it leads from g to h
--     RegionKeeps              each step keeps the part of each region, beside a system that keeps its own
--     StepHasRegion            each step of a core is one of each of its regions
--     changes_region x r       the step may change the region
--     RegionsLeave             each other one is left
use Rattle.std.specs.Prelude.{◌≡◌, ℕ, ◌<◌, ◌≤◌, ◌^◌, ◌==◌, Bool, true, false, ⊤, List, [], ◌∷◌, ◌++◌, Some, IsSome, length, slice_get}
use Rattle.dali_record.specs.declared.records.Record.{Record}
use Rattle.dali_record.specs.declared.records.Record.TheVariants.{Format, AuditClean, Restarted}
use Rattle.dali_record.specs.Log.{Touch, touch_of}
use Rattle.dali_record.specs.Epochs.{Epoch, last_epoch, next_number, clean_place}
use Rattle.dali_region.specs.State.{RegionState, IsLive, touched, checked, taken_back, dead}
use Rattle.dali_runs.specs.State.{SystemState, CoreState}
use Rattle.dali_runs.specs.Run.{RegionRun, on_region}
use Rattle.dali_runs.specs.Regions.{IsOpen, RegionStep, region_after, MayChange}
use Rattle.dali_runs.specs.Audits.{Certifies}
use Rattle.dali_runs.specs.Courses.{Step, IsStep, Operates, TakesBack, Frees, AuditEnds, OnRegion, Passes, Dies, Recovers}
use Rattle.dali_runs.specs.Parts.Systems.{SystemRun, IsSystemStep}

abbrev pub with_record : Epoch → Record → Epoch
with_record e x = record { first = e.first; records = e.records ++ x ∷ [] }

abbrev pub IsOrdered : Epoch → Type 0
IsOrdered e = clean_place e ≤ next_number e

-- ---- a step on the region, a block, and the records of others
abbrev pub RegionMoves : Type 0
RegionMoves = (base : List (List ℕ)) (e : Epoch) (r : ℕ) (g : RegionState) (x : RegionStep) → RegionRun base e r g → MayChange x g → RegionRun base e r (region_after x g)

abbrev pub RegionTouches : Type 0
RegionTouches =
    (base : List (List ℕ)) (e : Epoch) (x : Record) (a : Touch) (owner : ℕ) (g : RegionState) → RegionRun base e a.block.region g
    → touch_of x ≡ Some a → IsOpen g owner a.block
    → IsOrdered e → length e.records < 2 ^ 40 → a.block.region < length base
    → RegionRun base (with_record e x) a.block.region (touched g)

abbrev pub MayMiss : Epoch → ℕ → RegionState → Record → Type 0
MayMiss e r g (AuditClean b) = (b ≤ next_number e) × Certifies e b r g
MayMiss e r g (Format i h) = ⊥
MayMiss e r g (Restarted rolled deleted) = ⊥
MayMiss e r g x = ⊤

abbrev pub RegionMisses : Type 0
RegionMisses =
    (base : List (List ℕ)) (e : Epoch) (x : Record) (r : ℕ) (g : RegionState) → RegionRun base e r g
    → on_region r x ≡ false → IsOrdered e → MayMiss e r g x
    → RegionRun base (with_record e x) r g

-- ---- each step
-- where it is on this region, P holds and it leads to k; else the region is left
abbrev pub WhereHere : Bool → RegionState → Type 0 → RegionState → RegionState → Type 0
WhereHere true g P k h = P × (h ≡ k)
WhereHere false g P k h = h ≡ g

abbrev pub IsRegionStep : ℕ → RegionState → Step → RegionState → Type 0
IsRegionStep r g (Operates t b) h = WhereHere (b.region == r) g (IsOpen g t b) (touched g) h
IsRegionStep r g (TakesBack t b) h = WhereHere (b.region == r) g (IsOpen g t b) (touched g) h
IsRegionStep r g (Frees p b) h = WhereHere (b.region == r) g (IsOpen g p b) (touched g) h
IsRegionStep r g (OnRegion q x) h = WhereHere (q == r) g (MayChange x g) (region_after x g) h
IsRegionStep r g (Passes b q) h = WhereHere (q == r) g ⊤ (checked g) h
IsRegionStep r g (Dies t (Some q)) h = WhereHere (q == r) g (IsLive g) (dead g) h
IsRegionStep r g (Recovers q) h = WhereHere (q == r) g (IsSome g.hold) (taken_back g) h
IsRegionStep r g x h = h ≡ g

-- an audit that ends clean has certified the region
abbrev pub EndsCertified : List Record → ℕ → RegionState → Step → Type 0
EndsCertified L r g (AuditEnds b []) = Certifies (last_epoch L) b r g
EndsCertified L r g x = ⊤

abbrev pub RegionKeeps : Type 0
RegionKeeps =
    (base : List (List ℕ)) (L M : List Record) (y z : SystemState) (x : Step) (r : ℕ) (g h : RegionState) → RegionRun base (last_epoch L) r g
    → SystemRun y.sizes L y → IsSystemStep L y x M z → r < length base
    → IsRegionStep r g x h → EndsCertified L r g x
    → RegionRun base (last_epoch M) r h

abbrev pub StepHasRegion : Type 0
StepHasRegion =
    (L M : List Record) (c d : CoreState) (x : Step) (r : ℕ) (g h : RegionState) → IsStep L c x M d
    → slice_get c.regions r ≡ Some g → slice_get d.regions r ≡ Some h
    → IsRegionStep r g x h

abbrev pub changes_region : Step → ℕ → Bool
changes_region (Operates t b) r = b.region == r
changes_region (TakesBack t b) r = b.region == r
changes_region (Frees p b) r = b.region == r
changes_region (OnRegion q x) r = q == r
changes_region (Passes b q) r = q == r
changes_region (Dies t (Some q)) r = q == r
changes_region (Recovers q) r = q == r
changes_region x r = false

abbrev pub RegionsLeave : Type 0
RegionsLeave =
    (L M : List Record) (c d : CoreState) (x : Step) → IsStep L c x M d
    → (length d.regions ≡ length c.regions) × ((r : ℕ) → changes_region x r ≡ false → slice_get d.regions r ≡ slice_get c.regions r)
