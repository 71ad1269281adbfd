-- A region's share of a log: its own blocks. So who has one region alone says what a run says of it, with no record of others.
--     share r E                the blocks on region r
--     alone xs                 these as an epoch of their own
--     with_records e xs        the epoch with these records more
--     ShareAppends, ShareAgain, ShareCounts, ShareIsShort, ShareAlone   what a share is made of
--     ShareIsOrdered           no audit ends in it
--     RegionParts              what a run says of a region it says of the region's share alone
--     RegionJoins              and what it says of the share it says of the log, where the audits that ended clean have certified the region
--     IsCertifiedBy            an audit with this number has: it certified the blocks before it began
--     AuditsCertify            so have they all, where each one that ended clean has
--     ShareTouches             the operation that is open there is done and logged
--     StepSpares               a step on the region leaves what is certified; no check is missed that wasn't
--     TouchSpares              so does a block
--     CheckIsSound             a check that tells no stray write, and misses none, certifies all blocks before it
use Rattle.std.specs.Prelude.{◌≡◌, ℕ, ◌+◌, ◌<◌, ◌≤◌, ◌^◌, ◌==◌, true, false, List, [], ◌∷◌, ◌++◌, Option, Some, None, length, slice_get, filter_map, if◌then◌else◌}
use Rattle.dali_record.specs.declared.records.Record.{Record}
use Rattle.dali_record.specs.declared.records.Record.TheVariants.{AuditClean}
use Rattle.dali_record.specs.Log.{Touch, touch_of}
use Rattle.dali_record.specs.Epochs.{Epoch, next_number}
use Rattle.dali_region.specs.State.{RegionState, touched, checked}
use Rattle.dali_runs.specs.Run.{RegionRun, on_region, blocks_on, certified_on}
use Rattle.dali_runs.specs.Regions.{IsOpen, RegionStep, region_after}
use Rattle.dali_runs.specs.Parts.Regions.{IsOrdered}

abbrev pub shared : ℕ → Record → Option Record
shared r x = if on_region r x then Some x else None

abbrev pub share : ℕ → List Record → List Record
share r E = filter_map (shared r) E

abbrev pub alone : List Record → Epoch
alone xs = record { first = 0; records = xs }

abbrev pub with_records : Epoch → List Record → Epoch
with_records e xs = record { first = e.first; records = e.records ++ xs }

-- ---- the share as a list
abbrev pub ShareAppends : Type 0
ShareAppends = (r : ℕ) (xs ys : List Record) → share r (xs ++ ys) ≡ share r xs ++ share r ys

abbrev pub ShareAgain : Type 0
ShareAgain = (r : ℕ) (E : List Record) → share r (share r E) ≡ share r E

abbrev pub ShareCounts : Type 0
ShareCounts = (r : ℕ) (E : List Record) → blocks_on r E ≡ length (share r E)

abbrev pub ShareIsShort : Type 0
ShareIsShort = (r : ℕ) (E : List Record) → length (share r E) ≤ length E

-- blocks on it are their own share
abbrev pub ShareAlone : Type 0
ShareAlone = (r : ℕ) (xs : List Record) → ((i : ℕ) (x : Record) → slice_get xs i ≡ Some x → on_region r x ≡ true) → share r xs ≡ xs

abbrev pub ShareIsOrdered : Type 0
ShareIsOrdered = (r : ℕ) (E : List Record) → IsOrdered (alone (share r E)) × (certified_on r (alone (share r E)) ≡ 0)

-- ---- what a run says of the region
abbrev pub RegionParts : Type 0
RegionParts = (base : List (List ℕ)) (e : Epoch) (r : ℕ) (g : RegionState) → r < length base → RegionRun base e r g → RegionRun base (alone (share r e.records)) r g

abbrev pub RegionJoins : Type 0
RegionJoins =
    (base : List (List ℕ)) (e : Epoch) (r : ℕ) (g : RegionState) → r < length base
    → RegionRun base (alone (share r e.records)) r g
    → (g.missed ≡ false → certified_on r e ≤ g.sound)
    → RegionRun base e r g

-- the audit b began behind a front of the records xs behind e, and what the region had by then is certified
pub record IsCertifiedBy (r : ℕ) (e : Epoch) (xs : List Record) (g : RegionState) (b : ℕ) : Type 0 where
  pub front : List Record
  pub back : List Record
  pub parts : xs ≡ front ++ back
  pub begun : b ≤ next_number e + length front
  pub sound : length (share r e.records) + length (share r front) ≤ g.sound

abbrev pub AuditsCertify : Type 0
AuditsCertify =
    (r : ℕ) (e : Epoch) (xs : List Record) (g : RegionState) → IsOrdered e → certified_on r e ≤ g.sound
    → ((i b : ℕ) → slice_get xs i ≡ Some (AuditClean b) → IsCertifiedBy r e xs g b)
    → certified_on r (with_records e xs) ≤ g.sound

-- ---- its steps
abbrev pub ShareTouches : Type 0
ShareTouches =
    (base : List (List ℕ)) (E : List Record) (x : Record) (a : Touch) (owner : ℕ) (g : RegionState) → RegionRun base (alone (share a.block.region E)) a.block.region g
    → touch_of x ≡ Some a → IsOpen g owner a.block
    → length E < 2 ^ 40 → a.block.region < length base
    → RegionRun base (alone (share a.block.region (E ++ x ∷ []))) a.block.region (touched g)

abbrev pub StepSpares : Type 0
StepSpares = (x : RegionStep) (g : RegionState) → ((region_after x g).sound ≡ g.sound) × ((region_after x g).missed ≡ false → g.missed ≡ false)

abbrev pub TouchSpares : Type 0
TouchSpares = (g : RegionState) → g.sound < 2 ^ 40 → (g.sound ≤ (touched g).sound) × ((touched g).missed ≡ g.missed)

abbrev pub CheckIsSound : Type 0
CheckIsSound =
    (base : List (List ℕ)) (E : List Record) (r : ℕ) (g : RegionState) → RegionRun base (alone (share r E)) r g
    → (g.stray == 0) ≡ true → (checked g).missed ≡ false
    → length (share r E) ≤ (checked g).sound
