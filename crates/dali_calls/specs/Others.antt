-- What a transaction leaves to the others, and what its end leaves of it.
--     HoldStays rs rs' r       the region r has the hold that it had, or none
--     HoldsClear rs rs'        so it is of each region
--     PromisesStay s t z       each transaction but t has the memory promised that it had
--     IsGone y t               t has no row, so nothing to take back, and no lock
--     is_apart t x             the step x isn't one of t: it is of another transaction, or of none
use Rattle.std.specs.Prelude.{◌≡◌, ◌==◌, ◌⊎◌, ℕ, Bool, true, false, not, List, None, slice_get}
use Rattle.dali_region.specs.State.{RegionState}
use Rattle.dali_runs.specs.State.{SystemState, row_of, lock_of, hold_in}
use Rattle.dali_runs.specs.Regions.{RegionStep, Latch}
use Rattle.dali_runs.specs.Courses.{Step, Operates, TakesBack, Frees, Answers, Commits, Ends, Locks, Refuses, OnRegion, Dies, Claims, GivesBack}
use Rattle.dali_system.specs.Served.{Served}
use Rattle.dali_system.specs.Promised.{promised_to}

abbrev pub HoldStays : List RegionState → List RegionState → ℕ → Type 0
HoldStays rs rs' r = (hold_in (slice_get rs' r) ≡ hold_in (slice_get rs r)) ⊎ (hold_in (slice_get rs' r) ≡ None)

abbrev pub HoldsClear : List RegionState → List RegionState → Type 0
HoldsClear rs rs' = (r : ℕ) → HoldStays rs rs' r

abbrev pub PromisesStay : Served → ℕ → Served → Type 0
PromisesStay s t z = (u : ℕ) → (t == u) ≡ false → promised_to z.promised u ≡ promised_to s.promised u

abbrev pub IsGone : SystemState → ℕ → Type 0
IsGone y t = (row_of y t ≡ None) × ((k : ℕ) → lock_of y t k ≡ None)

abbrev pub is_apart_on : ℕ → RegionStep → Bool
is_apart_on t (Latch u) = not (u == t)
is_apart_on t x = true

abbrev pub is_apart : ℕ → Step → Bool
is_apart t (Operates u b) = not (u == t)
is_apart t (TakesBack u b) = not (u == t)
is_apart t (Frees u b) = not (u == t)
is_apart t (Answers u call a) = not (u == t)
is_apart t (Commits u) = not (u == t)
is_apart t (Ends u) = not (u == t)
is_apart t (Locks u k m) = not (u == t)
is_apart t (Refuses u k m h) = not (u == t)
is_apart t (Dies u o) = not (u == t)
is_apart t (Claims u) = not (u == t)
is_apart t (GivesBack u o) = not (u == t)
is_apart t (OnRegion r x) = is_apart_on t x
is_apart t x = true
