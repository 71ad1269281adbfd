-- What a clean-up of t leaves to the other transactions.
--     IsFreed rs u rs'         a region that u had latched is latched by nobody any more
--     RowStays rs y u rs' z    u has the row that it had; or it is dead as it was, a region that it had latched is free, and its row names none
--     OthersStay rs y t rs' z  each other transaction has its row so, and its locks; and no region is latched that wasn't
--     HasKept s z              each transaction, t too, has the locks that it had, and the memory promised
--     CleansOnly rs s t result rs' z   what a clean-up with this answer leaves to all: to the others as above, with the memory promised to them; t is
--                              gone where it is cleaned up, and what it was promised is given back; it has kept what it had where that is refused;
--                              the flags of the regions stay
use Rattle.std.specs.Prelude.{◌≡◌, ◌==◌, ◌⊎◌, ℕ, false, List, None, Some, Result, OnOk, OnErr, slice_get, option_map}
use Rattle.std.specs.FinMap.{remove}
use Rattle.dali_region.specs.declared.Hold.{Hold}
use Rattle.dali_region.specs.State.{RegionState}
use Rattle.dali_att.specs.declared.state.State.TheVariants.{Dead}
use Rattle.dali_att.specs.Table.{with_state}
use Rattle.dali_runs.specs.State.{SystemState, row_of, state_of, lock_of, hold_in}
use Rattle.dali_system.specs.Served.{Served}
use Rattle.dali_calls.specs.Flags.{FlagsStay}
use Rattle.dali_calls.specs.Others.{HoldStays, PromisesStay, IsGone}
use Rattle.dali_clean.specs.Cleaned.{IsDead}

abbrev pub IsFreed : List RegionState → ℕ → List RegionState → Type 0
IsFreed rs u rs' = (r : ℕ) × (h : Hold) × (hold_in (slice_get rs r) ≡ Some h) × (h.txn ≡ u) × (hold_in (slice_get rs' r) ≡ None)

abbrev pub RowStays : List RegionState → SystemState → ℕ → List RegionState → SystemState → Type 0
RowStays rs y u rs' z =
    (row_of z u ≡ row_of y u) ⊎ (IsDead (state_of y u) × IsFreed rs u rs' × (row_of z u ≡ option_map (with_state (Dead None)) (row_of y u)))

pub record OthersStay (rs : List RegionState) (y : SystemState) (t : ℕ) (rs' : List RegionState) (z : SystemState) : Type 0 where
  pub rows : (u : ℕ) → (t == u) ≡ false → RowStays rs y u rs' z
  pub locks : (u k : ℕ) → (t == u) ≡ false → lock_of z u k ≡ lock_of y u k
  pub holds : (r : ℕ) → HoldStays rs rs' r

pub record HasKept (s z : Served) : Type 0 where
  pub locks : z.state.locks ≡ s.state.locks
  pub promised : z.promised ≡ s.promised

pub record CleansOnly {A E : Type 0} (rs : List RegionState) (s : Served) (t : ℕ) (result : Result A E) (rs' : List RegionState) (z : Served) : Type 0 where
  pub others : OthersStay rs s.state t rs' z.state
  pub promises : PromisesStay s t z
  pub gone : OnOk result (IsGone z.state t)
  pub released : OnOk result (z.promised ≡ remove s.promised t)
  pub kept : OnErr result (HasKept s z)
  pub flags : FlagsStay rs rs'
