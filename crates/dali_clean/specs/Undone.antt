-- One undo of a clean-up on its region, and the operation of another dead client that stands in its way.
--     IsUnheld g               no operation is open on g
--     Released g y h z         an operation that a dead client left on g was taken back, if there was one
use Rattle.std.specs.Prelude.{◌≡◌, ◌⊎◌, ℕ, Option, Some, None}
use Rattle.dali_region.specs.declared.Hold.{Hold}
use Rattle.dali_region.specs.State.{RegionState, taken_back}
use Rattle.dali_att.specs.declared.state.State.TheVariants.{Dead, Cleaning}
use Rattle.dali_runs.specs.State.{SystemState, state_of}
use Rattle.dali_runs.specs.Steps.{in_state}

abbrev pub IsUnheld : RegionState → Type 0
IsUnheld g = g.hold ≡ None

-- its transaction is claimed for that, and dead again; or it was claimed before
abbrev pub IsReclaimed : SystemState → ℕ → SystemState → Type 0
IsReclaimed y u z =
    ((o : Option ℕ) × (state_of y u ≡ Some (Dead o)) × (z ≡ in_state (in_state y u (Cleaning o)) u (Dead None)))
    ⊎ (((o : Option ℕ) → state_of y u ≡ Some (Dead o) → ⊥) × (z ≡ y))

abbrev pub Released : RegionState → SystemState → RegionState → SystemState → Type 0
Released g y h z =
    ((g.hold ≡ None) × (h ≡ g) × (z ≡ y))
    ⊎ ((k : Hold) × (g.hold ≡ Some k) × (h ≡ taken_back g) × IsReclaimed y k.txn z)
