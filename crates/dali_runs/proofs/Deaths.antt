-- The death of a client keeps a run, and so does the taking back of the operation in which it died.
use Rattle.std.proofs.Common.{◌≡◌, ℕ, false, List, Option, Some, None, refl, ap, sym, subst}
use Rattle.std.specs.Prelude.{is_some, slice_get, slice_set}
use Rattle.dali_region.specs.declared.Hold.{Hold}
use Rattle.dali_region.specs.State.{RegionState, IsLive, dead}
use Rattle.dali_att.specs.declared.state.State.TheVariants.{Live, Dead}
use Rattle.dali_runs.specs.State.{hold_in, hold_of}
use Rattle.dali_runs.specs.Run.{RunsOn}
use Rattle.dali_runs.specs.Steps.{in_state}
use Rattle.dali_runs.specs.Regions.{Die, TakeBack}
use Rattle.dali_runs.specs.Keeps.{with_region, dead_in, DeathKeeps, RecoverKeeps}
use Rattle.dali_runs.proofs.QuietSteps.{region_keeps, state_keeps}

-- a region with a hold
pub region_with : (o : Option RegionState) (h : Hold) → hold_in o ≡ Some h → (g : RegionState) × (o ≡ Some g) × (g.hold ≡ Some h)
region_with None h e = absurd (cc)
region_with (Some g) h e = (g, refl, e)

pub live_hold : (g : RegionState) (h : Hold) → g.hold ≡ Some h → h.dead ≡ false → IsLive g
live_hold g h e d = rw e d

pub dead_at : (gs : List RegionState) (r : ℕ) (g : RegionState) → slice_get gs r ≡ Some g → dead_in gs (Some r) ≡ slice_set gs r (dead g)
dead_at gs r g e = rw e refl

pub death_keeps : DeathKeeps
death_keeps bases L c t None run may = state_keeps bases L c t Live (Dead None) run may.lives refl
death_keeps bases L c t (Some r) run may =
    subst (λ gs. RunsOn bases L (record { regions = gs; system = in_state c.system t (Dead (Some r)); vault = c.vault })) (sym (dead_at c.regions r g at))
    (state_keeps bases L (with_region c r (dead g)) t Live (Dead (Some r)) (region_keeps bases L c r g Die run at (live_hold g held.0 region.2 held.3)) may.lives refl)
  where
    held : (h : Hold) × (hold_of c r ≡ Some h) × (h.txn ≡ t) × (h.dead ≡ false)
    held = may.latched.held r refl

    region : (g : RegionState) × (slice_get c.regions r ≡ Some g) × (g.hold ≡ Some held.0)
    region = region_with (slice_get c.regions r) held.0 held.1

    g : RegionState
    g = region.0

    at : slice_get c.regions r ≡ Some g
    at = region.1

pub recover_keeps : RecoverKeeps
recover_keeps bases L c r g run at may = region_keeps bases L c r g TakeBack run at (ap is_some may.at)
