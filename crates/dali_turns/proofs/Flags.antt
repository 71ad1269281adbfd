-- What an operation of a plan, and its client's death in one, leaves of the flags of images.
use Rattle.std.proofs.Common.{◌≡◌, ℕ, Bool, List, Some, Result, Ok, Err, OnOk, OnErr, refl, sym, subst}
use Rattle.std.specs.Prelude.{slice_get, slice_set}
use Rattle.dali_region.specs.State.{RegionState, touched, dead, poked}
use Rattle.dali_runs.specs.State.{SystemState}
use Rattle.dali_calls.specs.Flags.{FlagStays, FlagsStay}
use Rattle.dali_calls.specs.Plans.{Planned}
use Rattle.dali_calls.proofs.Flags.{flag_further, flag_kept, flag_touched, flags_set, goes_flag}
use Rattle.dali_calls.specs.Stepwise.Stepwise.{OneFurther, IsDeath}

-- ---- all regions

pub flags_of : {T E : Type 0} (r : Result T E) (gs hs : List RegionState) (P Q : Type 0) → OnOk r P → (P → FlagsStay gs hs) → OnErr r Q → (Q → FlagsStay gs hs) → FlagsStay gs hs
flags_of (Ok t) gs hs P Q p f q g = f p
flags_of (Err e) gs hs P Q p f q g = g q

pub further_flags : (precheck : Bool) (p q : Planned) (gs hs : List RegionState) (y z : SystemState) → OneFurther precheck p gs y q hs z → FlagsStay gs hs
further_flags precheck p q gs hs y z o =
    subst (λ (l : List RegionState). FlagsStay gs l) (sym o.regions)
    (flags_set gs o.block.region o.region (touched o.opened) o.at (flag_further o.region o.opened (touched o.opened) (goes_flag p.txn o.region o.is.steps o.opened o.is.goes) (flag_touched o.opened)))

pub death_flags : (precheck : Bool) (p : Planned) (gs hs : List RegionState) (y z : SystemState) → IsDeath precheck p gs y hs z → FlagsStay gs hs
death_flags precheck p gs hs y z o =
    subst (λ (l : List RegionState). FlagsStay gs l) (sym o.regions)
    (flags_set gs o.block.region o.region (dead o.opened) o.at (flag_further o.region o.opened (dead o.opened) (goes_flag p.txn o.region o.is.steps o.opened o.is.goes) (flag_kept o.opened (dead o.opened) refl refl)))

pub poked_flags : (gs : List RegionState) (r word mask : ℕ) (g h : RegionState) → slice_get gs r ≡ Some g → h ≡ poked word mask g → FlagsStay gs (slice_set gs r h)
poked_flags gs r word mask g h at is = flags_set gs r g h at (subst (λ (k : RegionState). FlagStays g k) (sym is) (flag_kept g (poked word mask g) refl refl))
