-- What the operations of one transaction do to the flags of images.
use Rattle.std.proofs.Common.{ℕ, ⊎_elim}
use Rattle.dali_record.specs.declared.operations.Pending.{Pending}
use Rattle.dali_region.specs.State.{RegionState}
use Rattle.dali_runs.specs.State.{SystemState}
use Rattle.dali_calls.specs.Flags.{FlagStays}
use Rattle.dali_calls.proofs.Flags.{done_flag, flag_equal, taken_back_flag}
use Rattle.dali_calls.specs.Single.Operated.{IsLeftOf}
use Rattle.dali_calls.specs.Single.Settling.{Freed}

pub left_flag : (t : ℕ) (g h : RegionState) → IsLeftOf t g h → FlagStays g h
left_flag t g h left = ⊎_elim (λ e. flag_equal g h e) (λ went. taken_back_flag t g h went) left

pub freed_flag : (u : Pending) (g h : RegionState) (y z : SystemState) (t : ℕ) → Freed u g y t h z → FlagStays g h
freed_flag u g h y z t o = done_flag t g o.opened h o.steps o.goes o.region
