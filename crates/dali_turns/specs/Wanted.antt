-- Where a client's next operation is.
--     onward_region back want  the region that a plan wants, where it goes on with its call
--     removed_in removal       the region of a removal, if one is left
--     wanted_region state y flushed    the region of the operation, of a call or of a removal, that is the client's next step, if one is
use Rattle.std.specs.Prelude.{ℕ, ◌+◌, Bool, false, ◌&&◌, if◌then◌else◌, nat_lt, Option, Some, None, is_none, slice_get}
use Rattle.dali_record.specs.declared.operations.Pending.{Pending}
use Rattle.dali_runs.specs.State.{SystemState}
use Rattle.dali_system.specs.declared.want.Want.{Want}
use Rattle.dali_system.specs.declared.want.Want.TheVariants.{Region}
use Rattle.dali_calls.specs.Plans.{want_of, is_back}
use Rattle.dali_turns.specs.declared.client.State.{State}
use Rattle.dali_turns.specs.declared.client.State.TheVariants.{Calling, Committing}

abbrev pub onward_region : Bool → Want → Option ℕ
onward_region false (Region r) = Some r
onward_region back want = None

abbrev pub removed_in : Option Pending → Option ℕ
removed_in None = None
removed_in (Some u) = Some u.region

-- a removal comes behind the flush of its commit, and none behind a stop
abbrev pub wanted_region : State → SystemState → ℕ → Option ℕ
wanted_region (Calling x plan) y flushed = onward_region (is_back plan) (want_of plan)
wanted_region (Committing x number removals next) y flushed = if is_none y.stop && nat_lt number (y.first + flushed) then removed_in (slice_get removals.items next) else None
wanted_region state y flushed = None
