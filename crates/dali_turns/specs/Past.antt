-- Where a client that goes through the regions, one a step, stands behind the last.
--     IsPast state gs y        it is past all of them, if it is in an audit or copies
use Rattle.std.specs.Prelude.{◌≡◌, ◌≤◌, List, None, length}
use Rattle.dali_region.specs.State.{RegionState}
use Rattle.dali_runs.specs.State.{SystemState}
use Rattle.dali_turns.specs.declared.client.State.{State}
use Rattle.dali_turns.specs.declared.client.State.TheVariants.{Auditing, Copying, Certifying}

-- a copy goes no further once the engine is stopped
abbrev pub IsPast : State → List RegionState → SystemState → Type 0
IsPast (Auditing audit next) gs y = length gs ≤ next
IsPast (Copying c next) gs y = y.stop ≡ None → length gs ≤ next
IsPast (Certifying c audit next) gs y = length gs ≤ next
IsPast state gs y = Unit {0}
