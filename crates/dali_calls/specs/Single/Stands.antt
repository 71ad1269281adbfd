-- Where a plan stands in a core that one thread has alone.
--     core rs y v              the core of these regions, this system and this vault
--     IsAtRest rs y p          the plan p has no operation open; it is of these regions and of a live transaction of this system
--     AtPlan L c p             the log has come as far as the plan, which has its lock and no region latched
use Rattle.std.specs.Prelude.{◌≡◌, List, Some, None, length}
use Rattle.dali_geometry.specs.Places.{regions}
use Rattle.dali_record.specs.declared.records.Record.{Record}
use Rattle.dali_region.specs.State.{RegionState}
use Rattle.dali_att.specs.declared.state.State.TheVariants.{Live}
use Rattle.dali_runs.specs.State.{SystemState, VaultState, CoreState, state_of}
use Rattle.dali_runs.specs.Keeps.{IsFree}
use Rattle.dali_calls.specs.Followed.{Follows, HoldsCall}
use Rattle.dali_calls.specs.Plans.{Planned}

abbrev pub core : List RegionState → SystemState → VaultState → CoreState
core rs y v = record { regions = rs; system = y; vault = v }

pub record IsAtRest (rs : List RegionState) (y : SystemState) (p : Planned) : Type 0 where
  pub sizes : p.geometry ≡ y.sizes
  pub whole : length rs ≡ regions y.sizes
  pub lives : state_of y p.txn ≡ Some Live
  pub closed : p.operation ≡ None

pub record AtPlan (L : List Record) (c : CoreState) (p : Planned) : Type 0 where
  pub follows : Follows c.system.sizes L p
  pub holds : HoldsCall c.system p
  pub free : IsFree c p.txn
