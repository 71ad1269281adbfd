-- The fields of a plan, as contracts see them.
use Rattle.dali_calls.specs.declared.plan.Plan.TheInside.{Inside}
use Rattle.dali_calls.specs.Plans.{Planned, IsWhole}

abbrev pub planned_of : Inside → Planned
planned_of p = record { geometry = p.geometry; txn = p.txn; call = p.call; stage = p.stage; phase = p.phase; changes = p.changes; operation = p.operation }

abbrev pub IsWholeInside : Inside → Type 0
IsWholeInside p = IsWhole (planned_of p)
