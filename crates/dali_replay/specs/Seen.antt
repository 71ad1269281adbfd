-- How contracts see the types of this crate.
--     damage_in x            the damage that the struct holds
use Rattle.dali_record.specs.Damage.{Damage}
use Rattle.dali_replay.specs.declared.damage.Damage.{Damage as Held}

abbrev pub damage_in : Held → Damage
damage_in x = record { first = x.first; clean = x.clean; failing = x.failing.now }
