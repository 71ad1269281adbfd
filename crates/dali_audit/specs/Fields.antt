-- The fields of an audit, as contracts see them.
use Rattle.std.specs.Prelude.{◌≡◌, ◌<◌, ◌^◌, length}
use Rattle.dali_audit.specs.declared.audit.Audit.TheInside.{Inside}
use Rattle.dali_audit.specs.Findings.{Audited}

abbrev pub audited_of : Inside → Audited
audited_of a = record { begin = a.begin; findings = a.findings.items }

-- there is a place for the number of each region
pub record HasRoom (a : Inside) : Type 0 where
  pub number : a.begin < 2 ^ 64
  pub room : length a.failing.items ≡ length a.findings.items
  pub few : length a.findings.items < 2 ^ 32
