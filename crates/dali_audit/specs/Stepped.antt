-- The calls of an audit as steps of a core.
--     AreFindings ps fs        the findings say what these passes said of each region
--     behind_begin, behind_pass, behind_end    the moment behind each call
--     BeginIsStep, PassIsStep, EndIsStep       what each call leaves is behind a step, and the findings go with it
--     NoneIsFound              no pass, and nothing found
use Rattle.std.specs.Prelude.{◌≡◌, ◌<◌, ◌^◌, ◌++◌, ◌∷◌, ℕ, List, [], Some, None, length, replicate, slice_get, slice_set}
use Rattle.dali_geometry.specs.Places.{regions}
use Rattle.dali_record.specs.declared.records.Record.TheVariants.{AuditBegin}
use Rattle.dali_region.specs.State.{RegionState, checked}
use Rattle.dali_runs.specs.Steps.{audit_begun, audit_ended, audit_record}
use Rattle.dali_runs.specs.Keeps.{with_system, with_region}
use Rattle.dali_runs.specs.Audits.{IsAuditing}
use Rattle.dali_runs.specs.Passes.{Pass, has_passed, has_found, audits_with}
use Rattle.dali_runs.specs.Courses.{Moment, IsStepAt, AuditBegins, AuditEnds, Passes, pass_now}
use Rattle.dali_system.specs.Audits.{audit_refusal}
use Rattle.dali_audit.specs.declared.audit.Finding.{Finding}
use Rattle.dali_audit.specs.declared.audit.Finding.TheVariants.{Waiting}
use Rattle.dali_audit.specs.Findings.{is_passed, is_damaged, finding_of, damaged, AllPassed}

pub record AreFindings (ps : List Pass) (fs : List Finding) : Type 0 where
  pub passed : (r : ℕ) (f : Finding) → slice_get fs r ≡ Some f → has_passed ps r ≡ is_passed f
  pub found : (r : ℕ) (f : Finding) → slice_get fs r ≡ Some f → has_found ps r ≡ is_damaged f

-- ---- the moments behind the calls
abbrev pub behind_begin : Moment → Moment
behind_begin m = record {
  log = m.log ++ AuditBegin ∷ [];
  core = with_system m.core (audit_begun m.core.system);
  audits = audits_with m.audits m.core.system.records [];
}

abbrev pub behind_pass : Moment → ℕ → ℕ → RegionState → Moment
behind_pass m b r g = record m { core = with_region m.core r (checked g); audits = audits_with m.audits b (m.audits b ++ pass_now m.core r) }

abbrev pub behind_end : Moment → ℕ → List ℕ → Moment
behind_end m b found = record m { log = m.log ++ audit_record b found ∷ []; core = with_system m.core (audit_ended m.core.system b found) }

-- ---- each is behind a step
abbrev pub BeginIsStep : Type 0
BeginIsStep = (m : Moment) → audit_refusal m.core.system AuditBegin ≡ None → IsStepAt m AuditBegins (behind_begin m)

abbrev pub NoneIsFound : Type 0
NoneIsFound = (n : ℕ) → AreFindings [] (replicate n Waiting)

abbrev pub PassIsStep : Type 0
PassIsStep =
    (m : Moment) (b r : ℕ) (fs : List Finding) (g : RegionState) → IsAuditing m.core.system.sizes m.log b → AreFindings (m.audits b) fs
    → slice_get fs r ≡ Some Waiting → slice_get m.core.regions r ≡ Some g
    → IsStepAt m (Passes b r) (behind_pass m b r g) × AreFindings (m.audits b ++ pass_now m.core r) (slice_set fs r (finding_of g.stray))

-- the number of the record, and that of regions, fit their fields
abbrev pub EndIsStep : Type 0
EndIsStep =
    (m : Moment) (b : ℕ) (fs : List Finding) → IsAuditing m.core.system.sizes m.log b → AreFindings (m.audits b) fs
    → b < 2 ^ 64 → length fs ≡ regions m.core.system.sizes → length fs < 2 ^ 32 → AllPassed fs → m.core.system.stop ≡ None
    → IsStepAt m (AuditEnds b (damaged fs)) (behind_end m b (damaged fs))
