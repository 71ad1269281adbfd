-- What each audit has passed so far.
--     Pass                     a region that an audit passed, and the stray mask that the pass answered
--     Audits                   the passes of each audit, in order, by the record with which it began
--     audits_with audits b ps  with these passes of the audit that began at b
--     has_passed ps r          whether the region was passed
--     has_found ps r           whether a pass of it answered other than 0
--     MayPass L c audits b r   the audit that began at b may pass the region
--     IsVerdict s ps found     each region was passed, and these are those whose answer wasn't 0
--     PassTells e b p g        a pass that answered 0 certifies its region, and another one tells of a stray write
--     AuditsRun L c audits     so it is of each pass of each audit, and each audit passed a region at most once
use Rattle.std.specs.Prelude.{◌≡◌, ℕ, ◌<◌, ◌≤◌, Bool, true, false, not, ◌&&◌, ◌==◌, if◌then◌else◌, List, [], Some, slice_get}
use Rattle.std.specs.List.{list_any}
use Rattle.dali_geometry.specs.Sizes.{Sizes}
use Rattle.dali_geometry.specs.Places.{regions}
use Rattle.dali_record.specs.declared.records.Record.{Record}
use Rattle.dali_record.specs.Epochs.{Epoch, last_epoch, next_number}
use Rattle.dali_record.specs.Damage.{has}
use Rattle.dali_region.specs.State.{RegionState}
use Rattle.dali_runs.specs.State.{CoreState}
use Rattle.dali_runs.specs.Audits.{IsAuditing, Certifies}

pub record Pass : Type 0 where
  pub region : ℕ
  pub answer : ℕ

abbrev pub Audits : Type 0
Audits = ℕ → List Pass

abbrev pub no_audits : Audits
no_audits b = []

abbrev pub audits_with : Audits → ℕ → List Pass → Audits
audits_with audits b ps a = if a == b then ps else audits a

abbrev pub is_pass_of : ℕ → Pass → Bool
is_pass_of r p = p.region == r

abbrev pub is_find_of : ℕ → Pass → Bool
is_find_of r p = (p.region == r) && not (p.answer == 0)

abbrev pub has_passed : List Pass → ℕ → Bool
has_passed ps r = list_any (is_pass_of r) ps

abbrev pub has_found : List Pass → ℕ → Bool
has_found ps r = list_any (is_find_of r) ps

-- the audit is open, and hasn't passed the region yet
pub record MayPass (L : List Record) (c : CoreState) (audits : Audits) (b r : ℕ) : Type 0 where
  pub auditing : IsAuditing c.system.sizes L b
  pub unpassed : has_passed (audits b) r ≡ false

pub record IsVerdict (s : Sizes) (ps : List Pass) (found : List ℕ) : Type 0 where
  pub passed : (r : ℕ) → r < regions s → has_passed ps r ≡ true
  pub named : (r : ℕ) → r < regions s → has found r ≡ has_found ps r

-- ---- what a pass tells
pub record PassTells (e : Epoch) (b : ℕ) (p : Pass) (g : RegionState) : Type 0 where
  pub certifies : (p.answer == 0) ≡ true → Certifies e b p.region g
  pub finds : (p.answer == 0) ≡ false → g.poked ≡ true

pub record AuditsRun (L : List Record) (c : CoreState) (audits : Audits) : Type 0 where
  pub within : (b i : ℕ) (p : Pass) → slice_get (audits b) i ≡ Some p → b ≤ next_number (last_epoch L)
  pub tells : (b i : ℕ) (p : Pass) (g : RegionState) → slice_get (audits b) i ≡ Some p → slice_get c.regions p.region ≡ Some g → PassTells (last_epoch L) b p g
  pub once : (b i j : ℕ) (p q : Pass) → slice_get (audits b) i ≡ Some p → slice_get (audits b) j ≡ Some q → p.region ≡ q.region → i ≡ j
