-- What an audit that began at record b knows while it goes on, and the steps that keep it.
--     IsAuditing s L b         the epoch has an AuditBegin at b that no record ended
--     Certifies e b r g        the blocks on region r before b are sound, or a stray write was missed
--     MayLogEnd L c b found    the record that ends the audit from record b, and names these, may follow
--     MayEndAudit L c b found  besides, a stray write came to each of these, and each other region is certified
--     AuditBeginKeeps, AuditEndKeeps       the audit's records keep a run
--     PassCertifies, PassFinds a pass that answers 0 certifies, and one that doesn't tells of a stray write
--     AuditStarts, AuditGoesOn, CertifiesStays   what an audit knows stays
use Rattle.std.specs.Prelude.{◌≡◌, ℕ, ◌+◌, ◌-◌, ◌≤◌, true, false, not, ◌&&◌, List, [], ◌∷◌, ◌++◌, Some, None, nat_lt, take, slice_get, Bool, IsSome, ◌==◌}
use Rattle.std.specs.List.{list_all}
use Rattle.dali_geometry.specs.Sizes.{Sizes}
use Rattle.dali_geometry.specs.Places.{regions}
use Rattle.dali_record.specs.declared.records.Record.{Record}
use Rattle.dali_record.specs.declared.records.Record.TheVariants.{AuditBegin, Format, AuditClean, AuditFail, Restarted}
use Rattle.dali_record.specs.Spelling.{CanBeSpelled}
use Rattle.dali_record.specs.Epochs.{Epoch, last_epoch, next_number}
use Rattle.dali_record.specs.Damage.{has}
use Rattle.dali_record.specs.Legal.{Rules, rules_state}
use Rattle.dali_region.specs.State.{RegionState, checked}
use Rattle.dali_runs.specs.State.{CoreState}
use Rattle.dali_runs.specs.Run.{Bases, RunsOn, blocks_on, RegionRun}
use Rattle.dali_runs.specs.Steps.{audit_begun, audit_ended, audit_record}
use Rattle.dali_runs.specs.Keeps.{with_system}

-- the epoch has an AuditBegin at b, and no record that ends it
pub record IsAuditing (s : Sizes) (L : List Record) (b : ℕ) : Type 0 where
  pub named : (g : Rules) → rules_state s L ≡ Some g → (has g.audits b && not (has g.closed b)) ≡ true
  pub within : b ≤ next_number (last_epoch L)

-- the blocks on region r before b are sound, or a poke of it was missed
abbrev pub Certifies : Epoch → ℕ → ℕ → RegionState → Type 0
Certifies e b r g = g.missed ≡ false → blocks_on r (take (b - e.first) e.records) ≤ g.sound

-- the record that ends the audit that began at b may follow, with these regions in ascending order (so they are spelled)
pub record MayLogEnd (L : List Record) (c : CoreState) (b : ℕ) (found : List ℕ) : Type 0 where
  pub runs : c.system.stop ≡ None
  pub auditing : IsAuditing c.system.sizes L b
  pub spelled : CanBeSpelled (audit_record b found)
  pub numbers : list_all (λ r. nat_lt r (regions c.system.sizes)) found ≡ true

-- to each region that it names a stray write came since the load, and each other one is certified: this follows from its passes
pub record MayEndAudit (L : List Record) (c : CoreState) (b : ℕ) (found : List ℕ) : Type 0 where
  pub may : MayLogEnd L c b found
  pub stray : (r : ℕ) (g : RegionState) → slice_get c.regions r ≡ Some g → has found r ≡ true → g.poked ≡ true
  pub certified : (r : ℕ) (g : RegionState) → slice_get c.regions r ≡ Some g → has found r ≡ false → Certifies (last_epoch L) b r g

abbrev pub AuditBeginKeeps : Type 0
AuditBeginKeeps = (bases : Bases) (L : List Record) (c : CoreState) → RunsOn bases L c → c.system.stop ≡ None → c.system.end + 1 ≤ c.system.limit + 1048576 → RunsOn bases (L ++ AuditBegin ∷ []) (with_system c (audit_begun c.system))

abbrev pub AuditEndKeeps : Type 0
AuditEndKeeps = (bases : Bases) (L : List Record) (c : CoreState) (b : ℕ) (found : List ℕ) → RunsOn bases L c → MayEndAudit L c b found → RunsOn bases (L ++ audit_record b found ∷ []) (with_system c (audit_ended c.system b found))

-- an audit goes on: its own begin, and the records of others
abbrev pub AuditStarts : Type 0
AuditStarts = (bases : Bases) (L : List Record) (c : CoreState) → RunsOn bases L c → c.system.stop ≡ None → c.system.end + 1 ≤ c.system.limit + 1048576 → IsAuditing c.system.sizes (L ++ AuditBegin ∷ []) c.system.records

-- a record that ends the audit that began at b, or its epoch
abbrev pub ends_audit : ℕ → Record → Bool
ends_audit b (AuditClean a) = a == b
ends_audit b (AuditFail a rs) = a == b
ends_audit b (Restarted rs ds) = true
ends_audit b (Format i h) = true
ends_audit b _ = false

-- an audit goes on: the records of others
abbrev pub AuditGoesOn : Type 0
AuditGoesOn =
    (s : Sizes) (L : List Record) (x : Record) (b : ℕ) → IsAuditing s L b
    → IsSome (rules_state s (L ++ x ∷ [])) → ends_audit b x ≡ false
    → IsAuditing s (L ++ x ∷ []) b

-- a check that answers 0 certifies the blocks so far, in a region of a run
abbrev pub PassCertifies : Type 0
PassCertifies = (base : List (List ℕ)) (e : Epoch) (b r : ℕ) (g : RegionState) → RegionRun base e r g → (g.stray == 0) ≡ true → Certifies e b r (checked g)

-- a check that answers another number tells of a stray write
abbrev pub PassFinds : Type 0
PassFinds = (base : List (List ℕ)) (e : Epoch) (r : ℕ) (g : RegionState) → RegionRun base e r g → (g.stray == 0) ≡ false → (checked g).poked ≡ true

-- what a pass found out stays, with one more record and whatever is done in the region
abbrev pub CertifiesStays : Type 0
CertifiesStays =
    (e : Epoch) (x : Record) (b r : ℕ) (old new : RegionState) → b ≤ next_number e → Certifies e b r old
    → old.sound ≤ new.sound → (new.missed ≡ false → old.missed ≡ false)
    → Certifies (record { first = e.first; records = e.records ++ x ∷ [] }) b r new
