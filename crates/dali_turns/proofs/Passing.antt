-- What an audit has passed, behind one pass more and behind steps of others.
use Rattle.std.proofs.Common.{◌≡◌, ◌≢◌, ℕ, ◌+◌, ◌<◌, ◌≤◌, true, List, length, Some, IfSome, ap, sym, subst, ◌∙◌, ⊎_elim, arith}
use Rattle.std.specs.Prelude.{slice_get, slice_set}
use Rattle.std.proofs.lemmas.List.{length-set}
use Rattle.std.proofs.lemmas.Bool.{cases_lt}
use Rattle.std.proofs.lemmas.Option.{slice_get_within}
use Rattle.dali_runs.proofs.CountsLemmas.Lists.{set_cases}
use Rattle.dali_calls.proofs.SingleLemmas.Lists.{get_apart}
use Rattle.dali_geometry.specs.Sizes.{Sizes}
use Rattle.dali_geometry.specs.Places.{regions}
use Rattle.dali_record.specs.declared.records.Record.{Record}
use Rattle.dali_record.specs.declared.records.Record.TheVariants.{AuditBegin}
use Rattle.dali_region.specs.declared.Hold.{Hold}
use Rattle.dali_region.specs.State.{RegionState, checked}
use Rattle.dali_region.specs.Answers.{is_dirty}
use Rattle.dali_store.specs.Store.{Files as Disk}
use Rattle.dali_crash.specs.Disks.Disks.{image_file}
use Rattle.dali_crash.specs.Disks.Places.{place_of}
use Rattle.dali_runs.specs.Audits.{IsAuditing}
use Rattle.dali_crash.specs.Checkpoints.{Point}
use Rattle.dali_clean.specs.Cleaned.{AreDead}
use Rattle.dali_core.specs.Cores.{HoldsPlaces}
use Rattle.dali_audit.specs.Findings.{Audited, finding_of, is_passed, AllPassed}
use Rattle.dali_audit.specs.Stepped.{AreFindings}
use Rattle.dali_transcripts.specs.World.{World, log_of, IsLogged}
use Rattle.dali_transcripts.specs.Telling.Deeds.{BeganHere}
use Rattle.dali_audit.proofs.Three.{found_is_passed}
use Rattle.dali_checkpoint.proofs.Results.{checked_dirty}
use Rattle.dali_turns.specs.Others.{AuditStays}
use Rattle.dali_turns.specs.Audits.{IsPassing}

-- ---- a region that is checked keeps its hold and its flags

pub dead_checked : (gs : List RegionState) (r : ℕ) (g : RegionState) → slice_get gs r ≡ Some g → AreDead gs → AreDead (slice_set gs r (checked g))
dead_checked gs r g at dead q h there = ⊎_elim
    (λ same. subst (λ (x : RegionState). IfSome x.hold (λ (k : Hold). k.dead ≡ true)) (sym same.1) (dead r g at))
    (λ other. dead q h other.1)
    (set_cases gs r (checked g) q h there)

pub places_checked : (gs : List RegionState) (r : ℕ) (g : RegionState) (fs : Disk) → slice_get gs r ≡ Some g → HoldsPlaces gs fs → HoldsPlaces (slice_set gs r (checked g)) fs
places_checked gs r g fs at places side q h there clean = ⊎_elim
    (λ same. subst (λ n. place_of (n + 1) ≤ length (image_file side fs)) (sym same.0)
    (places side r g at (sym (checked_dirty g side) ∙ (ap (λ (x : RegionState). is_dirty x side) (sym same.1) ∙ clean))))
    (λ other. places side q h other.1 clean)
    (set_cases gs r (checked g) q h there)

-- ---- one region more

abbrev pub passed : Audited → ℕ → RegionState → Audited
passed audit r g = record audit { findings = slice_set audit.findings r (finding_of g.stray) }

began_on : (v w : World) (b : ℕ) → w.before ≡ v.before → ((n : ℕ) → IsLogged v n AuditBegin → IsLogged w n AuditBegin) → BeganHere v b → BeganHere w b
began_on v w b before logged is = record { since = subst (λ l. length l ≤ b) (sym before) is.since; began = logged b is.began }

pub passed_one : (p q : Point) (v w : World) (audit : Audited) (next : ℕ) (g : RegionState) → IsPassing p v audit next → q.log ≡ p.log → q.core.system.sizes ≡ p.core.system.sizes → w.before ≡ v.before → log_of w ≡ log_of v
    → AreFindings (q.audits audit.begin) (slice_set audit.findings next (finding_of g.stray)) → IsPassing q w (passed audit next g) (next + 1)
passed_one p q v w audit next g is log sizes before same findings = record {
  began = began_on v w audit.begin before (λ n at. ap (λ l. slice_get l n) same ∙ at) is.began;
  auditing = subst (λ (s : Sizes). IsAuditing s q.log audit.begin) (sym sizes) (subst (λ (l : List Record). IsAuditing p.core.system.sizes l audit.begin) (sym log) is.auditing);
  findings = findings;
  count = length-set audit.findings next (finding_of g.stray) ∙ (is.count ∙ ap regions (sym sizes));
  passed = λ r f less at. ⊎_elim (λ here. ap is_passed here.1 ∙ found_is_passed g.stray) (λ other. is.passed r f (smaller r less other.0) other.1) (set_cases audit.findings next (finding_of g.stray) r f at);
  waits = λ r le less. get_apart audit.findings next (finding_of g.stray) r (λ e. absurd (omega (arith, le, e))) ∙ is.waits r (omega (arith, le)) (omega (arith, less, length-set audit.findings next (finding_of g.stray)));
  fits = is.fits;
  few = omega (arith, is.few, length-set audit.findings next (finding_of g.stray));
}
  where
    smaller : (r : ℕ) → r < next + 1 → next ≢ r → r < next
    smaller r less other = ⊎_elim (λ below. below) (λ above. absurd (other (omega (arith, less, above)))) (cases_lt r next)

pub all_passed : (p : Point) (w : World) (audit : Audited) (next : ℕ) → IsPassing p w audit next → regions p.core.system.sizes ≤ next → AllPassed audit.findings
all_passed p w audit next is le r f at = is.passed r f (omega (arith, slice_get_within audit.findings r f at, is.count, le)) at

-- ---- behind steps of others
pub still_passing : (p q : Point) (v w : World) (audit : Audited) (next : ℕ) → AuditStays p q audit.begin → q.core.system.sizes ≡ p.core.system.sizes → w.before ≡ v.before → ((n : ℕ) → IsLogged v n AuditBegin → IsLogged w n AuditBegin)
    → IsPassing p v audit next → IsPassing q w audit next
still_passing p q v w audit next stays sizes before logged is = record {
  began = began_on v w audit.begin before logged is.began;
  auditing = stays.opened is.auditing;
  findings = subst (λ ps. AreFindings ps audit.findings) (sym stays.same) is.findings;
  count = is.count ∙ ap regions (sym sizes);
  passed = is.passed;
  waits = is.waits;
  fits = is.fits;
  few = is.few;
}
