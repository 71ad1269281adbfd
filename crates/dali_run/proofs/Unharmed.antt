-- Where nobody wrote astray, no damage escapes a crash.
use Rattle.std.proofs.Common.{◌≡◌, true, List, refl, sym, ◌∙◌, ap, subst, inl, inr}
use Rattle.std.specs.Prelude.{is_some, slice_get}
use Rattle.dali_crash.specs.Checkpoints.{Point, moment_of}
use Rattle.dali_crash.specs.Traces.{Start, bases_of, start_point}
use Rattle.dali_crash.proofs.Traces.{moment_halts, trace_runs}
use Rattle.dali_crash.proofs.Unpoked.{none_escapes}
use Rattle.dali_transactions.specs.Stands.{StandsAt}
use Rattle.dali_fuse.specs.declared.fuse.Fuse.{Fuse}
use Rattle.dali_record.specs.declared.records.Record.{Record}
use Rattle.dali_record.specs.Epochs.{Epoch, last_epoch}
use Rattle.dali_record.specs.Files.{Files}
use Rattle.dali_region.specs.State.{RegionState}
use Rattle.dali_store.specs.declared.store.Store.{Ghosts}
use Rattle.dali_runs.specs.Crashes.{NoneEscapes}
use Rattle.dali_runs.specs.Run.{log_in, only}
use Rattle.dali_runs.specs.State.{CoreState}
use Rattle.dali_crash.specs.Disks.Bridges.{ComesTo, TracedTo}
use Rattle.dali_crash.specs.Disks.Disks.{AllSpell}
use Rattle.dali_crash.proofs.DisksLemmas.Once.{spells_one}
use Rattle.dali_core.specs.declared.whole.Core.{Core}
use Rattle.dali_run.specs.Honest.{CoresAreHonest, IsHonestWithin, NonePoked, RoundsAreHonest}
use Rattle.dali_run.specs.Program.{told_in, leaves_in, faults_in, fused}
use Rattle.dali_run.specs.Survives.{NoneEscapesAt}
use Rattle.dali_run.proofs.Poked.{course_runs, course_unpoked}
use Rattle.dali_run.proofs.Surviving.{told_there}

same_regions : (e : Epoch) (c d : CoreState) → c.regions ≡ d.regions → NoneEscapes e c → NoneEscapes e d
same_regions e c d same none = record {
  seen = λ r g there. none.seen r g (ap (λ (l : List RegionState). slice_get l r) same ∙ there);
  named = λ r g there. none.named r g (ap (λ (l : List RegionState). slice_get l r) same ∙ there);
}

module _ {V : Type 0} (g : Ghosts V) where
  -- wherever a core stands, behind a round that was cut too
  pub stands_honest : (core : Core (Fuse V)) (s : Start) (B : List (List Record)) (p : Point)
      → StandsAt (fused g) s B p core.regions.items core.system.state core.vault
      → is_some (told_in g core.vault.store) ≡ true → NonePoked core.regions.items → NoneEscapesAt g core
  stands_honest core s B p stands tells none = λ c may v E spells.
      let all : AllSpell (leaves_in g core.vault.store) (TracedTo s B p) = told_there (told_in g core.vault.store) tells stands.at.vault.files in
      let one = all c may in
      let t = one.2 in
      let same : one.0 ≡ E = spells_one c one.0 E one.1 spells in
      let quiet : NonePoked p.core.regions = λ r x there. none r x (ap (λ (l : List RegionState). slice_get l r) (sym stands.at.regions) ∙ there) in
      let runs = (trace_runs s t.first t.starts t.steps p one.0 t.trace).run in
      let honest : NoneEscapes (last_epoch (log_in one.0)) p.core = none_escapes (bases_of s) s.log (only one.0) (moment_of p) one.0 runs refl quiet in
      subst (λ (F : Files). NoneEscapes (last_epoch (log_in F)) (record { regions = core.regions.items; system = core.system.state; vault = v })) same
      (same_regions (last_epoch (log_in one.0)) p.core (record { regions = core.regions.items; system = core.system.state; vault = v }) stands.at.regions honest)

  pub cores_are_honest : CoresAreHonest g
  cores_are_honest base core a none = stands_honest core a.start a.batches a.point a.begins.stands a.tells none

  -- at a moment within a round
  left_honest : (s : Start) (p : Point) (F : Files) → ComesTo s p F → NonePoked p.core.regions → NoneEscapes (last_epoch (log_in F)) p.core
  left_honest s p F (inl along) quiet =
      let t = along.1 in
      none_escapes (bases_of s) s.log (only F) (moment_of p) F (trace_runs s t.first t.starts t.steps p F t.trace).run refl quiet
  left_honest s p F (inr inside) quiet =
      let i = inside.3 in
      let t = i.traced in
      let h = moment_halts (start_point s) p inside.1 t.first i.was F t.steps inside.0 t.trace inside.2 i.inside in
      let same : h.point.core.regions ≡ p.core.regions = ap (λ (c : CoreState). c.regions) h.core in
      same_regions (last_epoch (log_in F)) h.point.core p.core same
      (none_escapes (bases_of s) s.log (only F) (moment_of h.point) F (trace_runs s t.first t.starts h.steps h.point F h.trace).run refl (subst NonePoked (sym same) quiet))

  pub within_honest : (c d : Core (Fuse V)) → NonePoked d.regions.items → IsHonestWithin g c d
  within_honest c d none base a q F same is =
      let bases = bases_of a.start in
      let runs = course_runs bases a.start.log a.point is.between is.before a.begins.stands.at.vault.run.run is.comes in
      let between : NonePoked is.between.core.regions = course_unpoked bases a.start.log is.between q is.behind runs is.goes (subst NonePoked (sym same) none) in
      same_regions (last_epoch (log_in F)) is.to.core is.between.core is.regions (left_honest a.start is.to F is.right.came (subst NonePoked (sym is.regions) between))

  pub rounds_are_honest : RoundsAreHonest g
  rounds_are_honest c d none = within_honest c d none
