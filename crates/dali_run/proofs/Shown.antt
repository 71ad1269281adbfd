-- Without a stray write the words in memory hold what the log is expected to leave.
use Rattle.std.proofs.Common.{◌≡◌, ℕ, true, List, [], ◌∷◌, Option, Some, None, refl, sym, ◌∙◌, ap, subst, map}
use Rattle.std.specs.Prelude.{IfSome, IsSome, is_some, slice_get}
use Rattle.dali_geometry.specs.Places.{formatted_image}
use Rattle.dali_record.specs.declared.records.Record.{Record}
use Rattle.dali_record.specs.Epochs.{cut, last_epoch, failing}
use Rattle.dali_record.specs.Legal.{sizes_of}
use Rattle.dali_region.specs.declared.Hold.{Hold}
use Rattle.dali_region.specs.State.{RegionState}
use Rattle.dali_att.specs.declared.state.State.{State}
use Rattle.dali_history.specs.History.{IsHistory}
use Rattle.dali_history.specs.Images.{HasRecords}
use Rattle.dali_history.proofs.HeadlineLemmas.NothingToFree.{recovered-base}
use Rattle.dali_store.specs.Store.{Files as Disk}
use Rattle.dali_store.specs.declared.store.Store.{Ghosts}
use Rattle.dali_runs.specs.declared.causes.Cause.{Cause}
use Rattle.dali_runs.specs.State.{SystemState, row_of, state_of, state_in, hold_in, hold_of}
use Rattle.dali_runs.specs.Run.{first_of, RunsOn}
use Rattle.dali_runs.specs.Wholes.{latched_in}
use Rattle.dali_runs.proofs.FactsLemmas.Told.{stop_tells}
use Rattle.dali_crash.specs.Checkpoints.{Point}
use Rattle.dali_crash.specs.Restarts.{HasRightBase}
use Rattle.dali_crash.specs.Traces.{Start, bases_of, start_point}
use Rattle.dali_crash.proofs.Courses.{honest_before}
use Rattle.dali_crash.proofs.Traces.{traced_course}
use Rattle.dali_during.specs.During.{IsIdle}
use Rattle.dali_during.proofs.Points.{point_course_keeps_the_base}
use Rattle.dali_during.proofs.Shows.{shows_what_is_expected}
use Rattle.dali_crash.specs.Disks.Disks.{AllSpell}
use Rattle.dali_crash.specs.Disks.Bridges.{TracedTo}
use Rattle.dali_core.specs.Vault.Vaulted.{Vaulted}
use Rattle.dali_round.specs.Leads.{BeginsAt}
use Rattle.dali_run.specs.Shown.{IsServing, ShowsExpected}

none_first : (o : Option Cause) (rs : List ℕ) → o ≡ None → ((r : ℕ) → first_of rs ≡ Some r → IsSome o) → rs ≡ []
none_first o [] none told = refl
none_first None (r ∷ rs) none told = absurd (cc (told r refl))
none_first (Some x) rs none told = absurd cc

-- a state that names a latched region is one
no_latched : (o : Option State) (r : ℕ) → o ≡ None → latched_in o ≡ Some r → ⊥
no_latched None r none is = cc is
no_latched (Some x) r none is = cc none

-- the base of the last epoch, behind the steps that led to the point
pub right_at : (s : Start) (B : List (List Record)) (p : Point) (history : IsHistory s.log) (F : _) → TracedTo s B p F → HasRightBase (bases_of s) p.core.system.sizes p.log
right_at s B p history F t =
    point_course_keeps_the_base (bases_of s) (start_point s) p t.steps
    (record {
      base = recovered-base (sizes_of s.log) s.log t.starts.rests.none;
      honest = honest_before (sizes_of s.log) (formatted_image (sizes_of s.log)) (cut s.log).closed (cut s.log).now history.honest;
    }) (traced_course (start_point s) p t.first F t.steps t.trace)

module _ {V : Type 0} (g : Ghosts V) (reads_now : (s : V) → IfSome (g.told s) (λ fs. g.may_leave s fs)) where
  right_here : (s : Start) (B : List (List Record)) (p : Point) (v : Vaulted V) → IsHistory s.log → (o : Option Disk) → is_some o ≡ true → IfSome o (λ fs. g.may_leave v.store fs)
      → IfSome o (λ _. AllSpell (g.may_leave v.store) (TracedTo s B p)) → HasRightBase (bases_of s) p.core.system.sizes p.log
  right_here s B p v history None tells now all = absurd cc
  right_here s B p v history (Some fs) tells now all = let one = all fs now in right_at s B p history one.0 one.2

  -- an engine that runs has met no failed audit
  pub none_failed : (s : Start) (B : List (List Record)) (p : Point) (gs : List RegionState) (y : SystemState) (v : Vaulted V) → BeginsAt g s B p gs y v → IsServing y
      → failing (last_epoch p.log) ≡ []
  none_failed s B p gs y v begins serves =
      let run = begins.stands.at.vault.run.run in
      let up : p.core.system.stop ≡ None = ap (λ (z : SystemState). z.stop) begins.stands.at.system ∙ serves.runs in
      let cause = stop_tells (bases_of s) s.log p.core run.run in
      subst (λ (L : List Record). failing (last_epoch L) ≡ []) (sym run.log)
      (none_first p.core.system.stop _ up (λ r is. subst IsSome (sym ((cause.damage r).1 is)) refl))

  pub shows_expected : ShowsExpected g
  shows_expected s B p gs y v begins tells history serves clean =
      let at = begins.stands.at in
      let run = at.vault.run.run in
      let runs : RunsOn (bases_of s) p.log p.core = subst (λ (L : List Record). RunsOn (bases_of s) L p.core) (sym run.log) run.run.runs in
      let right = right_here s B p v history (g.told v.store) tells (reads_now v.store) at.vault.files in
      let whole = none_failed s B p gs y v begins serves in
      let idle : IsIdle p.core = (nobody, λ r x there. unheld r x x.hold refl there) in
      let shown = shows_what_is_expected (bases_of s) p.log p.core runs clean right whole idle in
      record {
        expects = shown.0;
        defined = shown.1;
        records = subst (λ (z : SystemState). HasRecords z.sizes (map (λ x. x.words) gs) shown.0) at.system
            (subst (λ (l : List RegionState). HasRecords p.core.system.sizes (map (λ x. x.words) l) shown.0) at.regions shown.2);
      }
    where
      nobody : (t : ℕ) → row_of p.core.system t ≡ None
      nobody t = ap (λ (z : SystemState). row_of z t) begins.stands.at.system ∙ serves.nobody t

      unheld : (r : ℕ) (x : RegionState) (o : Option Hold) → x.hold ≡ o → slice_get p.core.regions r ≡ Some x → x.hold ≡ None
      unheld r x None is there = is
      unheld r x (Some h) is there =
          let held : hold_of p.core r ≡ Some h = ap hold_in there ∙ is in
          let in_core : slice_get gs r ≡ Some x = subst (λ (l : List RegionState). slice_get l r ≡ Some x) begins.stands.at.regions there in
          let dead : h.dead ≡ true = subst (λ (o : Option Hold). IfSome o (λ (k : Hold). k.dead ≡ true)) is (begins.stands.dead r x in_core) in
          absurd (no_latched (state_of p.core.system h.txn) r (ap state_in (nobody h.txn)) (begins.stands.whole.dead r h held dead))
