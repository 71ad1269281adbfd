-- The files of a crash image are found, whether their log is a history or not.
use Rattle.std.proofs.Common.{◌≡◌, ◌-◌, ◌<◌, ◌≤◌, List, [], Some, length, take, slice_get, refl, ap, sym, subst, ◌∙◌, ⊎_elim, arith}
use Rattle.std.specs.Prelude.{◌⊎◌, ℕ, fold}
use Rattle.std.specs.List.{AllByRecursion}
use Rattle.std.proofs.Math.Seq.{take-append_seam}
use Rattle.std.proofs.lemmas.List.{append-nil, length-take-le}
use Rattle.std.proofs.lemmas.Option.{slice_get_within}
use Rattle.dali_lists.proofs.Lists.{get_within as found, get_take, length_take}
use Rattle.dali_geometry.specs.Sizes.{Sizes}
use Rattle.dali_geometry.specs.Places.{formatted_image}
use Rattle.dali_record.specs.declared.records.Record.{Record}
use Rattle.dali_record.specs.declared.records.Record.TheVariants.{Format}
use Rattle.dali_record.specs.Epochs.{Epoch, Cut, cut, last_epoch}
use Rattle.dali_record.specs.Locks.{IsLockLegalIn}
use Rattle.dali_record.specs.Legal.{sizes_of, IsLegalFor}
use Rattle.dali_record.specs.Files.{Files}
use Rattle.dali_history.specs.Recovered.{recover, base_of, recovered}
use Rattle.dali_history.proofs.HeadlineLemmas.NothingToFree.{recovered-base}
use Rattle.dali_runs.proofs.CountsLemmas.Fronts.{prefix_legal}
use Rattle.dali_runs.specs.State.{CoreState, stable}
use Rattle.dali_runs.specs.Run.{RunsOn, IsPrefix, log_in, only}
use Rattle.dali_runs.specs.Images.{is_missed}
use Rattle.dali_crash.specs.Fitting.{FitsWhole}
use Rattle.dali_crash.specs.Checkpoints.{StoreStep, Inside, IsPointStep, Point, Traced}
use Rattle.dali_crash.specs.CrashLogs.{cut_to}
use Rattle.dali_crash.specs.Starts.{IsLawful}
use Rattle.dali_crash.specs.StoreRuns.{StoreRun}
use Rattle.dali_crash.specs.Traces.{Start, StartsAt, start_point, bases_of}
use Rattle.dali_crash.proofs.CrashLogs.{cut_parts, locks_cut}
use Rattle.dali_crash.proofs.Restarts.{sizes_take, begins_behind, some_sizes}
use Rattle.dali_crash.proofs.Fitting.{but_is_whole}
use Rattle.dali_crash.proofs.Traces.{few_gates, trace_runs, moment_halts}
use Rattle.dali_crash.specs.Disks.Bridges.{LeavesRightAt}
use Rattle.dali_resume.specs.Interrupted.Stages.{HasPlace}
use Rattle.dali_resume.specs.Interrupted.Found.{NoneMissed, FindsIt, CrashIsFound}
use Rattle.dali_resume.proofs.InterruptedLemmas.Places.{keeps_place, start_has_place}

-- ---- a log cut off in its last epoch

abbrev LegalCut : Cut → Type 0
LegalCut c = AllByRecursion (λ (e : Epoch). IsLockLegalIn e.records) c.closed × IsLockLegalIn c.now.records

-- ---- a crash image
module _ (s : Start) (D : Files) (from : StartsAt s D) (has_place : HasPlace D) (xs : List StoreStep) (p : Point) (F : Files) (t : Traced (start_point s) D xs p F) (safe : NoneMissed p.core) where
  abbrev L : List Record
  L = s.log

  abbrev K : List Record
  K = log_in F

  abbrev c : CoreState
  c = p.core

  abbrev z : Sizes
  z = c.system.sizes

  there : StoreRun (bases_of s) L (only F) p
  there = trace_runs s D from xs p F t

  run : RunsOn (bases_of s) p.log c
  run = subst (λ M. RunsOn (bases_of s) M c) (sym there.run.log) there.run.run.runs

  has : IsPrefix p.log (stable c) F
  has = subst (λ M. IsPrefix M (stable c) F) (sym there.run.log) (there.run.run.vault.prefix F refl)

  began : (last_epoch p.log).first ≤ length L
  began = subst (λ M. (last_epoch M).first ≤ length L) (sym there.run.log) there.run.run.began

  front : take (length L) p.log ≡ L
  front = ap (take (length L)) there.run.log ∙ take-append_seam L c.system.since

  longer : length L ≤ length p.log
  longer = omega (arith, has.flushed, has.within, there.run.run.first)

  to : length L ≤ has.count
  to = omega (arith, has.flushed, there.run.run.first)

  behind : 0 < length L
  behind = omega (arith, begins_behind z p.log run.log.format, began)

  same_old : sizes_of L ≡ z
  same_old = ap sizes_of (sym front) ∙ sizes_take z p.log (length L) run.log.format behind

  same : sizes_of K ≡ z
  same = ap sizes_of has.log ∙ sizes_take z p.log has.count run.log.format (omega (arith, behind, to))

  parts : cut K ≡ record { closed = (cut p.log).closed; now = cut_to (has.count - (last_epoch p.log).first) (last_epoch p.log) }
  parts = ap cut has.log ∙ cut_parts p.log has.count (omega (arith, began, to)) has.within

  -- no epoch has ended since the start
  base : recovered (sizes_of L) L ≡ base_of z K
  base =
      recovered-base (sizes_of L) L from.rests.none
      ∙ (ap (λ (y : Sizes). base_of y L) same_old
      ∙ ap (λ (q : Cut). fold (recover z) (formatted_image z) q.closed)
      (sym (ap cut front) ∙ cut_parts p.log (length L) began longer)
      ∙ sym (ap (λ (q : Cut). fold (recover z) (formatted_image z) q.closed) parts))

  whole : FitsWhole z (base_of z K) K F (last_epoch K)
  whole = subst (λ b. FitsWhole z b K F (last_epoch K)) base
      (but_is_whole z (bases_of s) _ K F (last_epoch K) (there.images.fits F refl) run.base
      (λ r k. let region = found c.regions r (omega (arith, k, run.whole)) in ap is_missed region.1 ∙ safe r region.0 region.1))

  lawful : IsLawful K
  lawful = record {
    some_index = subst (λ (y : Sizes). 0 < y.index) (sym same) sizes.0;
    some_heap = subst (λ (y : Sizes). 0 < y.heap) (sym same) sizes.1;
    spelled = λ i r e.
        let e2 : slice_get (take has.count p.log) i ≡ Some r = subst (λ M. slice_get M i ≡ Some r) has.log e in
        run.log.spelled i r (sym (get_take has.count i p.log (omega (arith, slice_get_within (take has.count p.log) i r e2, length_take has.count p.log))) ∙ e2);
    legal = subst (λ (y : Sizes). IsLegalFor y K) (sym same) (subst (IsLegalFor z) (sym has.log) (prefix_legal z p.log has.count run.log.legal));
    locks = subst LegalCut (sym parts) (run.log.locks.0, locks_cut (has.count - (last_epoch p.log).first) (last_epoch p.log).records run.log.locks.1);
  }
    where
      sizes : (0 < z.index) × (0 < z.heap)
      sizes = some_sizes z (run.log.spelled 0 (Format z.index z.heap) run.log.format)

  fits : FitsWhole (sizes_of K) (base_of (sizes_of K) K) K F (last_epoch K)
  fits = subst (λ (y : Sizes). FitsWhole y (base_of y K) K F (last_epoch K)) (sym same) whole

  finds : FindsIt F
  finds = record {
    lawful = lawful;
    found = record {
      batches = refl;
      gates = refl;
      place = keeps_place s D from has_place xs p F t;
      front = K;
      more = [];
      log = append-nil K;
      some = omega (arith, ap length has.log, length-take-le has.count p.log has.within, behind, to);
      fits = (F.batches, fits);
      parts = append-nil F.batches;
      good = refl;
    };
    few = few_gates s D from xs p F t;
    restarting = λ r E some. record { lawful = lawful; batches = refl; some = (r, E, some) };
    resting = λ none le. record { none = none; files = fits };
  }

pub crash_is_found : CrashIsFound
crash_is_found s D from has_place xs p E t safe = (finds s D from has_place xs p E t safe, inside)
  where
    inside : (x : StoreStep) (q : Point) (F : Files) → IsPointStep p x q → Inside p x E F → FindsIt F
    inside x q F step moment =
        let h = moment_halts (start_point s) p q D E F xs x t step moment in
        finds s D from has_place h.steps h.point F h.trace (λ r g e. safe r g (subst (λ (d : CoreState). slice_get d.regions r ≡ Some g) h.core e))

-- what restarts right from there is found
pub right_is_found : (s : Start) (p : Point) (F : Files) → (s.vault.current ≡ 0) ⊎ (1 < length s.log) → NoneMissed p.core → LeavesRightAt s p F → FindsIt F
right_is_found s p F placed safe left =
    ⊎_elim
    (λ along. let t = along.1 in (crash_is_found s t.first t.starts (start_has_place s t.first t.starts placed) t.steps p F t.trace safe).0)
    (λ within.
    let i = within.3 in
    let t = i.traced in
    (crash_is_found s t.first t.starts (start_has_place s t.first t.starts placed) t.steps p i.was t.trace safe).1 within.0 within.1 F within.2 i.inside)
    left.came
