-- A store call fails: two steps, and one deed.
use Rattle.std.proofs.Common.{◌≡◌, ℕ, true, false, [], ◌∷◌, length, Option, Some, None, IsSome, slice_get, refl, ap, sym, subst, ◌∙◌}
use Rattle.std.proofs.lemmas.List.{length-append}
use Rattle.dali_runs.specs.declared.causes.Cause.{Cause}
use Rattle.dali_runs.specs.State.{CoreState}
use Rattle.dali_runs.specs.Steps.{store_stopped, stopped_by}
use Rattle.dali_runs.specs.Flushes.{with_vault, faulted}
use Rattle.dali_runs.specs.Keeps.{with_system}
use Rattle.dali_runs.specs.Courses.{Faults, Stops}
use Rattle.dali_crash.specs.Checkpoints.{StoreStep, Does, CopyFails, HeadFails, SyncFails, TurnFails, Point, IsPointStep}
use Rattle.dali_crash.proofs.StoreRuns.{bare_store_course_keeps}
use Rattle.dali_transcripts.specs.Words.{StoreFailed}
use Rattle.dali_transcripts.specs.World.{Meets, World, stop_at}
use Rattle.dali_transcripts.specs.Telling.Deeds.{AreOf}
use Rattle.dali_transcripts.specs.Telling.Tells.{after}
use Rattle.dali_transcripts.specs.Telling.Laws.{AreOfCourse, is_fault, FailureTells}
use Rattle.dali_transcripts.proofs.TellingLemmas.Courses.{course_tells, stop_is_told}

-- what a fault does to the core
pub record Fault (p mid : Point) : Type 0 where
  pub faults : ℕ
  pub runs : p.core.vault.stopped ≡ false
  pub core : mid.core ≡ with_vault p.core (faulted p.core.vault faults)

fault_is : (p mid : Point) (x : StoreStep) → is_fault x ≡ true → IsPointStep p x mid → Fault p mid
fault_is p mid (Does (Faults n)) e s = record { faults = n; runs = s.1.0.0; core = s.1.0.2.1 }
fault_is p mid (CopyFails r ws n) e s = record { faults = n; runs = s.3.may.runs; core = ap (λ (k : Point). k.core) s.4 }
fault_is p mid (HeadFails head n) e s = record { faults = n; runs = s.0.may.runs; core = ap (λ (k : Point). k.core) s.1 }
fault_is p mid (SyncFails n) e s = record { faults = n; runs = s.0.may.runs; core = ap (λ (k : Point). k.core) s.1 }
fault_is p mid (TurnFails n) e s = record { faults = n; runs = s.3.may.runs; core = ap (λ (k : Point). k.core) s.5 }
fault_is p mid _ e s = absurd (cc)

told_by_failure : (w : World) (c : ℕ) (p : Point) (x : StoreStep) → is_fault x ≡ true → AreOf w c p x (Meets StoreFailed ∷ [])
told_by_failure w c p (Does (Faults n)) e = refl
told_by_failure w c p (CopyFails r ws n) e = refl
told_by_failure w c p (HeadFails head n) e = refl
told_by_failure w c p (SyncFails n) e = refl
told_by_failure w c p (TurnFails n) e = refl
told_by_failure w c p _ e = absurd (cc)

stops_now : (o : Option Cause) → IsSome (stopped_by o)
stops_now None = refl
stops_now (Some cause) = refl

pub failure_tells : FailureTells
failure_tells bases before w c p mid q x run told fails one two =
    let fault = fault_is p mid x fails one in
    let core : q.core ≡ with_system (with_vault p.core (faulted p.core.vault fault.faults)) (store_stopped p.core.system) = two.1.0.1.1 ∙ ap (λ (k : CoreState). with_system k (store_stopped k.system)) fault.core in
    let are : AreOfCourse w c p (x ∷ Does Stops ∷ []) q (Meets StoreFailed ∷ []) =
    (mid, Meets StoreFailed ∷ [], [], one, told_by_failure w c p x fails, (tt, tt), (q, [], [], two, refl, tt, (refl, refl), refl), refl) in
    let goes = course_tells bases before w c p q (x ∷ Does Stops ∷ []) (Meets StoreFailed ∷ []) run told are in
    let stops : IsSome q.core.system.stop = subst (λ (k : CoreState). IsSome k.system.stop) (sym core) (stops_now p.core.system.stop) in
    record {
      goes = goes;
      leaves = record {
        count = ap (λ (k : CoreState). length k.regions) core;
        regions = λ r e. ap (λ (k : CoreState). slice_get k.regions r) core;
        system = λ e. absurd (cc);
        vault = λ e. absurd (cc);
      };
      vault = (fault.runs, ap (λ (k : CoreState). k.vault.stopped) core);
      system = stops;
      told = subst (λ n. stop_at (after w c (Meets StoreFailed ∷ []) q.core) n ≡ q.core.system.stop) (length-append w.happened ((Meets StoreFailed, c) ∷ []))
          (stop_is_told bases before (after w c (Meets StoreFailed ∷ []) q.core) q (bare_store_course_keeps bases before p q (x ∷ Does Stops ∷ []) run (mid, one, (q, two, refl))) goes.tells (λ e. stops));
    }
