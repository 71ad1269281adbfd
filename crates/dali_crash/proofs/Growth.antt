-- What only grows along steps.
use Rattle.std.proofs.Common.{◌≡◌, ℕ, ◌≤◌, Bool, true, false, List, [], ◌∷◌, ◌++◌, length, take, drop, refl, ap, sym, subst, ◌∙◌, append_assoc, ⊎_elim, arith}
use Rattle.std.specs.Prelude.{Contains}
use Rattle.std.proofs.lemmas.List.{append-nil, take-append-le, take-append-drop, take-take}
use Rattle.dali_record.specs.declared.records.Record.{Record}
use Rattle.dali_record.specs.Log.{committed}
use Rattle.dali_history.proofs.Chained.{keeps_committed}
use Rattle.dali_history.specs.Acknowledged.{KeepsCommitted}
use Rattle.dali_runs.specs.State.{VaultState, stable}
use Rattle.dali_runs.specs.Run.{Bases, no_image}
use Rattle.dali_runs.specs.Crashes.{IsAcknowledged}
use Rattle.dali_crash.specs.Checkpoints.{Point, StoreStep, Does, Starts, Keeps, Copies, Skips, WritesHead, Syncs, Turns, CopyFails, HeadFails, SyncFails, TurnFails, Finishes, IsPointStep, IsPointCourse, moment_of}
use Rattle.dali_crash.specs.Growth.{CourseGrows}
use Rattle.dali_crash.proofs.StepLeaves.{vault_goes}
use Rattle.dali_crash.proofs.StoreRuns.{store_step_none}
use Rattle.dali_crash.proofs.StoreStarts.{store_goes}
use Rattle.dali_runs.specs.Courses.{RunsAt}

-- ---- the vault
record Grows (v w : VaultState) : Type 0 where
  current : v.current ≤ w.current
  flushed : v.flushed ≤ w.flushed
  stopped : v.stopped ≡ true → w.stopped ≡ true

same : (v w : VaultState) → w ≡ v → Grows v w
same v w e = subst (Grows v) (sym e) (record { current = omega arith; flushed = omega arith; stopped = λ h. h })

then_grows : (u v w : VaultState) → Grows u v → Grows v w → Grows u w
then_grows u v w a b = record { current = omega (arith, a.current, b.current); flushed = omega (arith, a.flushed, b.flushed); stopped = λ h. b.stopped (a.stopped h) }

abbrev vault_of : Point → VaultState
vault_of st = st.core.vault

store_step_grows : (st new : Point) (x : StoreStep) → IsPointStep st x new → Grows (vault_of st) (vault_of new)
store_step_grows st new (Does x) s = let w = vault_goes (moment_of st) (moment_of new) x s.1 in record { current = omega (arith, w.current); flushed = w.flushed; stopped = stays new.core.vault.stopped w.runs }
  where
    stays : (b : Bool) → (b ≡ false → st.core.vault.stopped ≡ false) → st.core.vault.stopped ≡ true → b ≡ true
    stays true runs h = refl
    stays false runs h = let f : st.core.vault.stopped ≡ false = runs refl in absurd (cc)
store_step_grows st new Starts s = same (vault_of st) (vault_of new) (ap vault_of s.1)
store_step_grows st new Keeps s = same (vault_of st) (vault_of new) (ap vault_of s.4)
store_step_grows st new (Copies r n) s = same (vault_of st) (vault_of new) (ap vault_of s.5)
store_step_grows st new (Skips r n) s = same (vault_of st) (vault_of new) (ap vault_of s.5)
store_step_grows st new (WritesHead h) s = same (vault_of st) (vault_of new) (ap vault_of s.1)
store_step_grows st new Syncs s = same (vault_of st) (vault_of new) (ap vault_of s.1)
store_step_grows st new Turns s = subst (Grows (vault_of st)) (sym (ap vault_of s.5)) (record { current = omega arith; flushed = omega arith; stopped = λ h. h })
store_step_grows st new (CopyFails r ws n) s = subst (Grows (vault_of st)) (sym (ap vault_of s.4)) (record { current = omega arith; flushed = omega arith; stopped = λ h. refl })
store_step_grows st new (HeadFails h n) s = subst (Grows (vault_of st)) (sym (ap vault_of s.1)) (record { current = omega arith; flushed = omega arith; stopped = λ h. refl })
store_step_grows st new (SyncFails n) s = subst (Grows (vault_of st)) (sym (ap vault_of s.1)) (record { current = omega arith; flushed = omega arith; stopped = λ h. refl })
store_step_grows st new (TurnFails n) s = subst (Grows (vault_of st)) (sym (ap vault_of s.5)) (record { current = omega arith; flushed = omega arith; stopped = λ h. refl })
store_step_grows st new Finishes s = same (vault_of st) (vault_of new) (ap vault_of s.1)

-- ---- the log
record Leads (bases : Bases) (before : List Record) (st new : Point) : Type 0 where
  run : RunsAt bases before no_image (moment_of new)
  vault : Grows (vault_of st) (vault_of new)
  more : List Record
  log : new.log ≡ st.log ++ more

leads : (bases : Bases) (before : List Record) (st new : Point) (xs : List StoreStep) → RunsAt bases before no_image (moment_of st) → IsPointCourse st xs new → Leads bases before st new
leads bases before st new [] run course = subst (Leads bases before st) course (record { run = run; vault = same (vault_of st) (vault_of st) refl; more = []; log = sym (append-nil st.log) })
leads bases before st new (x ∷ xs) run course =
    let on : Leads bases before course.0 new = leads bases before course.0 new xs (store_step_none bases before st course.0 x run course.1) course.2 in
    let grown : Grows (vault_of st) (vault_of new) = then_grows (vault_of st) (vault_of course.0) (vault_of new) (store_step_grows st course.0 x course.1) on.vault in
    ⊎_elim
    (λ e. record { run = on.run; vault = grown; more = on.more; log = on.log ∙ ap (λ l. l ++ on.more) e })
    (λ s. record { run = on.run; vault = grown; more = (s.0 ∷ []) ++ on.more; log = on.log ∙ (ap (λ l. l ++ on.more) s.2 ∙ append_assoc st.log (s.0 ∷ []) on.more) })
    (store_goes st course.0 x course.1).log

pub course_grows : CourseGrows
course_grows bases before st new xs run course = record {
  grown = record {
    current = w.vault.current;
    flushed = flushed;
    acknowledged = λ t h. subst (λ M. Contains (committed (take n M)) t) w.run.log (stays t h);
    stopped = w.vault.stopped;
  };
  more = w.more;
  log = w.log;
  records = records;
}
  where
    w : Leads bases before st new
    w = leads bases before st new xs run course

    m : ℕ
    m = stable st.core

    n : ℕ
    n = stable new.core

    flushed : m ≤ n
    flushed = omega (arith, w.vault.flushed, run.run.first, w.run.run.first)

    within : m ≤ length st.log
    within = omega (arith, run.run.frame, run.run.taken, ap length run.log)

    records : take m new.log ≡ take m st.log
    records = ap (take m) w.log ∙ take-append-le m st.log w.more within

    front : take m st.log ++ drop m (take n new.log) ≡ take n new.log
    front =
        ap (λ l. l ++ drop m (take n new.log)) (sym (take-take m n new.log flushed ∙ records))
        ∙ take-append-drop m (take n new.log)

    keeps : KeepsCommitted (take m st.log) (take n new.log)
    keeps = subst (KeepsCommitted (take m st.log)) front (keeps_committed (take m st.log) (drop m (take n new.log)))

    stays : (t : ℕ) → IsAcknowledged before st.core t → Contains (committed (take n new.log)) t
    stays t h = keeps.stays t (subst (λ M. Contains (committed (take m M)) t) (sym run.log) h)
