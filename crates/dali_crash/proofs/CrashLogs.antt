-- The log of a crash image.
use Rattle.std.proofs.Common.{◌≡◌, ℕ, ◌+◌, ◌-◌, ◌<◌, ◌≤◌, true, List, [], ◌∷◌, ◌++◌, length, take, Some, refl, ap, sym, subst, ◌∙◌, ◌⊎◌, inl, inr, ⊎_elim, arith}
use Rattle.std.specs.Prelude.{slice_get}
use Rattle.std.specs.List.{AllByRecursion}
use Rattle.std.proofs.lemmas.List.{take_all, take-append-le, length_push}
use Rattle.std.proofs.lemmas.Bool.{cases_lt}
use Rattle.dali_record.specs.declared.records.Record.{Record}
use Rattle.dali_record.specs.declared.records.Record.TheVariants.{Format, Begin, Forward, Done, Commit, Ended, Solo, AuditBegin, AuditClean, AuditFail, Restarted, Back}
use Rattle.dali_record.specs.Log.{touch_in}
use Rattle.dali_record.specs.Epochs.{Epoch, Cut, cut, cut_step, last_epoch, next_number}
use Rattle.dali_record.specs.Locks.{EndedBetween, IsLockLegalIn}
use Rattle.dali_record.specs.Files.{Files}
use Rattle.dali_record.proofs.Ends.{by_push}
use Rattle.dali_record.proofs.Pushes.{cut_push, touch_within}
use Rattle.dali_runs.specs.State.{VaultState}
use Rattle.dali_runs.specs.Run.{base_at, VaultRun, log_in, IsPrefix}
use Rattle.dali_history.specs.Recovered.{IsHonestIn}
use Rattle.dali_runs.specs.Crashes.{NoneEscapes}
use Rattle.dali_crash.specs.CrashLogs.{cut_to, CrashLogs}
use Rattle.dali_runs.proofs.OneMore.{is_inside, step_inside}
use Rattle.dali_crash.proofs.Honest.{stops_honest}
use Rattle.dali_runs.proofs.CountsLemmas.Fronts.{prefix_legal}
use Rattle.std.proofs.lemmas.Option.{slice_get_within}
use Rattle.dali_lists.proofs.Lists.{get_take, length_take}
use Rattle.dali_record.proofs.Batches.{number_is_length}

-- the epochs of a log that is cut off in its last epoch
cut_off : ℕ → Cut → Cut
cut_off n c = record { closed = c.closed; now = cut_to (n - c.now.first) c.now }

cut_whole : (n : ℕ) (c : Cut) → n ≡ next_number c.now → cut_off n c ≡ c
unfolding cut_off
cut_whole n c e = ap (λ rs. record { closed = c.closed; now = record { first = c.now.first; records = rs } }) (take_all (n - c.now.first) c.now.records (omega (arith, e)))

CutsOff : List Record → Type 0
CutsOff L = (n : ℕ) → (last_epoch L).first ≤ n → n ≤ length L → cut (take n L) ≡ cut_off n (cut L)

pub first_before : (c : Cut) (x : Record) → (c.now.first ≤ (cut_step c x).now.first)
first_before c (Format i h) = omega arith
first_before c _ = omega arith

cuts_off : (L : List Record) → CutsOff L
unfolding CutsOff cut_off
cuts_off = by_push CutsOff (λ n f h. at_start n h) (λ L x here n f h. ⊎_elim (λ lt. earlier L x here n (omega (arith, lt, length_push L x)) f) (λ ge. whole (L ++ x ∷ []) n (omega (arith, ge, h))) (cases_lt n (length (L ++ x ∷ []))))
  where
    whole : (M : List Record) (n : ℕ) → n ≡ length M → cut (take n M) ≡ cut_off n (cut M)
    whole M n e = ap cut (take_all n M (omega (arith, e))) ∙ sym (cut_whole n (cut M) (e ∙ sym (number_is_length M)))

    at_start : (n : ℕ) → n ≤ length {A = Record} [] → cut (take n []) ≡ cut_off n (cut [])
    at_start n h = whole [] n (omega (arith, h))

    -- a record that separates epochs begins one after the log
    inside_or : (c : Cut) (x : Record) → (is_inside x ≡ true) ⊎ ((cut_step c x).now.first ≡ next_number c.now + 1)
    inside_or c (Format i h) = inr refl
    inside_or c (Begin t) = inl refl
    inside_or c (Forward t b) = inl refl
    inside_or c (Done t q r) = inl refl
    inside_or c (Commit t) = inl refl
    inside_or c (Ended t) = inl refl
    inside_or c (Solo t p b) = inl refl
    inside_or c AuditBegin = inl refl
    inside_or c (AuditClean b) = inl refl
    inside_or c (AuditFail b rs) = inl refl
    inside_or c (Restarted rs ds) = inr refl
    inside_or c (Back t b) = inl refl

    same_cut : (c : Cut) (x : Record) (n : ℕ) → is_inside x ≡ true → n ≤ next_number c.now → cut_off n c ≡ cut_off n (cut_step c x)
    same_cut c x n e h = rw (step_inside c x e, take-append-le (n - c.now.first) c.now.records (x ∷ []) (omega (arith, h))) refl

    earlier : (L : List Record) (x : Record) → CutsOff L → (n : ℕ) → n ≤ length L → (last_epoch (L ++ x ∷ [])).first ≤ n → cut (take n (L ++ x ∷ [])) ≡ cut_off n (cut (L ++ x ∷ []))
    earlier L x here n h f =
        let f2 : (cut_step (cut L) x).now.first ≤ n = subst (λ (c : Cut). c.now.first ≤ n) (cut_push L x) f in
        ap cut (take-append-le n L (x ∷ []) h)
        ∙ (here n (omega (arith, f2, first_before (cut L) x)) h
        ∙ (⊎_elim (λ inside. same_cut (cut L) x n inside (omega (arith, h, number_is_length L))) (λ out. absurd (omega (arith, out, f2, h, number_is_length L))) (inside_or (cut L) x)
        ∙ ap (cut_off n) (sym (cut_push L x))))

-- lock-legal where it is cut off
pub locks_cut : (m : ℕ) (E : List Record) → IsLockLegalIn E → IsLockLegalIn (take m E)
locks_cut m E legal i j a b lt p q c =
    let jm : j < m = omega (arith, touch_within (take m E) j b q, length_take m E) in
    let w : EndedBetween a.owner i j E = legal i j a b lt (ap touch_in (sym (get_take m i E (omega (arith, lt, jm)))) ∙ p) (ap touch_in (sym (get_take m j E jm)) ∙ q) c in
    (w.0, w.1, w.2, get_take m w.0 E (omega (arith, w.2, jm)) ∙ w.3)

abbrev LegalCut : Cut → Type 0
LegalCut c = AllByRecursion (λ (e : Epoch). IsLockLegalIn e.records) c.closed × IsLockLegalIn c.now.records

pub cut_parts : (L : List Record) (n : ℕ) → (last_epoch L).first ≤ n → n ≤ length L → cut (take n L) ≡ record { closed = (cut L).closed; now = cut_to (n - (last_epoch L).first) (last_epoch L) }
unfolding cut_off CutsOff
cut_parts L n f h = cuts_off L n f h

pub crash_logs : CrashLogs
crash_logs bases L c n run from to safe = record {
  spelled = λ i r e. run.log.spelled i r (sym (get_take n i L (omega (arith, slice_get_within (take n L) i r e, length_take n L))) ∙ e);
  legal = prefix_legal c.system.sizes L n run.log.legal;
  locks = subst LegalCut (sym parts) (run.log.locks.0, locks_cut (n - (last_epoch L).first) (last_epoch L).records run.log.locks.1);
  honest = subst (λ (e : Epoch). IsHonestIn (base_at bases L) e) (sym (ap (λ q. q.now) parts)) (stops_honest bases L c (n - (last_epoch L).first) run (subst (λ (e : Epoch). NoneEscapes e c) (ap (λ q. q.now) parts) safe));
}
  where
    parts : cut (take n L) ≡ record { closed = (cut L).closed; now = cut_to (n - (last_epoch L).first) (last_epoch L) }
    parts = cut_parts L n from to

-- what was flushed stands in every crash image
pub flushed_stays : (leave : Files → Type 0) (L : List Record) (n : ℕ) (v : VaultState) → VaultRun leave L n v → (k : ℕ) (x : Record) → k < n → slice_get L k ≡ Some x → (F : Files) → leave F → slice_get (log_in F) k ≡ Some x
flushed_stays leave L n v run k x h e F l = let is : IsPrefix L n F = run.prefix F l in ap (λ M. slice_get M k) is.log ∙ (get_take is.count k L (omega (arith, h, is.flushed)) ∙ e)
