-- The tests behind an image are the rules said of the whole log.
use Rattle.std.specs.List.{list_all, list_any}
use Rattle.std.specs.Prelude.{nat_le, nat_lt, not, ◌&&◌, ◌||◌, ◌==◌}
use Rattle.std.proofs.Common.{Bool, List, ap, cond, drop, false, length, refl, true, ℕ, ◌≡◌, ◌∷◌, ◌∙◌, ◌≤◌, ◌^◌, ◌<◌, []}
use Rattle.std.proofs.lemmas.Bool.{both_ways}
use mathlib.Core.Bool.{and-true}
use Rattle.dali_geometry.specs.Places.{regions}
use Rattle.dali_geometry.specs.Sizes.{Sizes}
use Rattle.dali_record.specs.Damage.{has}
use Rattle.dali_record.specs.Epochs.{last_epoch, separates}
use Rattle.dali_record.specs.Files.{is_restarted, table_before}
use Rattle.dali_record.specs.Legal.{is_none_left, on_kind}
use Rattle.dali_record.specs.Log.{begun, committed, ended, last_of, undo_step, undos_of}
use Rattle.dali_record.specs.declared.operations.Block.{Block}
use Rattle.dali_record.specs.declared.operations.Pending.{Pending}
use Rattle.dali_record.specs.declared.records.Record.{Record}
use Rattle.dali_record.specs.declared.records.Record.TheVariants.{AuditBegin, AuditClean, AuditFail, Back, Begin, Commit, Done, Ended, Format, Forward, Restarted, Solo}
use Rattle.dali_resume.specs.Laws.{is_audit_fail}
use Rattle.dali_resume.specs.Resumed.{first_from, records_from}
use Rattle.dali_resume.specs.Rules.{ends_restarted, has_audit, is_active_in, is_new, may_stand, number_next, stands_by, tells_epoch, waits_in}
use Rattle.dali_resume.specs.Tests.{Idle, Known, Running, Status, Waiting, allows, draws_number, ends_audit, idle_next, is_running, is_waiting, may_end, may_follow, may_take_back, running_next, status_in, status_next, tells_lists, undoes_last, waiting_next}
use Rattle.dali_resume.proofs.Passes.{status_in_is}
use Rattle.dali_resume.proofs.Resumes.{has_running, running, table_of}

-- ---- a transaction's status, by the records of its epoch
abbrev pub stat : Bool → Bool → Bool → List Pending → Status
stat b c d us = cond (not d && b) (cond c Waiting (Running us)) Idle

pub status_is : (E : List Record) (t : ℕ) → status_in (table_of E) t ≡ stat (has (begun E) t) (has (committed E) t) (has (ended E) t) (undos_of t E)
status_is E t = status_in_is E (running E) t ∙ (ap (λ b. cond b (cond (has (committed E) t) Waiting (Running (cond (has (committed E) t) [] (undos_of t E)))) Idle) (has_running E t) ∙ inner (not (has (ended E) t) && has (begun E) t) (has (committed E) t) (undos_of t E))
  where
    inner : (a c : Bool) (us : List Pending) → cond a (cond c Waiting (Running (cond c [] us))) Idle ≡ cond a (cond c Waiting (Running us)) Idle
    inner a true us = refl
    inner a false us = refl

quiet : (t : ℕ) (r : Record) → idle_next t r ≡ Idle → ((us : List Pending) → running_next t us r ≡ Running (undo_step t us r)) → waiting_next t r ≡ Waiting
    → (b c d : Bool) (us : List Pending) → status_next t (stat b c d us) r ≡ stat (b || false) (c || false) (d || false) (undo_step t us r)
quiet t r i w v b c true us = i
quiet t r i w v false c false us = i
quiet t r i w v true true false us = v
quiet t r i w v true false false us = w us

abbrev pub IsFreshFor : ℕ → Record → Bool → Bool → Bool → List Pending → Type 0
IsFreshFor t r b c d us = has (begun (r ∷ [])) t ≡ true → (b ≡ false) × (c ≡ false) × (d ≡ false) × (us ≡ [])

abbrev pub Steps : ℕ → Record → Bool → Bool → Bool → List Pending → Type 0
Steps t r b c d us = status_next t (stat b c d us) r ≡ stat (b || has (begun (r ∷ [])) t) (c || has (committed (r ∷ [])) t) (d || has (ended (r ∷ [])) t) (undo_step t us r)

stat_begin : (t u : ℕ) (b c d : Bool) (us : List Pending) → IsFreshFor t (Begin u) b c d us → Steps t (Begin u) b c d us
stat_begin t u b c d us fresh = by_test (u == t) refl
  where
    by_test : (k : Bool) → (u == t) ≡ k → Steps t (Begin u) b c d us
    by_test true e = let f = fresh (rw e refl) in rw (f.0, f.1, f.2, f.3, e) refl
    by_test false e = quiet t (Begin u) (rw e refl) (λ vs. refl) refl b c d us ∙ ap (λ z. stat (b || z) (c || false) (d || false) us) (rw e refl)

stat_commit : (t u : ℕ) (b c d : Bool) (us : List Pending) → Steps t (Commit u) b c d us
stat_commit t u b c d us = by_test (u == t) refl
  where
    ends : (e : (u == t) ≡ true) (b c d : Bool) → status_next t (stat b c d us) (Commit u) ≡ stat (b || false) (c || true) (d || false) us
    ends e b c true = refl
    ends e false c false = refl
    ends e true true false = refl
    ends e true false false = rw e refl

    by_test : (k : Bool) → (u == t) ≡ k → Steps t (Commit u) b c d us
    by_test true e = ends e b c d ∙ ap (λ z. stat (b || false) (c || z) (d || false) us) (rw e refl)
    by_test false e = quiet t (Commit u) refl (λ vs. rw e refl) refl b c d us ∙ ap (λ z. stat (b || false) (c || z) (d || false) us) (rw e refl)

stat_ended : (t u : ℕ) (b c d : Bool) (us : List Pending) → Steps t (Ended u) b c d us
stat_ended t u b c d us = by_test (u == t) refl
  where
    ends : (e : (u == t) ≡ true) (b c d : Bool) → status_next t (stat b c d us) (Ended u) ≡ stat (b || false) (c || false) (d || true) us
    ends e b c true = refl
    ends e false c false = refl
    ends e true true false = rw e refl
    ends e true false false = rw e refl

    by_test : (k : Bool) → (u == t) ≡ k → Steps t (Ended u) b c d us
    by_test true e = ends e b c d ∙ ap (λ z. stat (b || false) (c || false) (d || z) us) (rw e refl)
    by_test false e = quiet t (Ended u) refl (λ vs. rw e refl) (rw e refl) b c d us ∙ ap (λ z. stat (b || false) (c || false) (d || z) us) (rw e refl)

pub stat_step : (t : ℕ) (r : Record) → separates r ≡ false → (b c d : Bool) (us : List Pending) → IsFreshFor t r b c d us → Steps t r b c d us
stat_step t (Format i h) w b c d us f = absurd (cc)
stat_step t (Begin u) w b c d us f = stat_begin t u b c d us f
stat_step t (Forward u q) w b c d us f = quiet t (Forward u q) refl (λ vs. refl) refl b c d us
stat_step t (Done u k a) w b c d us f = quiet t (Done u k a) refl (λ vs. refl) refl b c d us
stat_step t (Commit u) w b c d us f = stat_commit t u b c d us
stat_step t (Ended u) w b c d us f = stat_ended t u b c d us
stat_step t (Solo u p q) w b c d us f = quiet t (Solo u p q) refl (λ vs. refl) refl b c d us
stat_step t AuditBegin w b c d us f = quiet t AuditBegin refl (λ vs. refl) refl b c d us
stat_step t (AuditClean q) w b c d us f = quiet t (AuditClean q) refl (λ vs. refl) refl b c d us
stat_step t (AuditFail q rs) w b c d us f = quiet t (AuditFail q rs) refl (λ vs. refl) refl b c d us
stat_step t (Restarted rs ds) w b c d us f = absurd (cc)
stat_step t (Back u q) w b c d us f = quiet t (Back u q) refl (λ vs. refl) refl b c d us

-- ---- what is known, said of the whole log
-- the numbers that were begun in an epoch, and what stands of the others
pub record Formed (m : ℕ) (E : List Record) : Type 0 where
  pub fresh : (t : ℕ) → has (begun E) t ≡ true → t < m
  pub formed : (t : ℕ) → has (begun E) t ≡ false → (has (committed E) t ≡ false) × (has (ended E) t ≡ false) × (undos_of t E ≡ [])

pub record Told (n : ℕ) (Y : List Record) (g : Known) : Type 0 where
  pub some : 0 < length Y
  pub past : n ≤ length Y
  pub number : g.number ≡ length Y
  pub next : g.next ≡ number_next Y
  pub statuses : (t : ℕ) → g.statuses t ≡ status_in (table_of (last_epoch Y).records) t
  pub audits : (b : ℕ) → ends_audit n g b ≡ has_audit n Y b
  pub failed : g.failed ≡ list_any is_audit_fail (records_from n (last_epoch Y))
  pub restarted : g.restarted ≡ ends_restarted (last_of (drop n Y))
  pub first : g.first ≡ first_from n (last_epoch Y)
  pub table : g.table ≡ table_before (last_epoch Y) n
  pub seen : g.seen ≡ records_from n (last_epoch Y)
  pub formed : Formed (number_next Y) (last_epoch Y).records

-- a test that neither who is idle nor who waits passes
runs_alone : (f : Status → Bool) → f Idle ≡ false → f Waiting ≡ false → (b c d : Bool) (us : List Pending) → f (stat b c d us) ≡ ((b && (not c && not d)) && f (Running us))
runs_alone f i w true true true us = i
runs_alone f i w true true false us = w
runs_alone f i w true false true us = i
runs_alone f i w true false false us = refl
runs_alone f i w false c true us = i
runs_alone f i w false c false us = i

running_is : (b c d : Bool) (us : List Pending) → is_running (stat b c d us) ≡ (b && (not c && not d))
running_is b c d us = runs_alone is_running refl refl b c d us ∙ and-true (b && (not c && not d))

back_is : (b c d : Bool) (us : List Pending) (q : Block) → may_take_back (stat b c d us) q ≡ ((b && (not c && not d)) && undoes_last q (last_of us))
back_is b c d us q = runs_alone (λ (x : Status). may_take_back x q) refl refl b c d us

end_is : (b c d : Bool) (us : List Pending) → (b ≡ false → c ≡ false) → may_end (stat b c d us) ≡ ((c && not d) || ((b && (not c && not d)) && is_none_left us))
end_is true true true us h = refl
end_is true true false us h = refl
end_is true false true us h = refl
end_is true false false us h = refl
end_is false true d us h = absurd (both_ways true (h refl) refl)
end_is false false true us h = refl
end_is false false false us h = refl

waiting_is : (b c d : Bool) (us : List Pending) → (b ≡ false → c ≡ false) → is_waiting (stat b c d us) ≡ (c && not d)
waiting_is true true true us h = refl
waiting_is true true false us h = refl
waiting_is true false true us h = refl
waiting_is true false false us h = refl
waiting_is false true d us h = absurd (both_ways true (h refl) refl)
waiting_is false false true us h = refl
waiting_is false false false us h = refl

-- ---- the tests are the rules
module _ (s : Sizes) (n : ℕ) (Y : List Record) (g : Known) (w : Told n Y g) where
  abbrev E : List Record
  E = (last_epoch Y).records

  pub by_records : (t : ℕ) → g.statuses t ≡ stat (has (begun (last_epoch Y).records) t) (has (committed (last_epoch Y).records) t) (has (ended (last_epoch Y).records) t) (undos_of t (last_epoch Y).records)
  by_records t = w.statuses t ∙ status_is E t

  active : (t : ℕ) → is_running (g.statuses t) ≡ is_active_in (last_epoch Y).records t
  active t = ap is_running (by_records t) ∙ running_is (has (begun E) t) (has (committed E) t) (has (ended E) t) (undos_of t E)

  waits : (t : ℕ) → is_waiting (g.statuses t) ≡ waits_in (last_epoch Y).records t
  waits t = ap is_waiting (by_records t) ∙ waiting_is (has (begun E) t) (has (committed E) t) (has (ended E) t) (undos_of t E) (λ h. (w.formed.formed t h).0)

  draws : (t : ℕ) → draws_number g t ≡ is_new Y t
  draws t = ap (λ m. nat_lt t (2 ^ 40) && nat_le m t) w.next

  allows_is : (r : Record) → allows s n g r ≡ stands_by s n Y r
  allows_is (Format i h) = ap (λ m. m == 0) w.number
  allows_is (Begin t) = draws t
  allows_is (Forward t b) = ap (λ z. z && on_kind s b.region b.op) (active t)
  allows_is (Done t c a) = active t
  allows_is (Back t b) = ap (λ z. z && on_kind s b.region b.op) (ap (λ z. may_take_back z b) (by_records t) ∙ back_is (has (begun E) t) (has (committed E) t) (has (ended E) t) (undos_of t E) b)
  allows_is (Commit t) = active t
  allows_is (Ended t) = ap may_end (by_records t) ∙ end_is (has (begun E) t) (has (committed E) t) (has (ended E) t) (undos_of t E) (λ h. (w.formed.formed t h).0)
  allows_is (Solo t p b) = ap (λ z. z && (is_waiting (g.statuses p) && on_kind s b.region b.op)) (draws t) ∙ ap (λ z. is_new Y t && (z && on_kind s b.region b.op)) (waits p)
  allows_is AuditBegin = refl
  allows_is (AuditClean b) = w.audits b
  allows_is (AuditFail b rs) = ap (λ z. z && list_all (λ r. nat_lt r (regions s)) rs) (w.audits b)
  allows_is (Restarted rs ds) =
      ap (λ z. not z && ((g.number == n) || tells_lists g rs ds)) w.restarted
      ∙ (ap (λ z. not (ends_restarted (last_of (drop n Y))) && ((z == n) || tells_lists g rs ds)) w.number
      ∙ ap (λ z. not (ends_restarted (last_of (drop n Y))) && ((length Y == n) || z)) tells)
    where
      tells : tells_lists g rs ds ≡ tells_epoch n (last_epoch Y) rs ds
      tells = rw (w.table, w.seen, w.first) refl

  pub rules_are : (r : Record) → may_follow s n g r ≡ may_stand s n Y r
  rules_are r = ap (λ z. z && (not g.failed || is_restarted r)) (allows_is r) ∙ ap (λ z. stands_by s n Y r && (not z || is_restarted r)) w.failed
