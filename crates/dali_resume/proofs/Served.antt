-- The table that the tests keep of any records is the one whose undos are performed.
use Rattle.std.specs.List.{list_any}
use Rattle.std.specs.Prelude.{fold, not, ◌&&◌, ◌||◌, ◌==◌}
use Rattle.std.proofs.Common.{Bool, List, None, Some, ap, arith, cond, false, refl, subst, sym, true, ℕ, ◌≡◌, ◌+◌, ◌∷◌, ◌++◌, ◌∙◌, []}
use Rattle.std.proofs.lemmas.Bool.{and_parts, both_ways, ne_eqb, or_parts, eqb-true}
use Rattle.std.proofs.lemmas.List.Folds.{list_any-append}
use Rattle.std.proofs.lemmas.List.Sums.{fold-append}
use mathlib.Core.Bool.{or-false}
use Rattle.dali_geometry.specs.Sizes.{Sizes}
use Rattle.dali_record.specs.Damage.{has}
use Rattle.dali_record.specs.Epochs.{separates}
use Rattle.dali_record.specs.Files.{Row, is_restarted}
use Rattle.dali_record.specs.Legal.{on_kind}
use Rattle.dali_record.specs.Log.{committed, undo_step}
use Rattle.dali_record.specs.Settled.{redo_all}
use Rattle.dali_record.specs.declared.operations.Pending.{Pending}
use Rattle.dali_record.specs.declared.records.Record.{Record}
use Rattle.dali_record.specs.declared.records.Record.TheVariants.{AuditBegin, AuditClean, AuditFail, Back, Begin, Commit, Done, Ended, Format, Forward, Restarted, Solo}
use Rattle.dali_record.proofs.Stages.{has_committed_push}
use Rattle.dali_record.proofs.Moves.{none_left}
use Rattle.dali_history.specs.Recovered.{freed, roll_back}
use Rattle.dali_history.proofs.Members.{fold_within, has-filter}
use Rattle.dali_resume.specs.Laws.{is_audit_fail, losers_of, recover_plain, undos_in}
use Rattle.dali_resume.specs.Onward.{Going, OnePassOnward, ServesAnyLog, begins_log, goes_through}
use Rattle.dali_resume.specs.Resumed.{begun_by, committed_by, damage_from, deleted_by, recover_by, row_committed, row_undos, scan}
use Rattle.dali_resume.specs.Tests.{Idle, Known, Running, Status, Waiting, allows, is_running, is_waiting, known_at, known_next, may_end, may_follow, status_in, status_next, test_next, tests}
use Rattle.dali_resume.proofs.Followed.{failed_is}
use Rattle.dali_resume.proofs.OnePass.{unfailed_is_plain}
use Rattle.dali_resume.proofs.Onward.{idle_anyway}
use Rattle.dali_resume.proofs.Reached.{knows_alike, none_passes}

record Served (g : Known) : Type 0 where
  undos : (t : ℕ) → committed_by g.table g.seen t ≡ false → undos_in (g.statuses t) ≡ fold (undo_step t) (row_undos g.table t) g.seen
  waits : (t : ℕ) → committed_by g.table g.seen t ≡ false → is_waiting (g.statuses t) ≡ false
  failed : g.failed ≡ list_any is_audit_fail g.seen

-- ---- the image's table
start_undos : (rows : List Row) (t : ℕ) → row_committed rows t ≡ false → (undos_in (status_in rows t) ≡ row_undos rows t) × (is_waiting (status_in rows t) ≡ false)
start_undos [] t h = (refl, refl)
start_undos (w ∷ ws) t h = by_test (λ k. start_undos ws t k) (w.txn == t) refl
  where
    by_test : (row_committed ws t ≡ false → (undos_in (status_in ws t) ≡ row_undos ws t) × (is_waiting (status_in ws t) ≡ false)) → (b : Bool) → (w.txn == t) ≡ b
        → (undos_in (status_in (w ∷ ws) t) ≡ row_undos (w ∷ ws) t) × (is_waiting (status_in (w ∷ ws) t) ≡ false)
    by_test ih true e =
        let c : w.is_committed ≡ false = (or_parts w.is_committed (row_committed ws t) (subst (λ z. ((z && w.is_committed) || row_committed ws t) ≡ false) e h)).0 in
        rw (e, c) (refl, refl)
    by_test ih false e = let v = ih (subst (λ z. ((z && w.is_committed) || row_committed ws t) ≡ false) e h) in rw e v

served_start : (n next : ℕ) (rows : List Row) → Served (known_at n next rows)
served_start n next rows = record {
  undos = λ t h. (start_undos rows t (sym (or-false (row_committed rows t)) ∙ h)).0;
  waits = λ t h. (start_undos rows t (sym (or-false (row_committed rows t)) ∙ h)).1;
  failed = refl;
}

-- ---- one record
abbrev Serves : ℕ → Status → Record → Type 0
Serves t z r = (undos_in (status_next t z r) ≡ undo_step t (undos_in z) r) × (is_waiting (status_next t z r) ≡ false)

module _ (s : Sizes) (n : ℕ) (g : Known) (t : ℕ) where
  same_status : (u : ℕ) (z : Status) → (u == t) ≡ true → g.statuses t ≡ z → g.statuses u ≡ z
  same_status u z e h = ap g.statuses (eqb-true u t e) ∙ h

  idle : (r : Record) → separates r ≡ false → g.statuses t ≡ Idle → allows s n g r ≡ true → Serves t Idle r
  idle (Format i h) w q k = absurd (cc)
  idle (Begin u) w q k = by_test (u == t) refl
    where
      by_test : (b : Bool) → (u == t) ≡ b → Serves t Idle (Begin u)
      by_test true e = rw e (refl, refl)
      by_test false e = rw e (refl, refl)
  idle (Forward u b) w q k = by_test (u == t) refl
    where
      by_test : (c : Bool) → (u == t) ≡ c → Serves t Idle (Forward u b)
      by_test true e = absurd (both_ways (is_running (g.statuses u)) (ap is_running (same_status u Idle e q)) (and_parts (is_running (g.statuses u)) (on_kind s b.region b.op) k).0)
      by_test false e = rw e (refl, refl)
  idle (Done u c a) w q k = (refl, refl)
  idle (Commit u) w q k = (refl, refl)
  idle (Ended u) w q k = (refl, refl)
  idle (Solo u p b) w q k = (refl, refl)
  idle AuditBegin w q k = (refl, refl)
  idle (AuditClean b) w q k = (refl, refl)
  idle (AuditFail b rs) w q k = (refl, refl)
  idle (Restarted rs ds) w q k = absurd (cc)
  idle (Back u b) w q k = by_test (u == t) refl
    where
      by_test : (c : Bool) → (u == t) ≡ c → Serves t Idle (Back u b)
      by_test true e = rw e (refl, refl)
      by_test false e = rw e (refl, refl)

  runs : (us : List Pending) (r : Record) → separates r ≡ false → g.statuses t ≡ Running us → allows s n g r ≡ true → has (committed (r ∷ [])) t ≡ false → Serves t (Running us) r
  runs us (Format i h) w q k c = absurd (cc)
  runs us (Begin u) w q k c = (refl, refl)
  runs us (Forward u b) w q k c = (refl, refl)
  runs us (Done u d a) w q k c = (refl, refl)
  runs us (Commit u) w q k c = let f : (u == t) ≡ false = (or_parts (u == t) false c).0 in rw f (refl, refl)
  runs us (Ended u) w q k c = by_test (u == t) refl
    where
      by_test : (b : Bool) → (u == t) ≡ b → Serves t (Running us) (Ended u)
      by_test true e = let none : us ≡ [] = none_left us (sym (ap may_end (same_status u (Running us) e q)) ∙ k) in rw e (sym none, refl)
      by_test false e = rw e (refl, refl)
  runs us (Solo u p b) w q k c = (refl, refl)
  runs us AuditBegin w q k c = (refl, refl)
  runs us (AuditClean b) w q k c = (refl, refl)
  runs us (AuditFail b rs) w q k c = (refl, refl)
  runs us (Restarted rs ds) w q k c = absurd (cc)
  runs us (Back u b) w q k c = (refl, refl)

  serves : (z : Status) (r : Record) → separates r ≡ false → g.statuses t ≡ z → is_waiting z ≡ false → allows s n g r ≡ true → has (committed (r ∷ [])) t ≡ false → Serves t z r
  serves Idle r w q v k c = idle r w q k
  serves (Running us) r w q v k c = runs us r w q k c
  serves Waiting r w q v k c = absurd (cc)

module _ (s : Sizes) (n : ℕ) (g : Known) (w : Served g) where
  plain : (r : Record) → separates r ≡ false → allows s n g r ≡ true → Served (known_next g r)
  plain r sep k = record {
    undos = λ t h.
        let f = facts t h in
        let us = λ (rows : List Row) (R : List Record). fold (undo_step t) (row_undos rows t) R in
        (one t f.0 f.1).0 ∙ (ap (λ us. undo_step t us r) (w.undos t f.0) ∙ (sym (fold-append (undo_step t) (row_undos g.table t) g.seen (r ∷ [])) ∙ sym (ap2 us (tables r sep) (lists r sep))));
    waits = λ t h. let f = facts t h in (one t f.0 f.1).1;
    failed =
        failed_is g.failed r sep
        ∙ (ap (λ z. z || is_audit_fail r) w.failed
        ∙ (ap (λ z. list_any is_audit_fail g.seen || z) (sym (or-false (is_audit_fail r)))
        ∙ (sym (list_any-append is_audit_fail g.seen (r ∷ [])) ∙ sym (ap (list_any is_audit_fail) (lists r sep)))));
  }
    where
      ap2 : {X Y Z : Type 0} (f : X → Y → Z) {a b : X} {c d : Y} → a ≡ b → c ≡ d → f a c ≡ f b d
      ap2 f {a = a} {b = b} {c = c} {d = d} p q = ap (λ x. f x c) p ∙ ap (f b) q

      tables : (q : Record) → separates q ≡ false → (known_next g q).table ≡ g.table
      tables q h = ap (λ z. cond z [] g.table) h

      lists : (q : Record) → separates q ≡ false → (known_next g q).seen ≡ g.seen ++ q ∷ []
      lists q h = ap (λ z. cond z [] (g.seen ++ q ∷ [])) h

      facts : (t : ℕ) → committed_by (known_next g r).table (known_next g r).seen t ≡ false → (committed_by g.table g.seen t ≡ false) × (has (committed (r ∷ [])) t ≡ false)
      facts t h =
          let all : (row_committed g.table t || (has (committed g.seen) t || has (committed (r ∷ [])) t)) ≡ false = ap (λ z. row_committed g.table t || z) (sym (has_committed_push g.seen r t)) ∙ (sym (ap2 (λ rows R. committed_by rows R t) (tables r sep) (lists r sep)) ∙ h) in
          let a = or_parts (row_committed g.table t) (has (committed g.seen) t || has (committed (r ∷ [])) t) all in
          let b = or_parts (has (committed g.seen) t) (has (committed (r ∷ [])) t) a.1 in
          (rw (a.0, b.0) refl, b.1)

      one : (t : ℕ) → committed_by g.table g.seen t ≡ false → has (committed (r ∷ [])) t ≡ false → Serves t (g.statuses t) r
      one t h c = serves s n g t (g.statuses t) r sep refl (w.waits t h) k c

  next : (r : Record) → (g.number == 0) && begins_log (r ∷ []) ≡ false → allows s n g r ≡ true → Served (known_next g r)
  next (Format i h) f k = absurd (both_ways ((g.number == 0) && true) f (ap (λ b. b && true) k))
  next (Begin t) f k = plain (Begin t) refl k
  next (Forward t b) f k = plain (Forward t b) refl k
  next (Done t c a) f k = plain (Done t c a) refl k
  next (Commit t) f k = plain (Commit t) refl k
  next (Ended t) f k = plain (Ended t) refl k
  next (Solo t p b) f k = plain (Solo t p b) refl k
  next AuditBegin f k = plain AuditBegin refl k
  next (AuditClean b) f k = plain (AuditClean b) refl k
  next (AuditFail b rs) f k = plain (AuditFail b rs) refl k
  next (Restarted rs ds) f k = record {
    undos = λ t h. ap undos_in (idle_anyway t (g.statuses t) rs ds);
    waits = λ t h. ap is_waiting (idle_anyway t (g.statuses t) rs ds);
    failed = refl;
  }
  next (Back t b) f k = plain (Back t b) refl k

behind_none : (m : ℕ) (b : Bool) → (m + 1 == 0) && b ≡ false
behind_none m b = ap (λ c. c && b) (ne_eqb (m + 1) 0 (λ f. absurd (omega (arith, f))))

-- only the first record may be one
first_alone : (c : Bool) (r : Record) (Q : List Record) → c && begins_log (r ∷ Q) ≡ false → c && begins_log (r ∷ []) ≡ false
first_alone c (Format i h) Q e = e
first_alone c _ Q e = e

served_through : (s : Sizes) (n : ℕ) (Q : List Record) (g k : Known) → (g.number == 0) && begins_log Q ≡ false → Served g → tests s n g Q ≡ Some k → Served k
served_through s n [] g k none w e = let same : g ≡ k = some_known g k e in subst Served same w
  where
    some_known : (x y : Known) → Some x ≡ Some y → x ≡ y
    some_known x y q = cc
served_through s n (r ∷ Q) g k none w e = by_test (λ v f. served_through s n Q (known_next g r) k (behind_none g.number (begins_log Q)) v f) (may_follow s n g r) refl e
  where
    by_test : (Served (known_next g r) → tests s n (known_next g r) Q ≡ Some k → Served k) → (b : Bool) → may_follow s n g r ≡ b → fold (test_next s n) (cond b (Some (known_next g r)) None) Q ≡ Some k → Served k
    by_test ih true f q = ih (next s n g w r (first_alone (g.number == 0) r Q none) (and_parts (allows s n g r) (not g.failed || is_restarted r) f).0) q
    by_test ih false f q = absurd (none_passes s n Q k q)

pub serves_any_log : ServesAnyLog
serves_any_log s n next rows Q k some e = let w = served_through s n Q (known_at n next rows) k some (served_start n next rows) e in (w.undos, w.failed)

pub one_pass_onward : OnePassOnward
one_pass_onward s F Q k some e sound = (
  plain.0 ∙ ap (freed s) (fold_within (λ im t. roll_back im (fold (undo_step t) (row_undos d.known.table t) d.known.seen)) (λ im t. roll_back im (undos_in (d.known.statuses t))) (losers_of d.known.table d.known.seen) (λ t h x. ap (roll_back x) (sym (same t h))) (redo_all d.image d.known.seen)),
  subst (λ (g : Known). deleted_by g.table g.seen (scan (damage_from g.first g.seen) g.table g.seen) ≡ []) is plain.1,
)
  where
    d : Going
    d = goes_through s F Q

    is : (goes_through s F Q).known ≡ k
    is = knows_alike s F Q k e

    w : ((t : ℕ) → committed_by k.table k.seen t ≡ false → undos_in (k.statuses t) ≡ fold (undo_step t) (row_undos k.table t) k.seen) × (k.failed ≡ list_any is_audit_fail k.seen)
    w = serves_any_log s F.first F.next F.table Q k some e

    none : list_any is_audit_fail (goes_through s F Q).known.seen ≡ false
    none = ap (λ (g : Known). list_any is_audit_fail g.seen) is ∙ (sym w.1 ∙ sound)

    plain : (recover_by s (goes_through s F Q).image (damage_from (goes_through s F Q).known.first (goes_through s F Q).known.seen) (goes_through s F Q).known.table (goes_through s F Q).known.seen ≡ recover_plain s (goes_through s F Q).image (goes_through s F Q).known.table (goes_through s F Q).known.seen)
        × (deleted_by (goes_through s F Q).known.table (goes_through s F Q).known.seen (scan (damage_from (goes_through s F Q).known.first (goes_through s F Q).known.seen) (goes_through s F Q).known.table (goes_through s F Q).known.seen) ≡ [])
    plain = unfailed_is_plain s d.image d.known.first d.known.table d.known.seen none

    same : (t : ℕ) → has (losers_of (goes_through s F Q).known.table (goes_through s F Q).known.seen) t ≡ true → undos_in ((goes_through s F Q).known.statuses t) ≡ fold (undo_step t) (row_undos (goes_through s F Q).known.table t) (goes_through s F Q).known.seen
    same t h = subst (λ (g : Known). undos_in (g.statuses t) ≡ fold (undo_step t) (row_undos g.table t) g.seen) (sym is) (w.0 t (subst (λ (g : Known). committed_by g.table g.seen t ≡ false) is uncommitted))
      where
        uncommitted : committed_by (goes_through s F Q).known.table (goes_through s F Q).known.seen t ≡ false
        uncommitted = by_test (committed_by d.known.table d.known.seen t) refl
          where
            by_test : (b : Bool) → committed_by (goes_through s F Q).known.table (goes_through s F Q).known.seen t ≡ b → b ≡ false
            by_test false q = refl
            by_test true q =
                let left : not true ≡ true = subst (λ z. not z ≡ true) q (has-filter (λ u. not (committed_by d.known.table d.known.seen u)) (begun_by d.known.table d.known.seen) t h).1 in
                absurd (cc)
