-- What is known goes on to be what the whole log says, with each record that may stand.
use Rattle.std.specs.List.{list_any}
use Rattle.std.specs.Prelude.{Contains, IsSome, filter_map, fold, nat_le, nat_lt, not, slice_get, ◌&&◌, ◌||◌, ◌==◌}
use Rattle.std.proofs.Common.{Bool, List, None, Option, Some, ap, append_assoc, arith, cond, drop, false, length, refl, subst, suc, sym, take, true, zero, ℕ, ◌≡◌, ◌∷◌, ◌++◌, ◌∙◌, ◌≤◌, ◌^◌, ◌+◌, ◌-◌, ◌<◌, [], ⊎_elim}
use Rattle.std.proofs.lemmas.Bool.{and_parts, both_ways, false_from_ne_true, or_cases, or_right, or_parts, le-leb, leb-true, eqb-true}
use Rattle.std.proofs.lemmas.List.{append-nil, drop-append-le, length-append, take-append-le}
use Rattle.std.proofs.lemmas.List.Elements.{filter_map-append}
use Rattle.std.proofs.lemmas.List.Folds.{list_any-append}
use Rattle.std.proofs.lemmas.List.Sums.{fold-append}
use Rattle.std.proofs.lemmas.Option.{slice_get_past}
use mathlib.Core.Bool.{or-false}
use Rattle.dali_lists.proofs.Members.{contains_from_get}
use Rattle.dali_lists.proofs.Numbers.{eqb-suc}
use Rattle.dali_lists.proofs.Options.{some_of}
use Rattle.dali_geometry.specs.Sizes.{Sizes}
use Rattle.dali_record.specs.Damage.{has}
use Rattle.dali_record.specs.Epochs.{Epoch, cut, epochs, last_epoch, separates}
use Rattle.dali_record.specs.Files.{draws, is_restarted, next_after, table_before}
use Rattle.dali_record.specs.Legal.{Active, Committed, IsLegalFor, Over, Rules, TxnState, Unbegun, is_none_left, on_kind, rules_state}
use Rattle.dali_record.specs.Log.{begun, committed, ended, last_of, undo_step, undos_of}
use Rattle.dali_record.specs.declared.records.Record.{Record}
use Rattle.dali_record.specs.declared.records.Record.TheVariants.{AuditBegin, AuditClean, AuditFail, Back, Begin, Commit, Done, Ended, Format, Forward, Restarted, Solo}
use Rattle.dali_record.proofs.Batches.{last_push, number_is_length}
use Rattle.dali_record.proofs.Ends.{by_push}
use Rattle.dali_record.proofs.EpochRules.{AllEpochs-contains, StandsThrough, stands_in_epochs}
use Rattle.dali_record.proofs.Pushes.{undos_of_push, none_now}
use Rattle.dali_record.proofs.Stages.{IsStart, has_committed_push, stage, state_from}
use Rattle.dali_record.proofs.Tracks.{Tracks}
use Rattle.dali_history.proofs.Prefixes.{IsLegalFor-front}
use Rattle.dali_resume.specs.Laws.{is_audit_fail}
use Rattle.dali_resume.specs.Resumed.{first_from, records_from}
use Rattle.dali_resume.specs.Rules.{begins_audit, ends_restarted, is_active_in, is_new, may_stand, number_next, stands_by, waits_in}
use Rattle.dali_resume.specs.Tests.{Idle, Known, audits_behind, failed_behind, known_next, may_follow, next_behind, status_in, status_next, test_next, tests, undoes_last}
use Rattle.dali_resume.proofs.Onward.{epoch_restarted, idle_anyway}
use Rattle.dali_resume.proofs.Reached.{next_step, none_passes}
use Rattle.dali_resume.proofs.Resumes.{table_of}
use Rattle.dali_resume.proofs.Ruled.{Formed, IsFreshFor, Told, by_records, rules_are, stat_step, status_is}
use Rattle.dali_resume.proofs.Standing.{LiesIn, has_begun_push, has_ended_push, lies, nothing}

-- ---- lists

last_pushed : (xs : List Record) (r : Record) → last_of (xs ++ r ∷ []) ≡ Some r
last_pushed [] r = refl
last_pushed (x ∷ []) r = refl
last_pushed (x ∷ y ∷ xs) r = last_pushed (y ∷ xs) r

not_zero : (a : ℕ) → (suc a == 0) ≡ false
not_zero a = false_from_ne_true (suc a == 0) (λ q. let h : suc a ≡ 0 = eqb-true (suc a) 0 q in omega (arith, h))

zero_not : (b : ℕ) → (0 == suc b) ≡ false
zero_not b = false_from_ne_true (0 == suc b) (λ q. let h : 0 ≡ suc b = eqb-true 0 (suc b) q in omega (arith, h))

begins_push : (Y : List Record) (r : Record) (b : ℕ) → begins_audit (Some r) ≡ false → begins_audit (slice_get (Y ++ r ∷ []) b) ≡ begins_audit (slice_get Y b)
begins_push [] r zero h = h
begins_push [] r (suc b) h = refl
begins_push (y ∷ Y) r zero h = refl
begins_push (y ∷ Y) r (suc b) h = begins_push Y r b h

begins_new : (Y : List Record) (b : ℕ) → begins_audit (slice_get (Y ++ AuditBegin ∷ []) b) ≡ ((length Y == b) || begins_audit (slice_get Y b))
begins_new [] zero = refl
begins_new [] (suc b) = rw (zero_not b) refl
begins_new (y ∷ Y) zero = rw (not_zero (length Y)) refl
begins_new (y ∷ Y) (suc b) = begins_new Y b ∙ ap (λ z. z || begins_audit (slice_get Y b)) (sym (eqb-suc (length Y) b))

-- ---- what a record that may stand says of its transaction
abbrev no_records : List Record
no_records = []

drop_none : (k : ℕ) → drop k no_records ≡ no_records
drop_none zero = refl
drop_none (suc k) = refl

take_none : (k : ℕ) → take k no_records ≡ no_records
take_none zero = refl
take_none (suc k) = refl

module _ (s : Sizes) (n : ℕ) (Y : List Record) where
  abbrev E : List Record
  E = (last_epoch Y).records

  new_number : (r : Record) (t : ℕ) → stands_by s n Y r ≡ true → has (begun (r ∷ [])) t ≡ true → number_next Y ≤ t
  new_number (Format i h) t k e = absurd (cc)
  new_number (Begin u) t k e =
      let same : u ≡ t = eqb-true u t (sym (or-false (u == t)) ∙ e) in
      let le : number_next Y ≤ u = leb-true (number_next Y) u (and_parts (nat_lt u (2 ^ 40)) (nat_le (number_next Y) u) k).1 in
      omega (arith, same, le)
  new_number (Forward u b) t k e = absurd (cc)
  new_number (Done u c a) t k e = absurd (cc)
  new_number (Commit u) t k e = absurd (cc)
  new_number (Ended u) t k e = absurd (cc)
  new_number (Solo u p b) t k e = absurd (cc)
  new_number AuditBegin t k e = absurd (cc)
  new_number (AuditClean b) t k e = absurd (cc)
  new_number (AuditFail b rs) t k e = absurd (cc)
  new_number (Restarted rs ds) t k e = absurd (cc)
  new_number (Back u b) t k e = absurd (cc)

  rises : (r : Record) → stands_by s n Y r ≡ true → number_next Y ≤ next_behind (number_next Y) r
  rises (Format i h) k = omega arith
  rises (Begin u) k = let le : number_next Y ≤ u = leb-true (number_next Y) u (and_parts (nat_lt u (2 ^ 40)) (nat_le (number_next Y) u) k).1 in omega (arith, le)
  rises (Forward u b) k = omega arith
  rises (Done u c a) k = omega arith
  rises (Commit u) k = omega arith
  rises (Ended u) k = omega arith
  rises (Solo u p b) k =
      let le : number_next Y ≤ u = leb-true (number_next Y) u (and_parts (nat_lt u (2 ^ 40)) (nat_le (number_next Y) u) (and_parts (is_new Y u) (waits_in (last_epoch Y).records p && on_kind s b.region b.op) k).0).1 in
      omega (arith, le)
  rises AuditBegin k = omega arith
  rises (AuditClean b) k = omega arith
  rises (AuditFail b rs) k = omega arith
  rises (Restarted rs ds) k = omega arith
  rises (Back u b) k = omega arith

  above : (r : Record) (t : ℕ) → has (begun (r ∷ [])) t ≡ true → t < next_behind (number_next Y) r
  above (Format i h) t e = absurd (cc)
  above (Begin u) t e = let same : u ≡ t = eqb-true u t (sym (or-false (u == t)) ∙ e) in omega (arith, same)
  above (Forward u b) t e = absurd (cc)
  above (Done u c a) t e = absurd (cc)
  above (Commit u) t e = absurd (cc)
  above (Ended u) t e = absurd (cc)
  above (Solo u p b) t e = absurd (cc)
  above AuditBegin t e = absurd (cc)
  above (AuditClean b) t e = absurd (cc)
  above (AuditFail b rs) t e = absurd (cc)
  above (Restarted rs ds) t e = absurd (cc)
  above (Back u b) t e = absurd (cc)

  -- a transaction that hasn't begun has no record
  not_begun : {A : Type 0} (u t : ℕ) → (u == t) ≡ true → is_active_in (last_epoch Y).records u ≡ true → has (begun (last_epoch Y).records) t ≡ false → A
  not_begun u t e k h = absurd (both_ways (has (begun E) t) h (subst (λ z. has (begun E) z ≡ true) (eqb-true u t e) (and_parts (has (begun E) u) (not (has (committed E) u) && not (has (ended E) u)) k).0))

  Quiet : ℕ → Record → Type 0
  Quiet t r = (has (committed (r ∷ [])) t ≡ false) × (has (ended (r ∷ [])) t ≡ false) × (undo_step t [] r ≡ [])

  no_record : (r : Record) (t : ℕ) → stands_by s n Y r ≡ true → has (begun (last_epoch Y).records) t ≡ false → has (committed (last_epoch Y).records) t ≡ false → Quiet t r
  unfolding Quiet
  no_record (Format i j) t k h c = (refl, refl, refl)
  no_record (Begin u) t k h c = (refl, refl, refl)
  no_record (Forward u b) t k h c = by_test (u == t) refl
    where
      by_test : (z : Bool) → (u == t) ≡ z → Quiet t (Forward u b)
      by_test true e = not_begun u t e (and_parts (is_active_in E u) (on_kind s b.region b.op) k).0 h
      by_test false e = (refl, refl, rw e refl)
  no_record (Done u q a) t k h c = (refl, refl, refl)
  no_record (Commit u) t k h c = by_test (u == t) refl
    where
      by_test : (z : Bool) → (u == t) ≡ z → Quiet t (Commit u)
      by_test true e = not_begun u t e k h
      by_test false e = (rw e refl, refl, refl)
  no_record (Ended u) t k h c = by_test (u == t) refl
    where
      by_test : (z : Bool) → (u == t) ≡ z → Quiet t (Ended u)
      by_test true e = ⊎_elim
          (λ a. absurd (both_ways (has (committed E) t) c (subst (λ z. has (committed E) z ≡ true) (eqb-true u t e) (and_parts (has (committed E) u) (not (has (ended E) u)) a).0)))
          (λ a. not_begun u t e (and_parts (is_active_in E u) (is_none_left (undos_of u E)) a).0 h)
          (or_cases (waits_in E u) (is_active_in E u && is_none_left (undos_of u E)) k)
      by_test false e = (refl, rw e refl, refl)
  no_record (Solo u p b) t k h c = (refl, refl, refl)
  no_record AuditBegin t k h c = (refl, refl, refl)
  no_record (AuditClean b) t k h c = (refl, refl, refl)
  no_record (AuditFail b rs) t k h c = (refl, refl, refl)
  no_record (Restarted rs ds) t k h c = (refl, refl, refl)
  no_record (Back u b) t k h c = by_test (u == t) refl
    where
      by_test : (z : Bool) → (u == t) ≡ z → Quiet t (Back u b)
      by_test true e = not_begun u t e (and_parts (is_active_in E u) (undoes_last b (last_of (undos_of u E))) (and_parts (is_active_in E u && undoes_last b (last_of (undos_of u E))) (on_kind s b.region b.op) k).0).0 h
      by_test false e = (refl, refl, rw e refl)

  -- ---- so an epoch stays formed
  pub formed_push : (r : Record) → stands_by s n Y r ≡ true → Formed (number_next Y) (last_epoch Y).records → Formed (next_behind (number_next Y) r) ((last_epoch Y).records ++ r ∷ [])
  unfolding Quiet
  formed_push r k w = record {
    fresh = λ t h. ⊎_elim (λ a. let lt : t < number_next Y = w.fresh t a in omega (arith, lt, rises r k)) (λ a. above r t a) (or_cases (has (begun E) t) (has (begun (r ∷ [])) t) (sym (has_begun_push E r t) ∙ h));
    formed = λ t h.
        let parts = or_parts (has (begun E) t) (has (begun (r ∷ [])) t) (sym (has_begun_push E r t) ∙ h) in
        let was = w.formed t parts.0 in
        let none = no_record r t k parts.0 was.0 in (
          has_committed_push E r t ∙ rw (was.0, none.0) refl,
          has_ended_push E r t ∙ rw (was.1, none.1) refl,
          undos_of_push t E r ∙ (ap (λ us. undo_step t us r) was.2 ∙ none.2),
        );
  }

-- ---- one record more
pub failed_is : (f : Bool) (r : Record) → separates r ≡ false → failed_behind f r ≡ (f || is_audit_fail r)
failed_is f (Format i h) w = absurd (cc)
failed_is f (AuditFail b rs) w = sym (or_right f true refl)
failed_is f (Restarted rs ds) w = absurd (cc)
failed_is f _ w = sym (or-false f)

audits_same : (k : ℕ) (bs : List ℕ) (r : Record) → separates r ≡ false → begins_audit (Some r) ≡ false → audits_behind k bs r ≡ bs
audits_same k bs (Format i h) w e = absurd (cc)
audits_same k bs AuditBegin w e = absurd (cc)
audits_same k bs (Restarted rs ds) w e = absurd (cc)
audits_same k bs _ w e = refl

-- where an epoch has just begun
pub empty_told :
    (n : ℕ) (Y : List Record) (g : Known) → 0 < length Y → n ≤ length Y → g.number ≡ length Y → g.next ≡ number_next Y → ((t : ℕ) → g.statuses t ≡ Idle)
    → g.audits ≡ [] → g.failed ≡ false → g.restarted ≡ ends_restarted (last_of (drop n Y)) → g.first ≡ length Y → g.table ≡ [] → g.seen ≡ []
    → last_epoch Y ≡ record { first = length Y; records = [] }
    → Told n Y g
empty_told n Y g some past number next statuses audits failed restarted first table seen now = record {
  some = some;
  past = past;
  number = number;
  next = next;
  statuses = λ t. statuses t ∙ sym (ap (λ (z : Epoch). status_in (table_of z.records) t) now);
  audits = λ b. ap (λ bs. has bs b || nat_lt b n) audits ∙ sym (ap (λ (z : Epoch). (nat_le z.first b && begins_audit (slice_get Y b)) || nat_lt b n) now ∙ ap (λ z. z || nat_lt b n) (none_at b));
  failed = failed ∙ sym (ap (λ z. list_any is_audit_fail (records_from n z)) now ∙ ap (list_any is_audit_fail) (drop_none (n - length Y)));
  restarted = restarted;
  first = first ∙ (omega (arith, past) ∙ sym (ap (first_from n) now));
  table = table ∙ sym (ap (λ z. table_before z n) now ∙ ap table_of (take_none (n - length Y)));
  seen = seen ∙ sym (ap (records_from n) now ∙ drop_none (n - length Y));
  formed = subst (λ (z : Epoch). Formed (number_next Y) z.records) (sym now) (record { fresh = λ t h. absurd (cc); formed = λ t h. (refl, refl, refl) });
}
  where
    none_at : (b : ℕ) → (nat_le (length Y) b && begins_audit (slice_get Y b)) ≡ false
    none_at b = by_test (nat_le (length Y) b) refl
      where
        by_test : (z : Bool) → nat_le (length Y) b ≡ z → (z && begins_audit (slice_get Y b)) ≡ false
        by_test true e = ap begins_audit (slice_get_past Y b (leb-true (length Y) b e))
        by_test false e = refl

module _ (s : Sizes) (n : ℕ) (Y : List Record) (g : Known) (w : Told n Y g) where
  size : (last_epoch Y).first + length (last_epoch Y).records ≡ length Y
  size = number_is_length Y

  longer : (r : Record) → length (Y ++ r ∷ []) ≡ length Y + 1
  longer r = length-append Y (r ∷ [])

  pushed : (r : Record) → number_next (Y ++ r ∷ []) ≡ next_behind (number_next Y) r
  pushed r = fold-append next_behind 1 Y (r ∷ [])

  read : (r : Record) → drop n (Y ++ r ∷ []) ≡ drop n Y ++ r ∷ []
  read r = drop-append-le n Y (r ∷ []) w.past

  inside : n - (last_epoch Y).first ≤ length (last_epoch Y).records
  inside = omega (arith, size, w.past)

  audits_of : (r : Record) → separates r ≡ false → (b : ℕ) → (k : Bool) → begins_audit (Some r) ≡ k → (has (audits_behind g.number g.audits r) b || nat_lt b n) ≡ ((nat_le (last_epoch Y).first b && begins_audit (slice_get (Y ++ r ∷ []) b)) || nat_lt b n)
  audits_of r sep b false e = ap (λ bs. has bs b || nat_lt b n) (audits_same g.number g.audits r sep e) ∙ (w.audits b ∙ ap (λ z. (nat_le (last_epoch Y).first b && z) || nat_lt b n) (sym (begins_push Y r b e)))
  audits_of r sep b true e = by_kind r e
    where
      by_kind : (q : Record) → begins_audit (Some q) ≡ true → (has (audits_behind g.number g.audits q) b || nat_lt b n) ≡ ((nat_le (last_epoch Y).first b && begins_audit (slice_get (Y ++ q ∷ []) b)) || nat_lt b n)
      by_kind AuditBegin h = by_test (length Y == b) refl
        where
          by_test : (z : Bool) → (length Y == b) ≡ z → (((g.number == b) || has g.audits b) || nat_lt b n) ≡ ((nat_le (last_epoch Y).first b && begins_audit (slice_get (Y ++ AuditBegin ∷ []) b)) || nat_lt b n)
          by_test true f =
              let at : length Y ≡ b = eqb-true (length Y) b f in
              rw (begins_new Y b, f, w.number, f, le-leb (last_epoch Y).first b (omega (arith, at, size))) refl
          by_test false f = rw (begins_new Y b, f, w.number, f) (w.audits b)
      by_kind (Format i j) h = absurd (cc)
      by_kind (Begin t) h = absurd (cc)
      by_kind (Forward t q) h = absurd (cc)
      by_kind (Done t q a) h = absurd (cc)
      by_kind (Commit t) h = absurd (cc)
      by_kind (Ended t) h = absurd (cc)
      by_kind (Solo t p q) h = absurd (cc)
      by_kind (AuditClean q) h = absurd (cc)
      by_kind (AuditFail q rs) h = absurd (cc)
      by_kind (Restarted rs ds) h = absurd (cc)
      by_kind (Back t q) h = absurd (cc)

  fresh_for : (r : Record) → stands_by s n Y r ≡ true → (t : ℕ) → IsFreshFor t r (has (begun (last_epoch Y).records) t) (has (committed (last_epoch Y).records) t) (has (ended (last_epoch Y).records) t) (undos_of t (last_epoch Y).records)
  fresh_for r k t h =
      let none : has (begun (last_epoch Y).records) t ≡ false = false_from_ne_true (has (begun (last_epoch Y).records) t) (λ q. let lt : t < number_next Y = w.formed.fresh t q in omega (arith, lt, new_number s n Y r t k h)) in
      let f = w.formed.formed t none in
      (none, f.0, f.1, f.2)

  plain : (r : Record) → separates r ≡ false → stands_by s n Y r ≡ true → Told n (Y ++ r ∷ []) (known_next g r)
  plain r sep k = record {
    some = omega (arith, longer r);
    past = omega (arith, longer r, w.past);
    number = omega (arith, longer r, w.number);
    next = ap (λ m. next_behind m r) w.next ∙ sym (pushed r);
    statuses = λ t.
        ap (λ z. status_next t z r) (by_records s n Y g w t)
        ∙ (stat_step t r sep (has (begun E) t) (has (committed E) t) (has (ended E) t) (undos_of t E) (fresh_for r k t)
        ∙ (rw (has_begun_push E r t, has_committed_push E r t, has_ended_push E r t, undos_of_push t E r) refl
        ∙ (sym (status_is (E ++ r ∷ []) t) ∙ ap (λ (z : Epoch). status_in (table_of z.records) t) (sym now))));
    audits = λ b. audits_of r sep b (begins_audit (Some r)) refl ∙ ap (λ (z : Epoch). (nat_le z.first b && begins_audit (slice_get (Y ++ r ∷ []) b)) || nat_lt b n) (sym now);
    failed =
        failed_is g.failed r sep
        ∙ (ap (λ z. z || is_audit_fail r) w.failed
        ∙ (ap (λ z. list_any is_audit_fail (drop (n - (last_epoch Y).first) E) || z) (sym (or-false (is_audit_fail r)))
        ∙ (sym (list_any-append is_audit_fail (drop (n - (last_epoch Y).first) E) (r ∷ []))
        ∙ (ap (list_any is_audit_fail) (sym (drop-append-le (n - (last_epoch Y).first) E (r ∷ []) inside))
        ∙ ap (λ (z : Epoch). list_any is_audit_fail (records_from n z)) (sym now)))));
    restarted = sym (ap ends_restarted (ap last_of (read r) ∙ last_pushed (drop n Y) r));
    first = ap (λ z. cond z (g.number + 1) g.first) sep ∙ (w.first ∙ ap (λ (z : Epoch). first_from n z) (sym now));
    table = ap (λ z. cond z [] g.table) sep ∙ (w.table ∙ (ap table_of (sym (take-append-le (n - (last_epoch Y).first) E (r ∷ []) inside)) ∙ ap (λ z. table_before z n) (sym now)));
    seen = ap (λ z. cond z [] (g.seen ++ r ∷ [])) sep ∙ (ap (λ z. z ++ r ∷ []) w.seen ∙ (sym (drop-append-le (n - (last_epoch Y).first) E (r ∷ []) inside) ∙ ap (records_from n) (sym now)));
    formed = subst (λ m. Formed m (last_epoch (Y ++ r ∷ [])).records) (sym (pushed r)) (subst (λ (z : Epoch). Formed (next_behind (number_next Y) r) z.records) (sym now) (formed_push s n Y r k w.formed));
  }
    where
      E : List Record
      E = (last_epoch Y).records

      now : last_epoch (Y ++ r ∷ []) ≡ record { first = (last_epoch Y).first; records = (last_epoch Y).records ++ r ∷ [] }
      now = last_push Y r sep

  -- ---- a Restarted
  restarted : (rs ds : List ℕ) → Told n (Y ++ Restarted rs ds ∷ []) (known_next g (Restarted rs ds))
  restarted rs ds = empty_told n (Y ++ Restarted rs ds ∷ []) (known_next g (Restarted rs ds)) (omega (arith, longer (Restarted rs ds))) (omega (arith, longer (Restarted rs ds), w.past)) (omega (arith, longer (Restarted rs ds), w.number))
      (w.next ∙ sym (pushed (Restarted rs ds))) (λ t. idle_anyway t (g.statuses t) rs ds) refl refl
      (sym (ap ends_restarted (ap last_of (read (Restarted rs ds)) ∙ last_pushed (drop n Y) (Restarted rs ds))))
      (omega (arith, longer (Restarted rs ds), w.number)) refl refl
      (epoch_restarted Y rs ds ∙ ap (λ m. record { first = m; records = [] }) (omega (arith, size, longer (Restarted rs ds))))

  pub step : (r : Record) → may_stand s n Y r ≡ true → Told n (Y ++ r ∷ []) (known_next g r)
  step r k = by_kind r (and_parts (stands_by s n Y r) (not (list_any is_audit_fail (records_from n (last_epoch Y))) || is_restarted r) k).0
    where
      by_kind : (q : Record) → stands_by s n Y q ≡ true → Told n (Y ++ q ∷ []) (known_next g q)
      by_kind (Format i h) e = let none : length Y ≡ 0 = eqb-true (length Y) 0 e in absurd (omega (arith, none, w.some))
      by_kind (Begin t) e = plain (Begin t) refl e
      by_kind (Forward t b) e = plain (Forward t b) refl e
      by_kind (Done t c a) e = plain (Done t c a) refl e
      by_kind (Commit t) e = plain (Commit t) refl e
      by_kind (Ended t) e = plain (Ended t) refl e
      by_kind (Solo t p b) e = plain (Solo t p b) refl e
      by_kind AuditBegin e = plain AuditBegin refl e
      by_kind (AuditClean b) e = plain (AuditClean b) refl e
      by_kind (AuditFail b rs) e = plain (AuditFail b rs) refl e
      by_kind (Restarted rs ds) e = restarted rs ds
      by_kind (Back t b) e = plain (Back t b) refl e

-- ---- all records that pass
pub told_on : (s : Sizes) (n : ℕ) (Q Y : List Record) (g k : Known) → Told n Y g → tests s n g Q ≡ Some k → Told n (Y ++ Q) k
told_on s n [] Y g k w e = let same : g ≡ k = some_known g k e in subst (λ X. Told n X k) (sym (append-nil Y)) (subst (Told n Y) same w)
  where
    some_known : (x y : Known) → Some x ≡ Some y → x ≡ y
    some_known x y q = cc
told_on s n (r ∷ Q) Y g k w e = by_test (λ v. told_on s n Q (Y ++ r ∷ []) (known_next g r) k v) (may_follow s n g r) refl e
  where
    by_test : (Told n (Y ++ r ∷ []) (known_next g r) → tests s n (known_next g r) Q ≡ Some k → Told n ((Y ++ r ∷ []) ++ Q) k)
        → (b : Bool) → may_follow s n g r ≡ b → fold (test_next s n) (cond b (Some (known_next g r)) None) Q ≡ Some k → Told n (Y ++ r ∷ Q) k
    by_test ih true f q = subst (λ X. Told n X k) (append_assoc Y (r ∷ []) Q) (ih (step s n Y g w r (sym (rules_are s n Y g w r) ∙ f)) q)
    by_test ih false f q = absurd (none_passes s n Q k q)

-- ---- the start
-- the numbers of a legal log
drawn_is : (s : Sizes) (Y : List Record) (u : ℕ) (k : Rules) → rules_state s (Y ++ Begin u ∷ []) ≡ Some k → u ≡ next_after Y
drawn_is s Y u k e =
    let w : u + 1 ≡ next_after (Y ++ Begin u ∷ []) = next_step s Y (Begin u) k e in
    let more : next_after (Y ++ Begin u ∷ []) ≡ next_after Y + 1 = ap (λ l. length l + 1) (filter_map-append draws Y (Begin u ∷ [])) ∙ omega (arith, length-append (filter_map draws Y) (u ∷ [])) in
    omega (arith, w, more)

pub number_same : (s : Sizes) (P : List Record) → IsLegalFor s P → number_next P ≡ next_after P
number_same s = by_push (λ Y. IsLegalFor s Y → number_next Y ≡ next_after Y) (λ legal. refl) (λ Y r ih legal.
    let k = some_of (rules_state s (Y ++ r ∷ [])) legal.rules in
    fold-append next_behind 1 Y (r ∷ []) ∙ (ap (λ m. next_behind m r) (ih (IsLegalFor-front s Y (r ∷ []) legal)) ∙ next_step s Y r k.0 k.1))

next_rises : (Y : List Record) (r : Record) → next_after Y ≤ next_after (Y ++ r ∷ [])
next_rises Y r = let w : length (filter_map draws (Y ++ r ∷ [])) ≡ length (filter_map draws Y ++ filter_map draws (r ∷ [])) = ap length (filter_map-append draws Y (r ∷ [])) in omega (arith, w, length-append (filter_map draws Y) (filter_map draws (r ∷ [])))

fresh_last : (s : Sizes) (P : List Record) → IsLegalFor s P → (t : ℕ) → has (begun (last_epoch P).records) t ≡ true → t < next_after P
fresh_last s = by_push (λ Y. IsLegalFor s Y → (t : ℕ) → has (begun (last_epoch Y).records) t ≡ true → t < next_after Y) (λ legal t h. absurd (cc)) (λ Y r ih legal t h. by_kind Y r (ih (IsLegalFor-front s Y (r ∷ []) legal)) legal t (separates r) refl h)
  where
    new : (Y : List Record) (r : Record) → IsLegalFor s (Y ++ r ∷ []) → (t : ℕ) → has (begun (r ∷ [])) t ≡ true → t < next_after (Y ++ r ∷ [])
    new Y (Format i j) legal t h = absurd (cc)
    new Y (Begin u) legal t h =
        let k = some_of (rules_state s (Y ++ Begin u ∷ [])) legal.rules in
        let at : u + 1 ≡ next_after (Y ++ Begin u ∷ []) = next_step s Y (Begin u) k.0 k.1 in
        let same : u ≡ t = eqb-true u t (sym (or-false (u == t)) ∙ h) in
        omega (arith, at, same)
    new Y (Forward u b) legal t h = absurd (cc)
    new Y (Done u c a) legal t h = absurd (cc)
    new Y (Commit u) legal t h = absurd (cc)
    new Y (Ended u) legal t h = absurd (cc)
    new Y (Solo u p b) legal t h = absurd (cc)
    new Y AuditBegin legal t h = absurd (cc)
    new Y (AuditClean b) legal t h = absurd (cc)
    new Y (AuditFail b rs) legal t h = absurd (cc)
    new Y (Restarted rs ds) legal t h = absurd (cc)
    new Y (Back u b) legal t h = absurd (cc)

    by_kind : (Y : List Record) (r : Record) → ((t : ℕ) → has (begun (last_epoch Y).records) t ≡ true → t < next_after Y) → IsLegalFor s (Y ++ r ∷ []) → (t : ℕ) → (z : Bool) → separates r ≡ z → has (begun (last_epoch (Y ++ r ∷ [])).records) t ≡ true → t < next_after (Y ++ r ∷ [])
    by_kind Y r ih legal t true e h = let none : has (begun []) t ≡ true = subst (λ X. has (begun X) t ≡ true) (none_now Y r e) h in absurd (cc)
    by_kind Y r ih legal t false e h = ⊎_elim
        (λ a. let lt : t < next_after Y = ih t a in omega (arith, lt, next_rises Y r))
        (λ a. new Y r legal t a)
        (or_cases (has (begun (last_epoch Y).records) t) (has (begun (r ∷ [])) t) (sym (has_begun_push (last_epoch Y).records r t) ∙ subst (λ (z : Epoch). has (begun z.records) t ≡ true) (last_push Y r e) h))

contains_now : (Y : List Record) → Contains (epochs Y) (last_epoch Y)
contains_now Y = contains_from_get (epochs Y) (length (cut Y).closed) (last_epoch Y) (got_last (cut Y).closed (cut Y).now)
  where
    got_last : (es : List Epoch) (e : Epoch) → slice_get (es ++ e ∷ []) (length es) ≡ Some e
    got_last [] e = refl
    got_last (d ∷ es) e = got_last es e

-- the records of a legal log's last epoch are formed
pub formed_last : (s : Sizes) (P : List Record) → IsLegalFor s P → Formed (number_next P) (last_epoch P).records
formed_last s P legal = record { fresh = λ t h. subst (λ m. t < m) (sym (number_same s P legal)) (fresh_last s P legal t h); formed = formed_by }
  where
    E : List Record
    E = (last_epoch P).records

    through : StandsThrough s (last_epoch P)
    through = AllEpochs-contains (StandsThrough s) P (last_epoch P) (stands_in_epochs s P legal) (contains_now P)

    formed_by : (t : ℕ) → has (begun (last_epoch P).records) t ≡ false → (has (committed (last_epoch P).records) t ≡ false) × (has (ended (last_epoch P).records) t ≡ false) × (undos_of t (last_epoch P).records ≡ [])
    formed_by t h = by_state (state_from s t x.0 E) refl x.2
      where
        x : (z : TxnState) × IsStart z × IsSome (state_from s t z (last_epoch P).records)
        x = through.1 t

        by_kind : (y : TxnState) → state_from s t x.0 (last_epoch P).records ≡ Some y → LiesIn t (last_epoch P).records y → Tracks (Some y) (undos_of t (last_epoch P).records) → (has (committed (last_epoch P).records) t ≡ false) × (has (ended (last_epoch P).records) t ≡ false) × (undos_of t (last_epoch P).records ≡ [])
        by_kind Unbegun e l k = (l.1, l.2, k)
        by_kind (Active v) e l k = absurd (both_ways (has (begun E) t) h l.0)
        by_kind (Committed ps) e l k = absurd (both_ways (has (begun E) t) h l.0)
        by_kind Over e l k = ⊎_elim (λ a. absurd (both_ways (has (begun E) t) h a.0)) (λ a. (a.1, a.2, a.3)) l

        by_state : (o : Option TxnState) → state_from s t x.0 (last_epoch P).records ≡ o → IsSome o → (has (committed (last_epoch P).records) t ≡ false) × (has (ended (last_epoch P).records) t ≡ false) × (undos_of t (last_epoch P).records ≡ [])
        by_state None e q = absurd (cc)
        by_state (Some y) e q = by_kind y e (lies s t x.0 E y x.1 through.0 e) (stage s nothing t x.0 E y x.1 through.0 e).tracks
