-- A restart goes on behind each Restarted of the log, and comes to what the whole log says.
use Rattle.dali_history.specs.Marked.{kept_of}
use Rattle.std.specs.Prelude.{Contains, IsSome, fold, max, not, slice_get, ◌&&◌, ◌==◌}
use Rattle.std.proofs.Common.{Bool, List, None, Option, Some, ap, append_assoc, arith, cond, drop, false, length, refl, subst, sym, take, true, ℕ, ◌≡◌, ◌∷◌, ◌++◌, ◌∙◌, ◌+◌, ◌-◌, ◌<◌, []}
use Rattle.std.proofs.lemmas.Bool.{both_ways, false_from_ne_true, or_right, eq-eqb}
use Rattle.std.proofs.lemmas.List.{append-nil}
use Rattle.std.proofs.lemmas.Option.{same_Some}
use Rattle.dali_lists.proofs.Lists.{get_behind}
use Rattle.dali_lists.proofs.Members.{contains_from_get}
use Rattle.dali_lists.proofs.Numbers.{eqb_greater}
use Rattle.dali_lists.proofs.Options.{some_of}
use Rattle.dali_geometry.specs.Places.{formatted_image}
use Rattle.dali_geometry.specs.Sizes.{Sizes}
use Rattle.dali_record.specs.Damage.{damage_of, deleted_list, has, kept_from, marks, rolled_list}
use Rattle.dali_record.specs.Epochs.{Cut, Epoch, cut, cut_step, last_epoch, next_number, recovered_epoch, separates}
use Rattle.dali_record.specs.Files.{is_restarted, next_after, table_before}
use Rattle.dali_record.specs.Legal.{Active, Committed, IsLegalFor, Over, Rules, TxnState, Unbegun, kept_if, restarts, rules_behind, rules_first, rules_next, rules_state, rules_step, txn_next, txn_state, txn_step}
use Rattle.dali_record.specs.Settled.{redo_all}
use Rattle.dali_record.specs.declared.records.Record.{Record}
use Rattle.dali_record.specs.declared.records.Record.TheVariants.{AuditBegin, AuditClean, AuditFail, Back, Begin, Commit, Done, Ended, Format, Forward, Restarted, Solo}
use Rattle.dali_record.proofs.Batches.{last_push, recovered_push, recovered_restarted, number_is_length}
use Rattle.dali_record.proofs.EpochRules.{format_first, rules_before}
use Rattle.dali_record.proofs.Pushes.{cut_push, rules_state_push, txn_state_push}
use Rattle.dali_history.specs.History.{AreSpelled}
use Rattle.dali_history.specs.Recovered.{base_of, freed, losers, recover, roll_back, undos_left}
use Rattle.dali_history.proofs.Prefixes.{IsLegalFor-front}
use Rattle.dali_history.proofs.Spelled.{AreSpelled-front}
use Rattle.dali_history.proofs.Bases.{base_of-restarted}
use Rattle.dali_runs.proofs.CountsLemmas.SmallLogs.{next_is_small}
use Rattle.dali_runs.proofs.CountsLemmas.Tallies.{numbers_drawn, tallies}
use Rattle.dali_crash.specs.Fitting.{recover_from}
use Rattle.dali_resume.specs.Laws.{MayResume, damage_behind}
use Rattle.dali_resume.specs.Onward.{Going, closed_image, going_next}
use Rattle.dali_resume.specs.Resumed.{damage_from, deleted_by, records_from, recover_by, rolled_by, scan}
use Rattle.dali_resume.specs.Tests.{Idle, Running, Status, Waiting, known_next, may_follow, same_numbers, status_next, tells_lists, test_next, tests}
use Rattle.dali_resume.proofs.Audits.{clean_rises}
use Rattle.dali_resume.proofs.Joined.{recovers_alike, reports_alike, kept_at}
use Rattle.dali_resume.proofs.Resumes.{table_of}
use Rattle.dali_resume.proofs.Tested.{Related, plain_step, status}

-- ---- an epoch from its first record on
-- a difference of a number with itself, in what an epoch is recovered by
open_may : (s : Sizes) (Y : List Record) → IsLegalFor s Y → AreSpelled Y → MayResume s Y (last_epoch Y) (last_epoch Y).first
open_may s Y legal spelled = record {
  legal = legal;
  spelled = spelled;
  epoch = contains_last (cut Y).closed (cut Y).now;
  certified = clean_rises (last_epoch Y).records (last_epoch Y).first;
}
  where
    got_last : (es : List Epoch) (e : Epoch) → slice_get (es ++ e ∷ []) (length es) ≡ Some e
    got_last [] e = refl
    got_last (d ∷ es) e = got_last es e

    contains_last : (es : List Epoch) (e : Epoch) → Contains (es ++ e ∷ []) e
    contains_last es e = contains_from_get (es ++ e ∷ []) (length es) e (got_last es e)

-- ---- what holds behind a Restarted that was read
pub record Open (s : Sizes) (n : ℕ) (Y : List Record) (c : Going) : Type 0 where
  pub rules : Rules
  pub states : ℕ → TxnState
  pub rules_are : rules_state s Y ≡ Some rules
  pub states_are : (t : ℕ) → txn_state s t Y ≡ Some (states t)
  pub related : Related n c.known rules states
  pub past : n < c.known.number
  pub image : c.image ≡ base_of s Y
  pub first : c.known.first ≡ (last_epoch Y).first
  pub table : c.known.table ≡ []
  pub seen : c.known.seen ≡ (last_epoch Y).records
  pub told : c.known.restarted ≡ true → ((last_epoch Y).records ≡ []) × (c.rolled ≡ rolled_list (recovered_epoch Y)) × (c.deleted ≡ deleted_list (recovered_epoch Y))
  pub untold : c.known.restarted ≡ false → recovered_epoch Y ≡ last_epoch Y

module _ (s : Sizes) (Y : List Record) (legal : IsLegalFor s Y) (spelled : AreSpelled Y) where
  abbrev e : Epoch
  e = last_epoch Y

  none_before : e.first - e.first ≡ 0
  none_before = omega arith

  first_is : max e.first e.first ≡ e.first
  first_is = omega arith

  may : MayResume s Y (last_epoch Y) (last_epoch Y).first
  may = open_may s Y legal spelled

  abbrev ms : List (Record × Bool)
  ms = marks (damage_of e) e.records

  pub open_recovers : (base : List (List ℕ)) → recover_by s base (damage_from (last_epoch Y).first (last_epoch Y).records) [] (last_epoch Y).records ≡ recover s base (last_epoch Y)
  open_recovers base =
      let all : recover_from s base e.first e ≡ recover_by s base (damage_behind e e.first) (table_before e e.first) (records_from e.first e) = recovers_alike s Y e e.first may base in
      let flat = subst (λ k. freed s (fold (λ im t. roll_back im (undos_left ms t)) (redo_all base (kept_from (take k ms) (drop k ms))) (losers e ms)) ≡ recover_by s base (damage_from (max e.first e.first) (drop k e.records)) (table_of (take k e.records)) (drop k e.records)) none_before all in
      sym (subst (λ p. recover s base e ≡ recover_by s base (damage_from p e.records) [] e.records) first_is flat)

  pub open_kept : (scan (damage_from (last_epoch Y).first (last_epoch Y).records) [] (last_epoch Y).records).kept ≡ kept_of (last_epoch Y)
  open_kept =
      let flat = subst (λ k. kept_from (take k ms) (drop k ms) ≡ (scan (damage_from (max e.first e.first) (drop k e.records)) (table_of (take k e.records)) (drop k e.records)).kept) none_before (kept_at s Y e e.first may) in
      sym (subst (λ p. kept_of (last_epoch Y) ≡ (scan (damage_from p e.records) [] e.records).kept) first_is flat)

  pub open_rolled : rolled_by [] (last_epoch Y).records ≡ rolled_list (last_epoch Y)
  open_rolled = sym (subst (λ k. rolled_list e ≡ rolled_by (table_of (take k e.records)) (drop k e.records)) none_before (reports_alike s Y e e.first may).0)

  pub open_deleted : deleted_by [] (last_epoch Y).records (scan (damage_from (last_epoch Y).first (last_epoch Y).records) [] (last_epoch Y).records) ≡ deleted_list (last_epoch Y)
  open_deleted =
      let flat = subst (λ k. deleted_list e ≡ deleted_by (table_of (take k e.records)) (drop k e.records) (scan (damage_from (max e.first e.first) (drop k e.records)) (table_of (take k e.records)) (drop k e.records))) none_before (reports_alike s Y e e.first may).1 in
      sym (subst (λ p. deleted_list e ≡ deleted_by [] e.records (scan (damage_from p e.records) [] e.records)) first_is flat)

-- ---- one record more

pub same_list : (xs ys : List ℕ) → xs ≡ ys → same_numbers xs ys ≡ true
same_list xs ys h = subst (λ zs. same_numbers xs zs ≡ true) h (self xs)
  where
    self : (zs : List ℕ) → same_numbers zs zs ≡ true
    self [] = refl
    self (z ∷ zs) = rw (eq-eqb z z refl) (self zs)

take_front : (A B : List Record) → take (length A) (A ++ B) ≡ A
take_front [] B = refl
take_front (a ∷ A) B = ap (λ X. a ∷ X) (take_front A B)

-- the lists of a Restarted that a legal log has behind Y
pub told_lists : (s : Sizes) (Y : List Record) (rs ds : List ℕ) → IsLegalFor s (Y ++ Restarted rs ds ∷ []) → (rs ≡ rolled_list (last_epoch Y)) × (ds ≡ deleted_list (last_epoch Y))
told_lists s Y rs ds legal =
    let w = legal.scans (length Y) rs ds (get_behind Y (Restarted rs ds) []) in
    (w.0 ∙ ap (λ M. rolled_list (last_epoch M)) (take_front Y (Restarted rs ds ∷ [])), w.1 ∙ ap (λ M. deleted_list (last_epoch M)) (take_front Y (Restarted rs ds ∷ [])))

idle_after : (s : Sizes) (t : ℕ) (x y : TxnState) (rs ds : List ℕ) → txn_step s t x (Restarted rs ds) ≡ Some y → status y ≡ Idle
idle_after s t Unbegun y rs ds h = let same : Unbegun ≡ y = same_Some Unbegun y h in ap status (sym same)
idle_after s t (Active w) y rs ds h = let same : Over ≡ y = same_Some Over y h in ap status (sym same)
idle_after s t (Committed ps) y rs ds h = let same : Over ≡ y = same_Some Over y h in ap status (sym same)
idle_after s t Over y rs ds h = let same : Over ≡ y = same_Some Over y h in ap status (sym same)

pub idle_anyway : (t : ℕ) (z : Status) (rs ds : List ℕ) → status_next t z (Restarted rs ds) ≡ Idle
idle_anyway t Idle rs ds = refl
idle_anyway t (Running us) rs ds = refl
idle_anyway t Waiting rs ds = refl

-- what the rules say of a Restarted
pub restart_rule : (s : Sizes) (g h : Rules) (rs ds : List ℕ) → rules_step s g (Restarted rs ds) ≡ Some h → (g.restarted ≡ false) × (h ≡ restarts g (Restarted rs ds))
restart_rule s g h rs ds e = by_test (g.count == 0) e
  where
    by_kept : (c : Bool) → kept_if (not c) (restarts g (Restarted rs ds)) ≡ Some h → (c ≡ false) × (h ≡ restarts g (Restarted rs ds))
    by_kept true p = absurd (cc)
    by_kept false p = (refl, sym (same_Some (restarts g (Restarted rs ds)) h p))

    by_test : (c : Bool) → cond c (rules_first s g (Restarted rs ds)) (rules_behind s g (Restarted rs ds)) ≡ Some h → (g.restarted ≡ false) × (h ≡ restarts g (Restarted rs ds))
    by_test true p = absurd (cc)
    by_test false p = by_kept g.restarted p

pub epoch_restarted : (Y : List Record) (rs ds : List ℕ) → last_epoch (Y ++ Restarted rs ds ∷ []) ≡ record { first = next_number (last_epoch Y) + 1; records = [] }
epoch_restarted Y rs ds = ap (λ (c : Cut). c.now) (cut_push Y (Restarted rs ds))

-- a Restarted behind a front Y, of which the state before tells what recovers it
module _ (s : Sizes) (n : ℕ) (Y : List Record) (c : Going) (rs ds : List ℕ)
    (legal : IsLegalFor s (Y ++ Restarted rs ds ∷ []))
    (number : c.known.number ≡ length Y) (next : c.known.next ≡ next_after Y) (past : n < length Y + 1)
    (image : (going_next s n c (Restarted rs ds)).image ≡ recover s (base_of s Y) (last_epoch Y)) where
  h : (k : Rules) × (rules_state s (Y ++ Restarted rs ds ∷ []) ≡ Some k)
  h = some_of (rules_state s (Y ++ Restarted rs ds ∷ [])) legal.rules

  x : (t : ℕ) → (y : TxnState) × (txn_state s t (Y ++ Restarted rs ds ∷ []) ≡ Some y)
  x t = some_of (txn_state s t (Y ++ Restarted rs ds ∷ [])) (legal.txns t)

  before : (g : Rules) × (rules_state s Y ≡ Some g) × (rules_step s g (Restarted rs ds) ≡ Some h.0)
  before = rules_before s Y (Restarted rs ds) h.0 h.1

  rule : (before.0.restarted ≡ false) × (h.0 ≡ restarts before.0 (Restarted rs ds))
  rule = restart_rule s before.0 h.0 rs ds before.2

  tally : (before.0.count ≡ length Y) × (before.0.next ≡ next_after Y)
  tally = let w = tallies s Y before.0 before.1 in (w.0, w.2 ∙ numbers_drawn Y)

  idle : (t : ℕ) → status (x t).0 ≡ Idle
  idle t = by_state (txn_state s t Y) (sym (txn_state_push s t Y (Restarted rs ds)) ∙ (x t).1)
    where
      by_state : (o : Option TxnState) → txn_next s t o (Restarted rs ds) ≡ Some (x t).0 → status (x t).0 ≡ Idle
      by_state None q = absurd (cc)
      by_state (Some z) q = idle_after s t z (x t).0 rs ds q

  told : (rs ≡ rolled_list (last_epoch Y)) × (ds ≡ deleted_list (last_epoch Y))
  told = told_lists s Y rs ds legal

  pub opens : Open s n (Y ++ Restarted rs ds ∷ []) (going_next s n c (Restarted rs ds))
  opens = record {
    rules = h.0;
    states = λ t. (x t).0;
    rules_are = h.1;
    states_are = λ t. (x t).1;
    related = record {
      number = omega (arith, number, tally.0, ap (λ (k : Rules). k.count) rule.1);
      next = next ∙ (sym tally.1 ∙ sym (ap (λ (k : Rules). k.next) rule.1));
      statuses = λ t. idle_anyway t (c.known.statuses t) rs ds ∙ sym (idle t);
      audits = λ b q. let z : has [] b ≡ true = subst (λ bs. has bs b ≡ true) (ap (λ (k : Rules). k.audits) rule.1) q in absurd (cc);
      failed = λ q. absurd (cc);
      restarted = λ q. ap (λ (k : Rules). k.restarted) rule.1;
    };
    past = omega (arith, past, number);
    image = image ∙ sym (base_of-restarted s Y rs ds);
    first = omega (arith, number, number_is_length Y, ap (λ (z : Epoch). z.first) (epoch_restarted Y rs ds));
    table = refl;
    seen = sym (ap (λ (z : Epoch). z.records) (epoch_restarted Y rs ds));
    told = λ q. (
      ap (λ (z : Epoch). z.records) (epoch_restarted Y rs ds),
      told.0 ∙ sym (ap rolled_list (recovered_restarted Y rs ds)),
      told.1 ∙ sym (ap deleted_list (recovered_restarted Y rs ds)),
    );
    untold = λ q. absurd (cc);
  }

pub plain_closed : (c : Cut) (r : Record) → separates r ≡ false → (cut_step c r).closed ≡ c.closed
plain_closed c (Format i j) w = absurd (cc)
plain_closed c (Restarted rs ds) w = absurd (cc)
plain_closed c _ w = refl

-- ---- a step from such a state
abbrev Step : Sizes → ℕ → List Record → Going → Record → Type 0
Step s n Y c r = (may_follow s n c.known r ≡ true) × Open s n (Y ++ r ∷ []) (going_next s n c r)

module _ (s : Sizes) (n : ℕ) (Y : List Record) (c : Going) (open' : Open s n Y c) where
  front_is : (r : Record) → IsLegalFor s (Y ++ r ∷ []) → IsLegalFor s Y
  front_is r legal = IsLegalFor-front s Y (r ∷ []) legal

  not_restart : (r : Record) → separates r ≡ false → is_restarted r ≡ false
  not_restart (Format i j) w = refl
  not_restart (Begin t) w = refl
  not_restart (Forward t b) w = refl
  not_restart (Done t q a) w = refl
  not_restart (Commit t) w = refl
  not_restart (Ended t) w = refl
  not_restart (Solo t p b) w = refl
  not_restart AuditBegin w = refl
  not_restart (AuditClean b) w = refl
  not_restart (AuditFail b rs) w = refl
  not_restart (Restarted rs ds) w = absurd (cc)
  not_restart (Back t b) w = refl

  plain : (r : Record) → separates r ≡ false → IsLegalFor s (Y ++ r ∷ []) → Step s n Y c r
  plain r w legal = (
    stepped.0,
    record {
      rules = h.0;
      states = λ t. (x t).0;
      rules_are = h.1;
      states_are = λ t. (x t).1;
      related = stepped.1;
      past = omega (arith, open'.past);
      image = ap (λ b. cond (b && not (c.known.number == n)) (closed_image s c) c.image) (not_restart r w) ∙ (open'.image ∙ base_plain);
      first = ap (λ b. cond b (c.known.number + 1) c.known.first) w ∙ (open'.first ∙ sym (ap (λ (z : Epoch). z.first) (last_push Y r w)));
      table = ap (λ b. cond b [] c.known.table) w ∙ open'.table;
      seen = ap (λ b. cond b [] (c.known.seen ++ r ∷ [])) w ∙ (ap (λ X. X ++ r ∷ []) open'.seen ∙ sym (ap (λ (z : Epoch). z.records) (last_push Y r w)));
      told = λ q. absurd (both_ways (is_restarted r) (not_restart r w) q);
      untold = λ q. recovered_push Y r w;
    },
  )
    where
      h : (k : Rules) × (rules_state s (Y ++ r ∷ []) ≡ Some k)
      h = some_of (rules_state s (Y ++ r ∷ [])) legal.rules

      x : (t : ℕ) → (y : TxnState) × (txn_state s t (Y ++ r ∷ []) ≡ Some y)
      x t = some_of (txn_state s t (Y ++ r ∷ [])) (legal.txns t)

      step : rules_step s open'.rules r ≡ Some h.0
      step = ap (λ o. rules_next s o r) (sym open'.rules_are) ∙ (sym (rules_state_push s Y r) ∙ h.1)

      moves : (t : ℕ) → txn_step s t (open'.states t) r ≡ Some (x t).0
      moves t = ap (λ o. txn_next s t o r) (sym (open'.states_are t)) ∙ (sym (txn_state_push s t Y r) ∙ (x t).1)

      stepped : (may_follow s n c.known r ≡ true) × Related n (known_next c.known r) h.0 (λ t. (x t).0)
      stepped = plain_step s n c.known open'.rules h.0 open'.states (λ t. (x t).0) open'.related (next_is_small s (Y ++ r ∷ []) h.0 legal h.1) r w step moves

      base_plain : base_of s Y ≡ base_of s (Y ++ r ∷ [])
      base_plain = sym (ap (λ (k : Cut). fold (recover s) (formatted_image s) k.closed) (cut_push Y r) ∙ ap (fold (recover s) (formatted_image s)) (plain_closed (cut Y) r w))

  restart : (rs ds : List ℕ) → IsLegalFor s (Y ++ Restarted rs ds ∷ []) → AreSpelled Y → Step s n Y c (Restarted rs ds)
  restart rs ds legal spelled = (
    rw (once, lists, or_right (c.known.number == n) true refl, or_right (not c.known.failed) true refl) refl,
    opens s n Y c rs ds legal number next (omega (arith, open'.past, number)) image,
  )
    where
      front : IsLegalFor s Y
      front = front_is (Restarted rs ds) legal

      tally : (open'.rules.count ≡ length Y) × (open'.rules.next ≡ next_after Y)
      tally = let w = tallies s Y open'.rules open'.rules_are in (w.0, w.2 ∙ numbers_drawn Y)

      number : c.known.number ≡ length Y
      number = open'.related.number ∙ tally.0

      next : c.known.next ≡ next_after Y
      next = open'.related.next ∙ tally.1

      h : (k : Rules) × (rules_state s (Y ++ Restarted rs ds ∷ []) ≡ Some k)
      h = some_of (rules_state s (Y ++ Restarted rs ds ∷ [])) legal.rules

      rule : (open'.rules.restarted ≡ false) × (h.0 ≡ restarts open'.rules (Restarted rs ds))
      rule = restart_rule s open'.rules h.0 rs ds (ap (λ o. rules_next s o (Restarted rs ds)) (sym open'.rules_are) ∙ (sym (rules_state_push s Y (Restarted rs ds)) ∙ h.1))

      once : c.known.restarted ≡ false
      once = false_from_ne_true c.known.restarted (λ q. both_ways open'.rules.restarted rule.0 (open'.related.restarted q))

      told : (rs ≡ rolled_list (last_epoch Y)) × (ds ≡ deleted_list (last_epoch Y))
      told = told_lists s Y rs ds legal

      rolled_same : rs ≡ rolled_by c.known.table c.known.seen
      rolled_same = told.0 ∙ (sym (open_rolled s Y front spelled) ∙ rw (open'.table, open'.seen) refl)

      deleted_same : ds ≡ deleted_by c.known.table c.known.seen (scan (damage_from c.known.first c.known.seen) c.known.table c.known.seen)
      deleted_same = told.1 ∙ (sym (open_deleted s Y front spelled) ∙ rw (open'.table, open'.seen, open'.first) refl)

      lists : tells_lists c.known rs ds ≡ true
      lists = rw (same_list rs (rolled_by c.known.table c.known.seen) rolled_same, same_list ds (deleted_by c.known.table c.known.seen (scan (damage_from c.known.first c.known.seen) c.known.table c.known.seen)) deleted_same) refl

      image : (going_next s n c (Restarted rs ds)).image ≡ recover s (base_of s Y) (last_epoch Y)
      image =
          ap (λ b. cond (not b) (closed_image s c) c.image) (eqb_greater c.known.number n open'.past)
          ∙ (rw (open'.table, open'.seen, open'.first, open'.image) refl ∙ open_recovers s Y front spelled (base_of s Y))

  format : (i k : ℕ) → IsLegalFor s (Y ++ Format i k ∷ []) → Step s n Y c (Format i k)
  format i k legal =
      let h = some_of (rules_state s (Y ++ Format i k ∷ [])) legal.rules in
      let tally = tallies s Y open'.rules open'.rules_are in
      absurd (omega (arith, open'.past, open'.related.number, tally.0, ap length (format_first s Y i k h.0 h.1)))

  step : (r : Record) → IsLegalFor s (Y ++ r ∷ []) → AreSpelled Y → Step s n Y c r
  step (Format i k) legal spelled = format i k legal
  step (Begin t) legal spelled = plain (Begin t) refl legal
  step (Forward t b) legal spelled = plain (Forward t b) refl legal
  step (Done t q a) legal spelled = plain (Done t q a) refl legal
  step (Commit t) legal spelled = plain (Commit t) refl legal
  step (Ended t) legal spelled = plain (Ended t) refl legal
  step (Solo t p b) legal spelled = plain (Solo t p b) refl legal
  step AuditBegin legal spelled = plain AuditBegin refl legal
  step (AuditClean b) legal spelled = plain (AuditClean b) refl legal
  step (AuditFail b rs) legal spelled = plain (AuditFail b rs) refl legal
  step (Restarted rs ds) legal spelled = restart rs ds legal spelled
  step (Back t b) legal spelled = plain (Back t b) refl legal

-- ---- all records behind a Restarted that was read
pub record Passed (s : Sizes) (n : ℕ) (Y : List Record) (c : Going) (Z : List Record) : Type 0 where
  pub tested : IsSome (tests s n c.known Z)
  pub ends : Open s n (Y ++ Z) (fold (going_next s n) c Z)

pub passes_on : (s : Sizes) (n : ℕ) (Z Y : List Record) (c : Going) → Open s n Y c → IsLegalFor s (Y ++ Z) → AreSpelled (Y ++ Z) → Passed s n Y c Z
passes_on s n [] Y c open' legal spelled = record { tested = refl; ends = subst (λ X. Open s n X c) (sym (append-nil Y)) open' }
passes_on s n (r ∷ Z) Y c open' legal spelled = then (passes_on s n Z (Y ++ r ∷ []) (going_next s n c r) stepped.1 (subst (IsLegalFor s) parts legal) (subst AreSpelled parts spelled))
  where
    parts : Y ++ r ∷ Z ≡ (Y ++ r ∷ []) ++ Z
    parts = sym (append_assoc Y (r ∷ []) Z)

    stepped : (may_follow s n c.known r ≡ true) × Open s n (Y ++ r ∷ []) (going_next s n c r)
    stepped = step s n Y c open' r (IsLegalFor-front s (Y ++ r ∷ []) Z (subst (IsLegalFor s) parts legal)) (AreSpelled-front Y (r ∷ Z) spelled)

    then : Passed s n (Y ++ r ∷ []) (going_next s n c r) Z → Passed s n Y c (r ∷ Z)
    then p = record {
      tested = subst (λ b. IsSome (fold (test_next s n) (cond b (Some (known_next c.known r)) None) Z)) (sym stepped.0) p.tested;
      ends = subst (λ X. Open s n X (fold (going_next s n) (going_next s n c r) Z)) (sym parts) p.ends;
    }
