-- The records behind the image of files that fit pass the tests of a restart.
use Rattle.std.proofs.Common.{◌≡◌, ℕ, suc, ◌+◌, ◌-◌, ◌<◌, ◌≤◌, ◌^◌, Bool, true, false, cond, List, [], ◌∷◌, ◌++◌, length, take, drop, map, Option, Some, None, refl, ap, sym, subst, ◌∙◌, ⊎_elim, append_assoc, arith}
use Rattle.std.specs.Prelude.{not, ◌==◌, fold, filter_map, IsSome, slice_get, nat_lt, max}
use Rattle.std.proofs.lemmas.List.{append-nil, take-append-drop, length-append, length-drop, take_at, drop_at, length-take-le}
use Rattle.std.proofs.lemmas.List.Elements.{filter_map-append}
use Rattle.std.proofs.lemmas.List.Folds.{fold_stays}
use Rattle.std.proofs.lemmas.List.Sums.{fold-append}
use Rattle.std.proofs.lemmas.Bool.{cases_lt, both_ways, false_from_ne_true, or_right, lt-ltb, eq-eqb, eqb-true}
use mathlib.Core.Bool.{and-false}
use Rattle.dali_lists.proofs.Lists.{get_behind}
use Rattle.dali_geometry.specs.Sizes.{Sizes}
use Rattle.dali_record.specs.declared.records.Record.{Record}
use Rattle.dali_record.specs.declared.records.Record.TheVariants.{Format, Begin, Forward, Done, Commit, Ended, Solo, AuditBegin, AuditClean, AuditFail, Restarted, Back}
use Rattle.dali_record.specs.Log.{undos_of, committed, ended}
use Rattle.dali_record.specs.Epochs.{Epoch, separates, last_epoch, recovered_epoch, cut, cut_step}
use Rattle.dali_record.specs.Damage.{has, rolled_list, deleted_list}
use Rattle.dali_record.specs.Legal.{TxnState, Unbegun, Active, Committed, Over, txn_next, Rules, rules_start, restarts, kept_if, rules_first, rules_behind, rules_step, rules_next, rules_state, IsLegalFor}
use Rattle.dali_record.specs.Files.{Files, row_of, table_before, next_after, draws}
use Rattle.dali_record.proofs.Pushes.{cut_push}
use Rattle.dali_record.proofs.Scans.{take_get}
use Rattle.dali_record.proofs.Tracks.{Tracks}
use Rattle.dali_record.proofs.Stages.{state_from, IsWithin, stage}
use Rattle.dali_record.proofs.Survivors.{StandsIn}
use Rattle.dali_record.proofs.Batches.{recovered_restarted, number_is_length}
use Rattle.dali_record.proofs.EpochRules.{StandsThrough, stands_in_epochs, AllEpochs-contains, format_first, rules_before}
use Rattle.dali_history.specs.History.{AreSpelled}
use Rattle.dali_history.proofs.Prefixes.{IsLegalFor-front}
use Rattle.dali_runs.proofs.CountsLemmas.Tallies.{tallies, numbers_drawn}
use Rattle.dali_runs.proofs.CountsLemmas.SmallLogs.{next_is_small}
use Rattle.dali_crash.specs.Fitting.{FitsWhole}
use Rattle.dali_crash.proofs.Fitting.{within_epoch}
use Rattle.dali_resume.specs.Resumed.{records_from, damage_from, scan, rolled_by, deleted_by}
use Rattle.dali_resume.specs.Tests.{Idle, Running, Waiting, Known, known_at, status_in, status_next, tells_lists, may_follow, known_next, test_next, tests}
use Rattle.dali_resume.specs.Laws.{MayResume, PassesTests}
use Rattle.dali_resume.proofs.Standing.{LiesIn, lies, nothing, IsWithin-parts}
use Rattle.dali_resume.proofs.Resumes.{running, table_of, has_running}
use Rattle.dali_resume.proofs.Audits.{audited_now, front_some, format_step}
use Rattle.dali_resume.proofs.Reading.{Placed, placed, IsEnd, IsLed, get_then, near}
use Rattle.dali_resume.proofs.Joined.{reports_alike}
use Rattle.dali_resume.proofs.FromFiles.{may_resume}
use Rattle.dali_resume.proofs.Tested.{status, Related}
use Rattle.dali_resume.proofs.Walks.{Walked, walk}
use Rattle.dali_resume.proofs.Onward.{same_list}

-- ---- the table's statuses
pub status_in_is : (P : List Record) (ts : List ℕ) (t : ℕ) → status_in (map (row_of P) ts) t ≡ cond (has ts t) (cond (has (committed P) t) Waiting (Running (cond (has (committed P) t) [] (undos_of t P)))) Idle
status_in_is P [] t = refl
status_in_is P (u ∷ ts) t = by_test (status_in_is P ts t) (u == t) refl
  where
    by_test : status_in (map (row_of P) ts) t ≡ cond (has ts t) (cond (has (committed P) t) Waiting (Running (cond (has (committed P) t) [] (undos_of t P)))) Idle → (b : Bool) → (u == t) ≡ b
        → status_in (map (row_of P) (u ∷ ts)) t ≡ cond (has (u ∷ ts) t) (cond (has (committed P) t) Waiting (Running (cond (has (committed P) t) [] (undos_of t P)))) Idle
    by_test ih true e = rw e (ap (λ v. cond (has (committed P) v) Waiting (Running (cond (has (committed P) v) [] (undos_of v P)))) (eqb-true u t e))
    by_test ih false e = rw e ih

pub status_row : (P : List Record) (t : ℕ) (x : TxnState) → LiesIn t P x → Tracks (Some x) (undos_of t P) → status_in (table_of P) t ≡ status x
status_row P t Unbegun h k = status_in_is P (running P) t ∙ rw (has_running P t, h.0, and-false (not (has (ended P) t))) refl
status_row P t (Active w) h k = status_in_is P (running P) t ∙ rw (has_running P t, h.0, h.1, h.2) (ap Running (sym k))
status_row P t (Committed ps) h k = status_in_is P (running P) t ∙ rw (has_running P t, h.0, h.1, h.2) refl
status_row P t Over h k = status_in_is P (running P) t ∙ ⊎_elim (λ a. rw (has_running P t, a.1) refl) (λ a. rw (has_running P t, a.0, and-false (not (has (ended P) t))) refl) h

-- a transaction behind P, before R
pub state_at : (s : Sizes) (P R : List Record) (t : ℕ) → IsWithin (P ++ R) → StandsIn s (P ++ R) t → (x : TxnState) × (status_in (table_of P) t ≡ status x) × IsSome (state_from s t x R)
state_at s P R t within w = by_state (state_from s t w.0 P) refl (subst IsSome (fold-append (txn_next s t) (Some w.0) P R) w.2)
  where
    front : IsWithin P
    front = (IsWithin-parts P R within).0

    by_state : (o : Option TxnState) → state_from s t w.0 P ≡ o → IsSome (fold (txn_next s t) o R) → (x : TxnState) × (status_in (table_of P) t ≡ status x) × IsSome (state_from s t x R)
    by_state None f g = let z : false ≡ true = rw (fold_stays (txn_next s t) None (λ r. refl) R) at g in absurd (cc)
    by_state (Some x) f g = (x, status_row P t x (lies s t w.0 P x w.1 front f) (stage s nothing t w.0 P x w.1 front f).tracks, g)

-- ---- the end: nothing, or one record that separates epochs
pub finish :
    (s : Sizes) (n : ℕ) (g : Known) (h : Rules) (x : ℕ → TxnState) (C : List Record)
    → Related n g h x → IsEnd C → length C ≤ 1 → IsSome (fold (rules_next s) (Some h) C)
    → ((i k : ℕ) → C ≡ Format i k ∷ [] → (g.number ≡ 0) × (g.failed ≡ false))
    → ((rs ds : List ℕ) → C ≡ Restarted rs ds ∷ [] → tells_lists g rs ds ≡ true)
    → IsSome (fold (test_next s n) (Some g) C)
finish s n g h x [] rel end few some format lists = refl
finish s n g h x (y ∷ z ∷ C) rel end few some format lists = absurd (omega (arith, few))
finish s n g h x (Format i k ∷ []) rel end few some format lists =
    let w = format i k refl in
    let zero_is : (g.number == 0) ≡ true = eq-eqb g.number 0 w.0 in
    rw (zero_is, w.1) refl
finish s n g h x (Restarted rs ds ∷ []) rel end few some format lists = rw (once, lists rs ds refl, or_right (g.number == n) true refl, or_right (not g.failed) true refl) refl
  where
    by_step : (o : Option Rules) → rules_step s h (Restarted rs ds) ≡ o → IsSome o → h.restarted ≡ false
    by_step None e q = absurd (cc)
    by_step (Some k) e q = by_test (h.count == 0) e
      where
        by_kept : (c : Bool) → kept_if (not c) (restarts h (Restarted rs ds)) ≡ Some k → c ≡ false
        by_kept true p = absurd (cc)
        by_kept false p = refl

        by_test : (c : Bool) → cond c (rules_first s h (Restarted rs ds)) (rules_behind s h (Restarted rs ds)) ≡ Some k → h.restarted ≡ false
        by_test true p = absurd (cc)
        by_test false p = by_kept h.restarted p

    once : g.restarted ≡ false
    once = false_from_ne_true g.restarted (λ q. both_ways h.restarted (by_step (rules_step s h (Restarted rs ds)) refl some) (rel.restarted q))
finish s n g h x (Back t b ∷ []) rel end few some format lists = absurd (cc)
finish s n g h x _ rel end few some format lists = absurd (cc)

restart_knows : (s : Sizes) (h k : Rules) (rs ds : List ℕ) → rules_step s h (Restarted rs ds) ≡ Some k → (k.audits ≡ []) × (k.restarted ≡ true)
restart_knows s h k rs ds e = by_test (h.count == 0) e
  where
    by_kept : (c : Bool) → kept_if c (restarts h (Restarted rs ds)) ≡ Some k → (k.audits ≡ []) × (k.restarted ≡ true)
    by_kept true p = let same : restarts h (Restarted rs ds) ≡ k = some_rules (restarts h (Restarted rs ds)) k p in (sym (ap (λ (z : Rules). z.audits) same), sym (ap (λ (z : Rules). z.restarted) same))
      where
        some_rules : (a b : Rules) → Some a ≡ Some b → a ≡ b
        some_rules a b q = cc
    by_kept false p = absurd (cc)

    by_test : (c : Bool) → cond c (rules_first s h (Restarted rs ds)) (rules_behind s h (Restarted rs ds)) ≡ Some k → (k.audits ≡ []) × (k.restarted ≡ true)
    by_test true p = absurd (cc)
    by_test false p = by_kept (not h.restarted) p

pub undrawn : (X : List Record) (r : Record) → draws r ≡ None → next_after (X ++ r ∷ []) ≡ next_after X
undrawn X r none = ap (λ l. length l + 1) (filter_map-append draws X (r ∷ []) ∙ (ap (λ l. filter_map draws X ++ l) (rw none refl) ∙ append-nil (filter_map draws X)))

module _ (s : Sizes) (base : List (List ℕ)) (L : List Record) (F : Files) (e : Epoch) (fit : FitsWhole s base L F e) (legal : IsLegalFor s L) (spelled : AreSpelled L) where
  abbrev n : ℕ
  n = F.first

  abbrev P : List Record
  P = take (F.first - e.first) e.records

  abbrev R : List Record
  R = drop (F.first - e.first) e.records

  here : Placed L e × (e.first ≤ F.first + 1)
  here = placed s L e F.first legal.rules fit.fits.epoch

  abbrev C : List Record
  C = here.0.behind

  inside : F.first - e.first ≤ length e.records
  inside = within_epoch F.first L e fit.fits.count fit.fits.epoch

  split : take (F.first - e.first) e.records ++ drop (F.first - e.first) e.records ≡ e.records
  split = take-append-drop (F.first - e.first) e.records

  may : MayResume s L e F.first
  may = may_resume s base L F e fit legal spelled

  through : StandsThrough s e
  through = AllEpochs-contains (StandsThrough s) L e (stands_in_epochs s L legal) may.epoch

  within : IsWithin (take (F.first - e.first) e.records ++ drop (F.first - e.first) e.records)
  within = subst IsWithin (sym split) through.0

  state : (t : ℕ) → (x : TxnState) × (status_in (table_of (take (F.first - e.first) e.records)) t ≡ status x) × IsSome (state_from s t x (drop (F.first - e.first) e.records))
  state t = state_at s P R t within (subst (λ E. StandsIn s E t) (sym split) (through.1 t))

  -- the log up to the first record that is tested as one of the epoch
  abbrev X : List Record
  X = take e.first L ++ take (F.first - e.first) e.records

  whole : (take e.first L ++ take (F.first - e.first) e.records) ++ (drop (F.first - e.first) e.records ++ here.0.behind) ≡ L
  whole =
      append_assoc (take e.first L) P (R ++ C)
      ∙ (ap (λ Z. take e.first L ++ Z) (sym (append_assoc P R C) ∙ (ap (λ Z. Z ++ C) split ∙ sym here.0.there))
      ∙ take-append-drop e.first L)

  size : length (take e.first L ++ take (F.first - e.first) e.records) ≡ e.first + (F.first - e.first)
  size = omega (arith, length-append (take e.first L) P, length-take-le e.first L here.0.low, length-take-le (F.first - e.first) e.records inside)

  rules : (h : Rules) × (rules_state s (take e.first L ++ take (F.first - e.first) e.records) ≡ Some h) × IsSome (fold (rules_next s) (Some h) (drop (F.first - e.first) e.records ++ here.0.behind))
  rules = front_some s rules_start X (R ++ C) (subst (λ M. IsSome (rules_state s M)) (sym whole) legal.rules)

  few : length here.0.behind ≤ 1
  few = omega (arith, near s L e legal.rules fit.fits.recent, here.0.low, length-drop e.first L, ap length here.0.there, length-append e.records here.0.behind)

  some_front : IsSome (fold (rules_next s) (Some rules.0) (drop (F.first - e.first) e.records))
  some_front = let w = front_some s rules.0 R C rules.2 in rw w.1 refl

  small : (j : ℕ) (m : Rules) → fold (rules_next s) (Some rules.0) (take j (drop (F.first - e.first) e.records)) ≡ Some m → m.next ≤ 2 ^ 40
  small j m q = next_is_small s (X ++ take j R) m
      (IsLegalFor-front s (X ++ take j R) (drop j R ++ C) (subst (IsLegalFor s) (sym parts) legal))
      (fold-append (rules_next s) (Some rules_start) X (take j R) ∙ (ap (λ o. fold (rules_next s) o (take j R)) rules.1 ∙ q))
    where
      parts : (X ++ take j R) ++ (drop j R ++ C) ≡ L
      parts = append_assoc X (take j R) (drop j R ++ C) ∙ (ap (λ Z. X ++ Z) (sym (append_assoc (take j R) (drop j R) C) ∙ ap (λ Z. Z ++ C) (take-append-drop j R)) ∙ whole)

  -- where a Restarted follows, the epoch before it is this one
  last_is : (rs ds : List ℕ) (Y : List Record) → Y ++ Restarted rs ds ∷ [] ≡ L → 0 < length here.0.behind → last_epoch Y ≡ e
  last_is rs ds Y is some = ⊎_elim
      (λ r. sym (r ∙ (ap recovered_epoch (sym is) ∙ recovered_restarted Y rs ds)))
      (λ l.
      let now : e ≡ (cut_step (cut Y) (Restarted rs ds)).now = l ∙ (ap last_epoch (sym is) ∙ ap (λ c. c.now) (cut_push Y (Restarted rs ds))) in
      absurd (omega (arith, ap (λ (z : Epoch). z.first) now, number_is_length Y, ap length is, length-append Y (Restarted rs ds ∷ []), here.0.low, length-drop e.first L, ap length here.0.there, length-append e.records here.0.behind, some)))
      fit.fits.recent

  from : (g : Known) → Related F.first g rules.0 (λ t. (state t).0) → g.table ≡ table_before e F.first → g.seen ≡ [] → g.first ≡ max F.first e.first → IsSome (tests s F.first g (drop (F.first - e.first) e.records ++ here.0.behind))
  from g rel table seen first = subst IsSome (sym (fold-append (test_next s F.first) (Some g) R C ∙ ap (λ o. fold (test_next s F.first) o C) v.passes)) (finish s F.first v.known v.rules v.states C v.related here.0.end few behind_some format lists)
    where
      v : Walked s F.first g rules.0 (drop (F.first - e.first) e.records)
      v = walk s F.first R g rules.0 (λ t. (state t).0) rel (IsWithin-parts P R within).1 some_front (λ t. (state t).2) small

      behind_some : IsSome (fold (rules_next s) (Some v.rules) here.0.behind)
      behind_some = subst (λ o. IsSome (fold (rules_next s) o C)) v.allowed (subst IsSome (fold-append (rules_next s) (Some rules.0) R C) rules.2)

      at_end : rules_state s (X ++ R) ≡ Some v.rules
      at_end = fold-append (rules_next s) (Some rules_start) X R ∙ (ap (λ o. fold (rules_next s) o R) rules.1 ∙ v.allowed)

      ended_by : (z : Record) → here.0.behind ≡ z ∷ [] → (X ++ R) ++ z ∷ [] ≡ L
      ended_by z h = append_assoc X R (z ∷ []) ∙ (ap (λ Z. X ++ (R ++ Z)) (sym h) ∙ whole)

      format : (i k : ℕ) → here.0.behind ≡ Format i k ∷ [] → (v.known.number ≡ 0) × (v.known.failed ≡ false)
      format i k h = (omega (arith, v.related.number, (tallies s (X ++ R) v.rules at_end).0, ap length empty), false_from_ne_true v.known.failed (λ q. both_ways v.rules.failed (ap (λ (z : Rules). z.failed) start) (v.related.failed q)))
        where
          by_state : (o : Option Rules) → rules_state s ((X ++ R) ++ Format i k ∷ []) ≡ o → IsSome o → X ++ R ≡ []
          by_state None q w = absurd (cc)
          by_state (Some m) q w = format_first s (X ++ R) i k m q

          empty : X ++ R ≡ []
          empty = by_state (rules_state s ((X ++ R) ++ Format i k ∷ [])) refl (subst (λ M. IsSome (rules_state s M)) (sym (ended_by (Format i k) h)) legal.rules)

          start : v.rules ≡ rules_start
          start = let q : Some v.rules ≡ Some rules_start = sym at_end ∙ ap (rules_state s) empty in cc

      lists : (rs ds : List ℕ) → here.0.behind ≡ Restarted rs ds ∷ [] → tells_lists v.known rs ds ≡ true
      lists rs ds h = rw (same_list rs (rolled_by v.known.table v.known.seen) rolled_same, same_list ds (deleted_by v.known.table v.known.seen (scan (damage_from v.known.first v.known.seen) v.known.table v.known.seen)) deleted_same) refl
        where
          log_is : (X ++ R) ++ Restarted rs ds ∷ [] ≡ L
          log_is = ended_by (Restarted rs ds) h

          told : (rs ≡ rolled_list (last_epoch (take (length (X ++ R)) L))) × (ds ≡ deleted_list (last_epoch (take (length (X ++ R)) L)))
          told = legal.scans (length (X ++ R)) rs ds (subst (λ M. slice_get M (length (X ++ R)) ≡ Some (Restarted rs ds)) log_is (get_behind (X ++ R) (Restarted rs ds) []))

          epoch_is : last_epoch (take (length (X ++ R)) L) ≡ e
          epoch_is = ap (λ M. last_epoch (take (length (X ++ R)) M)) (sym log_is) ∙ (ap last_epoch (take_at (X ++ R) (Restarted rs ds ∷ []) (length (X ++ R)) refl) ∙ last_is rs ds (X ++ R) log_is (omega (arith, ap length h)))

          table_is : v.known.table ≡ table_before e F.first
          table_is = v.table ∙ table

          seen_is : v.known.seen ≡ records_from F.first e
          seen_is = v.seen ∙ ap (λ Z. Z ++ R) seen

          first_is : v.known.first ≡ max F.first e.first
          first_is = v.first ∙ first

          rolled_same : rs ≡ rolled_by v.known.table v.known.seen
          rolled_same = told.0 ∙ (ap rolled_list epoch_is ∙ ((reports_alike s L e F.first may).0 ∙ rw (table_is, seen_is) refl))

          deleted_same : ds ≡ deleted_by v.known.table v.known.seen (scan (damage_from v.known.first v.known.seen) v.known.table v.known.seen)
          deleted_same = told.1 ∙ (ap deleted_list epoch_is ∙ ((reports_alike s L e F.first may).1 ∙ rw (table_is, seen_is, first_is) refl))

  -- ---- the image's number lies in the epoch
  behind : e.first ≤ F.first → IsSome (tests s F.first (known_at F.first F.next F.table) (drop F.first L))
  behind ge = subst (λ Q. IsSome (tests s F.first (known_at F.first F.next F.table) Q)) (sym read) (from (known_at F.first F.next F.table) related fit.fits.table_is refl (omega (arith, ge)))
    where
      place : length X ≡ F.first
      place = omega (arith, size, ge)

      read : drop F.first L ≡ R ++ C
      read = ap (drop F.first) (sym whole) ∙ drop_at X (R ++ C) F.first place

      front : take F.first L ≡ X
      front = ap (take F.first) (sym whole) ∙ take_at X (R ++ C) F.first place

      tally : (rules.0.count ≡ length X) × (rules.0.next ≡ next_after X)
      tally = let w = tallies s X rules.0 rules.1 in (w.0, w.2 ∙ numbers_drawn X)

      related : Related F.first (known_at F.first F.next F.table) rules.0 (λ t. (state t).0)
      related = record {
        number = omega (arith, tally.0, place);
        next = fit.fits.numbers ∙ (ap next_after front ∙ sym tally.1);
        statuses = λ t. ap (λ rows. status_in rows t) fit.fits.table_is ∙ (state t).1;
        audits = λ b q. or_right (has [] b) (nat_lt b F.first) (lt-ltb b F.first (omega (arith, (audited_now s X rules.0 rules.1).0.below b q, tally.0, place)));
        failed = λ q. absurd (cc);
        restarted = λ q. absurd (cc);
      }

  -- ---- the epoch begins behind the image's number, right behind a record that separates epochs
  module _ (lt : F.first < e.first) where
    at : e.first ≡ suc F.first
    at = omega (arith, lt, here.1)

    none : F.first - e.first ≡ 0
    none = omega (arith, lt)

    led : (r : Record) × (slice_get L F.first ≡ Some r) × (separates r ≡ true)
    led = subst (IsLed L) at here.0.led

    empty : take (F.first - e.first) e.records ≡ []
    empty = ap (λ k. take k e.records) none

    no_rows : F.table ≡ []
    no_rows = fit.fits.table_is ∙ ap table_of empty

    front : X ≡ take F.first L ++ led.0 ∷ []
    front = ap (λ Z. take e.first L ++ Z) empty ∙ (append-nil (take e.first L) ∙ (ap (λ k. take k L) at ∙ take_get L F.first led.0 led.1))

    read : drop F.first L ≡ led.0 ∷ (R ++ C)
    read = get_then L F.first led.0 led.1 ∙ ap (λ Z. led.0 ∷ Z) (ap (drop (suc F.first)) (sym whole) ∙ drop_at X (R ++ C) (suc F.first) (omega (arith, size, at)))

    before_rule : (h : Rules) × (rules_state s (take F.first L) ≡ Some h) × (rules_step s h led.0 ≡ Some rules.0)
    before_rule = rules_before s (take F.first L) led.0 rules.0 (ap (rules_state s) (sym front) ∙ rules.1)

    count_is : rules.0.count ≡ F.first + 1
    count_is = omega (arith, (tallies s X rules.0 rules.1).0, size, at)

    next_is : draws led.0 ≡ None → F.next ≡ rules.0.next
    next_is d = fit.fits.numbers ∙ (sym (undrawn (take F.first L) led.0 d) ∙ (ap next_after (sym front) ∙ (sym (numbers_drawn X) ∙ sym (tallies s X rules.0 rules.1).2)))

    all_idle : (t : ℕ) → Idle ≡ status (state t).0
    all_idle t = sym (ap (λ Z. status_in (table_of Z) t) empty) ∙ (state t).1

    known : Known
    known = known_at F.first F.next F.table

    goes_on : (r : Record) → led.0 ≡ r → may_follow s F.first (known_at F.first F.next F.table) r ≡ true → separates r ≡ true → Related F.first (known_next (known_at F.first F.next F.table) r) rules.0 (λ t. (state t).0)
        → IsSome (tests s F.first (known_at F.first F.next F.table) (drop F.first L))
    goes_on r is ok sep rel =
        subst (λ Q. IsSome (tests s F.first (known_at F.first F.next F.table) Q)) (sym (read ∙ ap (λ z. z ∷ (R ++ C)) is))
        (subst (λ b. IsSome (fold (test_next s F.first) (cond b (Some (known_next (known_at F.first F.next F.table) r)) None) (R ++ C))) (sym ok)
        (from (known_next (known_at F.first F.next F.table) r) rel
        (ap (λ b. cond b [] F.table) sep ∙ sym (ap table_of empty))
        (ap (λ b. cond b [] ([] ++ r ∷ [])) sep)
        (ap (λ b. cond b (F.first + 1) F.first) sep ∙ omega (arith, at))))

    by_head : (r : Record) → led.0 ≡ r → separates r ≡ true → IsSome (tests s F.first (known_at F.first F.next F.table) (drop F.first L))
    by_head (Format i k) is sep =
        let start : take F.first L ≡ [] = format_first s (take F.first L) i k rules.0 (ap (λ z. rules_state s (take F.first L ++ z ∷ [])) (sym is) ∙ (ap (rules_state s) (sym front) ∙ rules.1)) in
        let first : F.first ≡ 0 = omega (arith, length-take-le F.first L fit.fits.count, ap length start) in
        let zero_is : (F.first == 0) ≡ true = eq-eqb F.first 0 first in
        let alone : X ≡ Format i k ∷ [] = front ∙ (ap (λ Z. Z ++ led.0 ∷ []) start ∙ ap (λ z. z ∷ []) is) in
        let f = format_step s i k rules.0 (ap (rules_state s) (sym alone) ∙ rules.1) in
        goes_on (Format i k) is (rw zero_is refl) refl (record {
          number = sym count_is;
          next = next_is (ap draws is);
          statuses = λ t. ap (λ rows. status_next t (status_in rows t) (Format i k)) no_rows ∙ all_idle t;
          audits = λ b q. let z : has [] b ≡ true = subst (λ xs. has xs b ≡ true) f.1 q in absurd (cc);
          failed = λ q. absurd (cc);
          restarted = λ q. absurd (cc);
        })
    by_head (Begin t) is sep = absurd (cc)
    by_head (Forward t b) is sep = absurd (cc)
    by_head (Done t c a) is sep = absurd (cc)
    by_head (Commit t) is sep = absurd (cc)
    by_head (Ended t) is sep = absurd (cc)
    by_head (Solo t p b) is sep = absurd (cc)
    by_head AuditBegin is sep = absurd (cc)
    by_head (AuditClean b) is sep = absurd (cc)
    by_head (AuditFail b rs) is sep = absurd (cc)
    by_head (Restarted rs ds) is sep =
        let here_is : (F.first == F.first) ≡ true = eq-eqb F.first F.first refl in
        let w = restart_knows s before_rule.0 rules.0 rs ds (ap (rules_step s before_rule.0) (sym is) ∙ before_rule.2) in
        goes_on (Restarted rs ds) is (rw here_is refl) refl (record {
          number = sym count_is;
          next = next_is (ap draws is);
          statuses = λ t. ap (λ rows. status_next t (status_in rows t) (Restarted rs ds)) no_rows ∙ all_idle t;
          audits = λ b q. let z : has [] b ≡ true = subst (λ xs. has xs b ≡ true) w.0 q in absurd (cc);
          failed = λ q. absurd (cc);
          restarted = λ q. w.1;
        })
    by_head (Back t b) is sep = absurd (cc)

    ahead : IsSome (tests s F.first (known_at F.first F.next F.table) (drop F.first L))
    ahead = by_head led.0 refl led.2

pub passes_tests : PassesTests
passes_tests s base L F e fit legal spelled = ⊎_elim (λ lt. ahead s base L F e fit legal spelled lt) (λ ge. behind s base L F e fit legal spelled ge) (cases_lt F.first e.first)
