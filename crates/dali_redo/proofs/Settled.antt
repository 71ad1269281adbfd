-- Transactions where each record passed the tests: what is so of them stays so.
use Rattle.std.proofs.Common.{◌≡◌, ◌⊎◌, ℕ, ◌^◌, Bool, true, false, cond, List, [], ◌∷◌, ◌++◌, refl, ap, sym, subst, ◌∙◌, inl, inr, ⊎_elim}
use Rattle.std.specs.Prelude.{◌&&◌, ◌||◌, ◌==◌, nat_le, nat_lt}
use Rattle.std.proofs.lemmas.Bool.{and_parts, both_ways, or_cases, or_parts, or_left, or_right, or_from, leb-true, false_from_ne_true, eq-eqb, eqb-true}
use Rattle.std.proofs.lemmas.List.Elements.{filter_map-append}
use mathlib.Core.Bool.{or-false}
use Rattle.dali_geometry.specs.Sizes.{Sizes}
use Rattle.dali_record.specs.declared.operations.Pending.{Pending}
use Rattle.dali_record.specs.declared.records.Record.{Record}
use Rattle.dali_record.specs.declared.records.Record.TheVariants.{Format, Begin, Forward, Done, Commit, Ended, Solo, AuditBegin, AuditClean, AuditFail, Restarted, Back}
use Rattle.dali_record.specs.Damage.{has}
use Rattle.dali_record.specs.Epochs.{separates}
use Rattle.dali_record.specs.Legal.{on_kind}
use Rattle.dali_record.specs.Log.{undo_step, undo_added, begun, ended, ended_by}
use Rattle.dali_record.proofs.Moves.{none_left}
use Rattle.dali_history.proofs.Members.{has_append}
use Rattle.dali_resume.specs.Laws.{undos_in}
use Rattle.dali_resume.specs.Resumed.{Scan}
use Rattle.dali_resume.specs.Tests.{Known, Status, Idle, Running, Waiting, allows, is_running, is_waiting, may_end, known_next, status_next, draws_number}
use Rattle.dali_redo.specs.Taint.Tables.{is_commit_of, is_end_of}
use Rattle.dali_redo.specs.Taint.Following.{is_begun, is_committed, IsOrderly}
use Rattle.dali_redo.proofs.TaintLemmas.Steps.{was, is_begun_next, is_committed_next}
use Rattle.dali_redo.specs.Following.{is_ended, IsSettled}

-- ---- which record it is
pub ended_is : (r : Record) (t : ℕ) → has (ended (r ∷ [])) t ≡ true → r ≡ Ended t
ended_is (Ended u) t h = ap Ended (eqb-true u t (sym (or-false (u == t)) ∙ h))
ended_is _ t h = absurd (cc)

pub begin_is : (r : Record) (t : ℕ) → has (begun (r ∷ [])) t ≡ true → r ≡ Begin t
begin_is (Begin u) t h = ap Begin (eqb-true u t (sym (or-false (u == t)) ∙ h))
begin_is _ t h = absurd (cc)

pub is_ended_next : (k : Known) (r : Record) → separates r ≡ false → (t : ℕ) → is_ended (known_next k r) t ≡ (is_ended k t || has (ended (r ∷ [])) t)
is_ended_next k r e t =
    ap (λ z. has (ended (cond z [] (k.seen ++ r ∷ []))) t) e
    ∙ (ap (λ ts. has ts t) (filter_map-append ended_by k.seen (r ∷ [])) ∙ has_append (ended k.seen) (ended (r ∷ [])) t)

-- ---- who waits behind a record waited, or is committed by it
idle_waited : (t : ℕ) (r : Record) → is_waiting (status_next t Idle r) ≡ true → ⊥
idle_waited t (Begin u) h = by_test (u == t) h
  where
    by_test : (b : Bool) → is_waiting (cond b (Running []) Idle) ≡ true → ⊥
    by_test true e = cc
    by_test false e = cc
idle_waited t (Format i j) h = cc
idle_waited t _ h = cc

running_waited : (t : ℕ) (us : List Pending) (r : Record) → is_waiting (status_next t (Running us) r) ≡ true → is_commit_of t r ≡ true
running_waited t us (Commit u) h = by_test (u == t) h
  where
    by_test : (b : Bool) → is_waiting (cond b Waiting (Running us)) ≡ true → (b || false) ≡ true
    by_test true e = refl
    by_test false e = absurd (cc)
running_waited t us (Ended u) h = absurd (by_test (u == t) h)
  where
    by_test : (b : Bool) → is_waiting (cond b Idle (Running us)) ≡ true → ⊥
    by_test true e = cc
    by_test false e = cc
running_waited t us (Format i j) h = absurd (cc)
running_waited t us _ h = absurd (cc)

waited : (t : ℕ) (z : Status) (r : Record) → is_waiting (status_next t z r) ≡ true → (is_waiting z ≡ true) ⊎ (is_commit_of t r ≡ true)
waited t Idle r h = absurd (idle_waited t r h)
waited t (Running us) r h = inr (running_waited t us r h)
waited t Waiting r h = inl refl

-- ---- who is at work stays so but behind its own Commit or Ended
still_runs : (t : ℕ) (us : List Pending) (r : Record) → separates r ≡ false → is_commit_of t r ≡ false → has (ended (r ∷ [])) t ≡ false → is_running (status_next t (Running us) r) ≡ true
still_runs t us (Commit u) s c e = by_test (u == t) c
  where
    by_test : (b : Bool) → (b || false) ≡ false → is_running (cond b Waiting (Running us)) ≡ true
    by_test true g = absurd (cc)
    by_test false g = refl
still_runs t us (Ended u) s c e = by_test (u == t) e
  where
    by_test : (b : Bool) → (b || false) ≡ false → is_running (cond b Idle (Running us)) ≡ true
    by_test true g = absurd (cc)
    by_test false g = refl
still_runs t us (Restarted rs ds) s c e = absurd (cc)
still_runs t us _ s c e = refl

runs_on : (t : ℕ) (z : Status) (r : Record) → is_running z ≡ true → separates r ≡ false → is_commit_of t r ≡ false → has (ended (r ∷ [])) t ≡ false → is_running (status_next t z r) ≡ true
runs_on t Idle r h s c e = absurd (cc)
runs_on t (Running us) r h s c e = still_runs t us r s c e
runs_on t Waiting r h s c e = absurd (cc)

ends_by : (z : Status) → may_end z ≡ true → (is_running z ≡ true) ⊎ (is_waiting z ≡ true)
ends_by Idle h = absurd (cc)
ends_by (Running us) h = inl refl
ends_by Waiting h = inr refl

idle_by : (z : Status) → (is_running z ≡ true → ⊥) → (is_waiting z ≡ true → ⊥) → z ≡ Idle
idle_by Idle f g = refl
idle_by (Running us) f g = absurd (f refl)
idle_by Waiting f g = absurd (g refl)

either_way : {X : Type 0} (b : Bool) (x : X) → cond b x x ≡ x
either_way true x = refl
either_way false x = refl

idle_undos : (t : ℕ) (r : Record) → undos_in (status_next t Idle r) ≡ []
idle_undos t (Begin u) = by_test (u == t)
  where
    by_test : (b : Bool) → undos_in (cond b (Running []) Idle) ≡ []
    by_test true = refl
    by_test false = refl
idle_undos t (Format i j) = refl
idle_undos t _ = refl

waiting_undos : (t : ℕ) (r : Record) → undos_in (status_next t Waiting r) ≡ []
waiting_undos t (Ended u) = by_test (u == t)
  where
    by_test : (b : Bool) → undos_in (cond b Idle Waiting) ≡ []
    by_test true = refl
    by_test false = refl
waiting_undos t (Format i j) = refl
waiting_undos t _ = refl

-- ---- one record more
module _ (s : Sizes) (n : ℕ) (k : Known) (c : Scan) (r : Record) (o : IsOrderly k c) (w : IsSettled k) (ok : allows s n k r ≡ true) (inside : separates r ≡ false) where
  -- who begins by it
  drawn : (t : ℕ) → r ≡ Begin t → is_begun k t ≡ false
  drawn t e =
      let new : draws_number k t ≡ true = subst (λ q. allows s n k q ≡ true) e ok in
      (o.new t (leb-true k.next t (and_parts (nat_lt t (2 ^ 40)) (nat_le k.next t) new).1)).unbegun

  ends_begun : (t : ℕ) → is_ended (known_next k r) t ≡ true → is_begun (known_next k r) t ≡ true
  ends_begun t h = is_begun_next k r inside t ∙ or_left (is_begun k t) (has (begun (r ∷ [])) t) (⊎_elim (w.ends t) new (or_cases (is_ended k t) (has (ended (r ∷ [])) t) (sym (is_ended_next k r inside t) ∙ h)))
    where
      new : has (ended (r ∷ [])) t ≡ true → is_begun k t ≡ true
      new e = ⊎_elim (λ f. (o.works t f).0) (λ f. o.begun t (w.waits t f)) (ends_by (k.statuses t) (subst (λ q. allows s n k q ≡ true) (ended_is r t e) ok))

  waits_committed : (t : ℕ) → is_waiting ((known_next k r).statuses t) ≡ true → is_committed (known_next k r) t ≡ true
  waits_committed t h = is_committed_next k r inside t ∙ ⊎_elim (λ e. or_left (is_committed k t) (is_commit_of t r) (w.waits t e)) (or_right (is_committed k t) (is_commit_of t r)) (waited t (k.statuses t) r h)

  works_unended : (t : ℕ) → is_running ((known_next k r).statuses t) ≡ true → is_ended (known_next k r) t ≡ false
  works_unended t h = is_ended_next k r inside t ∙ ⊎_elim old new (was t (k.statuses t) r h)
    where
      old : (is_running (k.statuses t) ≡ true) × (is_end_of t r ≡ false) → (is_ended k t || has (ended (r ∷ [])) t) ≡ false
      old e = or_from (is_ended k t) (has (ended (r ∷ [])) t) (w.works t e.0) (or_parts (is_commit_of t r) (has (ended (r ∷ [])) t) e.1).1

      new : r ≡ Begin t → (is_ended k t || has (ended (r ∷ [])) t) ≡ false
      new e = or_from (is_ended k t) (has (ended (r ∷ [])) t) (false_from_ne_true (is_ended k t) (λ f. both_ways (is_begun k t) (drawn t e) (w.ends t f))) (ap (λ q. has (ended (q ∷ [])) t) e)

  runs_begun : (t : ℕ) → is_begun (known_next k r) t ≡ true → is_committed (known_next k r) t ≡ false → is_ended (known_next k r) t ≡ false → is_running ((known_next k r).statuses t) ≡ true
  runs_begun t h g f = ⊎_elim old new (or_cases (is_begun k t) (has (begun (r ∷ [])) t) (sym (is_begun_next k r inside t) ∙ h))
    where
      parts : (is_committed k t ≡ false) × (is_commit_of t r ≡ false)
      parts = or_parts (is_committed k t) (is_commit_of t r) (sym (is_committed_next k r inside t) ∙ g)

      more : (is_ended k t ≡ false) × (has (ended (r ∷ [])) t ≡ false)
      more = or_parts (is_ended k t) (has (ended (r ∷ [])) t) (sym (is_ended_next k r inside t) ∙ f)

      old : is_begun k t ≡ true → is_running (status_next t (k.statuses t) r) ≡ true
      old e = runs_on t (k.statuses t) r (w.runs t e parts.0 more.0) inside parts.1 more.1

      new : has (begun (r ∷ [])) t ≡ true → is_running (status_next t (k.statuses t) r) ≡ true
      new e =
          let is : r ≡ Begin t = begin_is r t e in
          let unbegun : is_begun k t ≡ false = drawn t is in
          let idle : k.statuses t ≡ Idle = idle_by (k.statuses t) (λ q. both_ways (is_begun k t) unbegun (o.works t q).0) (λ q. both_ways (is_begun k t) unbegun (o.begun t (w.waits t q))) in
          ap (λ z. is_running (status_next t z r)) idle ∙ (ap (λ q. is_running (status_next t Idle q)) is ∙ ap (λ b. is_running (cond b (Running []) Idle)) (eq-eqb t t refl))

  pub settled_next : IsSettled (known_next k r)
  settled_next = record { ends = ends_begun; waits = waits_committed; works = works_unended; runs = runs_begun }

  -- ---- undo lists
  unworked_step : (t : ℕ) (q : Record) → r ≡ q → is_running (k.statuses t) ≡ false → undo_step t [] r ≡ []
  unworked_step t (Forward u b) e h = ap (undo_step t []) e ∙ by_test (u == t) refl
    where
      by_test : (z : Bool) → (u == t) ≡ z → cond z ([] ++ undo_added b b.undo) [] ≡ []
      by_test true g =
          let now : (is_running (k.statuses u) && on_kind s b.region b.op) ≡ true = subst (λ q. allows s n k q ≡ true) e ok in
          absurd (both_ways (is_running (k.statuses t)) h (subst (λ v. is_running (k.statuses v) ≡ true) (eqb-true u t g) (and_parts (is_running (k.statuses u)) (on_kind s b.region b.op) now).0))
      by_test false g = refl
  unworked_step t (Back u b) e h = ap (undo_step t []) e ∙ either_way (u == t) []
  unworked_step t (Format i j) e h = ap (undo_step t []) e
  unworked_step t (Begin u) e h = ap (undo_step t []) e
  unworked_step t (Done u d a) e h = ap (undo_step t []) e
  unworked_step t (Commit u) e h = ap (undo_step t []) e
  unworked_step t (Ended u) e h = ap (undo_step t []) e
  unworked_step t (Solo u p b) e h = ap (undo_step t []) e
  unworked_step t AuditBegin e h = ap (undo_step t []) e
  unworked_step t (AuditClean i) e h = ap (undo_step t []) e
  unworked_step t (AuditFail i rs) e h = ap (undo_step t []) e
  unworked_step t (Restarted rs ds) e h = ap (undo_step t []) e

  pub none_added : (t : ℕ) → is_running (k.statuses t) ≡ false → undo_step t [] r ≡ []
  none_added t h = unworked_step t r refl h

  ends_empty : (t u : ℕ) (us : List Pending) → r ≡ Ended u → k.statuses t ≡ Running us → (u == t) ≡ true → us ≡ []
  ends_empty t u us e q g =
      let now : may_end (k.statuses u) ≡ true = subst (λ p. allows s n k p ≡ true) e ok in
      none_left us (sym (ap may_end (ap k.statuses (eqb-true u t g) ∙ q)) ∙ now)

  runs_step : (t : ℕ) (us : List Pending) (q : Record) → r ≡ q → k.statuses t ≡ Running us → is_commit_of t q ≡ false → separates q ≡ false → undos_in (status_next t (Running us) q) ≡ undo_step t us q
  runs_step t us (Commit u) e h f g = ap (λ b. undos_in (cond b Waiting (Running us))) (or_parts (u == t) false f).0
  runs_step t us (Ended u) e h f g = by_test (u == t) refl
    where
      by_test : (b : Bool) → (u == t) ≡ b → undos_in (cond b Idle (Running us)) ≡ us
      by_test true i = sym (ends_empty t u us e h i)
      by_test false i = refl
  runs_step t us (Restarted rs ds) e h f g = absurd (cc)
  runs_step t us (Format i j) e h f g = refl
  runs_step t us (Begin u) e h f g = refl
  runs_step t us (Forward u b) e h f g = refl
  runs_step t us (Done u d a) e h f g = refl
  runs_step t us (Solo u p b) e h f g = refl
  runs_step t us AuditBegin e h f g = refl
  runs_step t us (AuditClean i) e h f g = refl
  runs_step t us (AuditFail i rs) e h f g = refl
  runs_step t us (Back u b) e h f g = refl

  by_status : (t : ℕ) (z : Status) (us : List Pending) → k.statuses t ≡ z → undos_in z ≡ us → is_commit_of t r ≡ false → undos_in (status_next t z r) ≡ undo_step t us r
  by_status t Idle us e h f = idle_undos t r ∙ sym (ap (λ vs. undo_step t vs r) (sym h) ∙ none_added t (ap is_running e))
  by_status t Waiting us e h f = waiting_undos t r ∙ sym (ap (λ vs. undo_step t vs r) (sym h) ∙ none_added t (ap is_running e))
  by_status t (Running vs) us e h f = runs_step t vs r refl e f inside ∙ ap (λ ws. undo_step t ws r) h

  -- the list at work behind it
  pub undos_next : (t : ℕ) (us : List Pending) → undos_in (k.statuses t) ≡ us → is_commit_of t r ≡ false → undos_in (status_next t (k.statuses t) r) ≡ undo_step t us r
  undos_next t us h f = by_status t (k.statuses t) us refl h f
