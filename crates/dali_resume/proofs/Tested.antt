-- A record that the rules allow may follow in a restart's test, and what is known goes on to tell the same.
use Rattle.std.proofs.Common.{◌≡◌, ℕ, ◌+◌, ◌≤◌, ◌^◌, Bool, true, false, cond, List, [], ◌∷◌, Option, Some, None, refl, ap, sym, subst, ◌∙◌, ⊎_elim, arith}
use Rattle.std.specs.Prelude.{not, ◌&&◌, ◌||◌, ◌==◌, nat_lt, nat_le}
use Rattle.std.specs.List.{list_all}
use Rattle.std.proofs.lemmas.Bool.{both_ways, false_from_ne_true, and_parts, and_from, or_left, or_right, or_cases, lt-ltb, eq-eqb, eqb-true, le-leb}
use Rattle.std.proofs.lemmas.Option.{same_Some}
use Rattle.dali_geometry.specs.Sizes.{Sizes}
use Rattle.dali_geometry.specs.Places.{regions}
use Rattle.dali_record.specs.declared.operations.Block.{Block}
use Rattle.dali_record.specs.declared.operations.Pending.{Pending}
use Rattle.dali_record.specs.declared.records.Record.{Record}
use Rattle.dali_record.specs.declared.records.Record.TheVariants.{Format, Begin, Forward, Done, Commit, Ended, Solo, AuditBegin, AuditClean, AuditFail, Restarted, Back}
use Rattle.dali_record.specs.Operations.{undo_op}
use Rattle.dali_record.specs.Log.{undo_step, last_of, commit_by, ended}
use Rattle.dali_record.specs.Epochs.{separates}
use Rattle.dali_record.specs.Damage.{has}
use Rattle.dali_record.specs.Legal.{TxnState, Unbegun, Active, Committed, Over, txn_step, concerns, allowed, is_of, is_none_left, back, Rules, has_room, on_kind, runs, rules_step, rules_first, rules_behind}
use Rattle.dali_record.specs.Files.{is_restarted}
use Rattle.dali_record.proofs.Pushes.{txn_step-other}
use Rattle.dali_record.proofs.Tracks.{Tracks, tracks_next}
use Rattle.dali_record.proofs.Moves.{Moved, begins, alone, works, commits, leaves, frees, ends, moves}
use Rattle.dali_record.proofs.EpochRules.{kept_if_some, some_rules}
use Rattle.dali_resume.specs.Tests.{Status, Idle, Running, Waiting, Known, is_running, is_waiting, may_end, undoes_last, may_take_back, idle_next, running_next, waiting_next, status_next, draws_number, ends_audit, allows, may_follow, next_behind, audits_behind, failed_behind, known_next}
use Rattle.dali_resume.proofs.Standing.{none_ended}
use Rattle.dali_resume.proofs.Audits.{Changes, step_changes, behind_runs, first_refuses}

-- ---- statuses
abbrev pub status : TxnState → Status
status Unbegun = Idle
status (Active w) = Running w.undos
status (Committed ps) = Waiting
status Over = Idle

running_works : (t : ℕ) (us : List Pending) (r : Record) → separates r ≡ false → commit_by r ≡ None → has (ended (r ∷ [])) t ≡ false → running_next t us r ≡ Running (undo_step t us r)
running_works t us (Format i h) w k e = refl
running_works t us (Begin u) w k e = refl
running_works t us (Forward u b) w k e = refl
running_works t us (Done u c a) w k e = refl
running_works t us (Commit u) w k e = absurd (cc)
running_works t us (Ended u) w k e = let f : (u == t) ≡ false = (or_false (u == t) false e).0 in rw f refl
  where
    or_false : (a b : Bool) → (a || b) ≡ false → (a ≡ false) × (b ≡ false)
    or_false true b q = absurd (cc)
    or_false false b q = (refl, q)
running_works t us (Restarted rs ds) w k e = absurd (cc)
running_works t us _ w k e = refl

idle_quiet : (t : ℕ) (r : Record) → concerns t r ≡ false → idle_next t r ≡ Idle
idle_quiet t (Begin u) e = rw e refl
idle_quiet t _ e = refl

running_quiet : (t : ℕ) (us : List Pending) (r : Record) → concerns t r ≡ false → running_next t us r ≡ Running us
running_quiet t us (Forward u b) e = rw e refl
running_quiet t us (Commit u) e = rw e refl
running_quiet t us (Ended u) e = rw e refl
running_quiet t us (Restarted rs ds) e = absurd (cc)
running_quiet t us (Back u b) e = rw e refl
running_quiet t us _ e = refl

waiting_quiet : (t : ℕ) (r : Record) → concerns t r ≡ false → waiting_next t r ≡ Waiting
waiting_quiet t (Ended u) e = rw e refl
waiting_quiet t (Restarted rs ds) e = absurd (cc)
waiting_quiet t _ e = refl

status_quiet : (t : ℕ) (x : TxnState) (r : Record) → concerns t r ≡ false → status_next t (status x) r ≡ status x
status_quiet t Unbegun r e = idle_quiet t r e
status_quiet t (Active w) r e = running_quiet t w.undos r e
status_quiet t (Committed ps) r e = waiting_quiet t r e
status_quiet t Over r e = idle_quiet t r e

pub status_step : (s : Sizes) (t : ℕ) (x y : TxnState) (r : Record) → separates r ≡ false → txn_step s t x r ≡ Some y → status_next t (status x) r ≡ status y
status_step s t x y r within e = by_concern (concerns t r) refl
  where
    here : (t == t) ≡ true
    here = eq-eqb t t refl

    by_move : Moved t x r y → status_next t (status x) r ≡ status y
    by_move (begins w a b c) =
        let step : txn_step s t Unbegun (Begin t) ≡ Some (Active w) = subst (λ q. txn_step s t Unbegun q ≡ Some (Active w)) b (subst (λ z. txn_step s t z r ≡ Some (Active w)) a (e ∙ ap Some c)) in
        let none : w.undos ≡ [] = subst (λ o. Tracks o []) step (tracks_next s t (Some Unbegun) [] (Begin t) refl) in
        rw (a, b, c, here, none) refl
    by_move (alone p k a b c) = rw (a, b, c) refl
    by_move (works w v a own b k c) =
        let step : txn_step s t (Active w) r ≡ Some (Active v) = subst (λ z. txn_step s t z r ≡ Some (Active v)) a (e ∙ ap Some c) in
        let same : v.undos ≡ undo_step t w.undos r = subst (λ o. Tracks o (undo_step t w.undos r)) step (tracks_next s t (Some (Active w)) w.undos r refl) in
        rw (a, c) (running_works t w.undos r within k (none_ended s t w v r own step) ∙ ap Running (sym same))
    by_move (commits w a b c) = rw (a, b, c, here) refl
    by_move (leaves w a b c) = rw (a, b, c, here) refl
    by_move (frees p ps u k a b ne is c) = rw (a, b, c) refl
    by_move (ends a b c) = rw (a, b, c, here) refl

    by_concern : (k : Bool) → concerns t r ≡ k → status_next t (status x) r ≡ status y
    by_concern true f = by_move (moves s t x r y f within e)
    by_concern false f = status_quiet t x r f ∙ ap status (same_Some x y (sym (txn_step-other s t x r f) ∙ e))

-- ---- what a record asks of its transaction
refused : {A : Type 0} (t : ℕ) (o : Option TxnState) (y : TxnState) → allowed (not (t == t)) o ≡ Some y → A
refused t o y e = let g : allowed false o ≡ Some y = rw (eq-eqb t t refl) at e in absurd (cc)

forward_runs : (s : Sizes) (t : ℕ) (b : Block) (x y : TxnState) → txn_step s t x (Forward t b) ≡ Some y → is_running (status x) ≡ true
forward_runs s t b Unbegun y e = refused t _ y e
forward_runs s t b (Active w) y e = refl
forward_runs s t b (Committed ps) y e = refused t _ y e
forward_runs s t b Over y e = refused t _ y e

done_runs : (s : Sizes) (t : ℕ) (r : Record) (x y : TxnState) → ((o : Option TxnState) → txn_step s t Unbegun r ≡ allowed (not (t == t)) (Some Unbegun)) → ((ps : List Pending) → txn_step s t (Committed ps) r ≡ allowed (not (t == t)) (Some (Committed ps))) → txn_step s t Over r ≡ allowed (not (t == t)) (Some Over) → txn_step s t x r ≡ Some y → is_running (status x) ≡ true
done_runs s t r Unbegun y a b c e = refused t _ y (sym (a None) ∙ e)
done_runs s t r (Active w) y a b c e = refl
done_runs s t r (Committed ps) y a b c e = refused t _ y (sym (b ps) ∙ e)
done_runs s t r Over y a b c e = refused t _ y (sym c ∙ e)

back_takes : (s : Sizes) (t : ℕ) (b : Block) (x y : TxnState) → txn_step s t x (Back t b) ≡ Some y → may_take_back (status x) b ≡ true
back_takes s t b Unbegun y e = refused t _ y e
back_takes s t b (Active w) y e = let g : back w b (last_of w.undos) ≡ Some y = rw (eq-eqb t t refl) at e in by_last (last_of w.undos) g
  where
    is_allowed : (c : Bool) (o : Option TxnState) → allowed c o ≡ Some y → c ≡ true
    is_allowed true o q = refl
    is_allowed false o q = absurd (cc)

    by_last : (o : Option Pending) → back w b o ≡ Some y → undoes_last b o ≡ true
    by_last None q = absurd (cc)
    by_last (Some p) q = is_allowed (is_of (undo_op p.undo) p b) _ q
back_takes s t b (Committed ps) y e = refused t _ y e
back_takes s t b Over y e = refused t _ y e

ended_ends : (s : Sizes) (t : ℕ) (x y : TxnState) → txn_step s t x (Ended t) ≡ Some y → may_end (status x) ≡ true
ended_ends s t Unbegun y e = refused t _ y e
ended_ends s t (Active w) y e = let g : allowed (is_none_left w.undos) (Some Over) ≡ Some y = rw (eq-eqb t t refl) at e in is_allowed (is_none_left w.undos) (Some Over) g
  where
    is_allowed : (c : Bool) (o : Option TxnState) → allowed c o ≡ Some y → c ≡ true
    is_allowed true o q = refl
    is_allowed false o q = absurd (cc)
ended_ends s t (Committed ps) y e = refl
ended_ends s t Over y e = refused t _ y e

-- the parent of a solo
parent_waits : (s : Sizes) (t p : ℕ) (b : Block) (x y : TxnState) → txn_step s p x (Solo t p b) ≡ Some y → is_waiting (status x) ≡ true
parent_waits s t p b Unbegun y e = by_number (t == p) e
  where
    by_number : (c : Bool) → cond c (allowed (not (p == p)) (Some Over)) (allowed (not (p == p)) (Some Unbegun)) ≡ Some y → false ≡ true
    by_number true q = refused p _ y q
    by_number false q = refused p _ y q
parent_waits s t p b (Active w) y e = both (t == p) e
  where
    both : (c : Bool) → allowed (not c && not (p == p)) (Some (Active w)) ≡ Some y → false ≡ true
    both true q = absurd (cc)
    both false q = refused p _ y q
parent_waits s t p b (Committed ps) y e = refl
parent_waits s t p b Over y e = both (t == p) e
  where
    both : (c : Bool) → allowed (not c && not (p == p)) (Some Over) ≡ Some y → false ≡ true
    both true q = absurd (cc)
    both false q = refused p _ y q

-- ---- what is known, beside what the rules know
pub record Related (n : ℕ) (g : Known) (h : Rules) (x : ℕ → TxnState) : Type 0 where
  pub number : g.number ≡ h.count
  pub next : g.next ≡ h.next
  pub statuses : (t : ℕ) → g.statuses t ≡ status (x t)
  pub audits : (b : ℕ) → has h.audits b ≡ true → ends_audit n g b ≡ true
  pub failed : g.failed ≡ true → h.failed ≡ true
  pub restarted : g.restarted ≡ true → h.restarted ≡ true

module _ (s : Sizes) (n : ℕ) (g : Known) (h k : Rules) (x y : ℕ → TxnState) (rel : Related n g h x) (small : k.next ≤ 2 ^ 40) where
  running : (t : ℕ) → is_running (status (x t)) ≡ true → is_running (g.statuses t) ≡ true
  running t e = ap is_running (rel.statuses t) ∙ e

  draws : (t m : ℕ) → (t == h.next) ≡ true → k.next ≡ h.next + 1 → draws_number g t ≡ true
  draws t m e f = let same : t ≡ h.next = eqb-true t h.next e in and_from (nat_lt t (2 ^ 40)) (nat_le g.next t) (lt-ltb t (2 ^ 40) (omega (arith, same, f, small))) (le-leb g.next t (omega (arith, rel.next, same)))

  pub plain_allows : (r : Record) → separates r ≡ false → runs s h r ≡ Some k → ((t : ℕ) → txn_step s t (x t) r ≡ Some (y t)) → allows s n g r ≡ true
  plain_allows (Format i j) w e step = absurd (cc)
  plain_allows (Begin t) w e step = let q = kept_if_some _ _ k e in draws t 0 (and_parts (t == h.next) (has_room h (Begin t)) q.0).0 (ap (λ (z : Rules). z.next) q.1)
  plain_allows (Forward t b) w e step =
      let q = kept_if_some _ _ k e in
      and_from (is_running (g.statuses t)) (on_kind s b.region b.op) (running t (forward_runs s t b (x t) (y t) (step t))) (and_parts (on_kind s b.region b.op) (has_room h (Forward t b)) q.0).0
  plain_allows (Done t c a) w e step = running t (done_runs s t (Done t c a) (x t) (y t) (λ o. refl) (λ ps. refl) refl (step t))
  plain_allows (Commit t) w e step = running t (done_runs s t (Commit t) (x t) (y t) (λ o. refl) (λ ps. refl) refl (step t))
  plain_allows (Ended t) w e step = ap may_end (rel.statuses t) ∙ ended_ends s t (x t) (y t) (step t)
  plain_allows (Solo t p b) w e step =
      let q = kept_if_some _ _ k e in
      let both = and_parts (t == h.next) (on_kind s b.region b.op) q.0 in
      and_from (draws_number g t) (is_waiting (g.statuses p) && on_kind s b.region b.op) (draws t 0 both.0 (ap (λ (z : Rules). z.next) q.1))
      (and_from (is_waiting (g.statuses p)) (on_kind s b.region b.op) (ap is_waiting (rel.statuses p) ∙ parent_waits s t p b (x p) (y p) (step p)) both.1)
  plain_allows AuditBegin w e step = refl
  plain_allows (AuditClean b) w e step = let q = kept_if_some _ _ k e in rel.audits b (and_parts (has h.audits b) (not (has h.closed b)) q.0).0
  plain_allows (AuditFail b rs) w e step =
      let q = kept_if_some _ _ k e in
      let p = and_parts (has h.audits b && not (has h.closed b)) (list_all (λ r. nat_lt r (regions s)) rs) q.0 in
      and_from (ends_audit n g b) (list_all (λ r. nat_lt r (regions s)) rs) (rel.audits b (and_parts (has h.audits b) (not (has h.closed b)) p.0).0) p.1
  plain_allows (Restarted rs ds) w e step = absurd (cc)
  plain_allows (Back t b) w e step =
      let q = kept_if_some _ _ k e in
      and_from (may_take_back (g.statuses t) b) (on_kind s b.region b.op) (ap (λ z. may_take_back z b) (rel.statuses t) ∙ back_takes s t b (x t) (y t) (step t)) q.0

  next_runs : (r : Record) → separates r ≡ false → runs s h r ≡ Some k → next_behind g.next r ≡ k.next
  next_runs (Format i j) w e = absurd (cc)
  next_runs (Begin t) w e = let q = kept_if_some _ _ k e in omega (arith, eqb-true t h.next (and_parts (t == h.next) (has_room h (Begin t)) q.0).0, ap (λ (z : Rules). z.next) q.1)
  next_runs (Forward t b) w e = rel.next ∙ sym (ap (λ (z : Rules). z.next) (kept_if_some _ _ k e).1)
  next_runs (Done t c a) w e = rel.next ∙ sym (ap (λ (z : Rules). z.next) (kept_if_some _ _ k e).1)
  next_runs (Commit t) w e = rel.next ∙ sym (ap (λ (z : Rules). z.next) (some_rules _ k e))
  next_runs (Ended t) w e = rel.next ∙ sym (ap (λ (z : Rules). z.next) (some_rules _ k e))
  next_runs (Solo t p b) w e = let q = kept_if_some _ _ k e in omega (arith, eqb-true t h.next (and_parts (t == h.next) (on_kind s b.region b.op) q.0).0, ap (λ (z : Rules). z.next) q.1)
  next_runs AuditBegin w e = rel.next ∙ sym (ap (λ (z : Rules). z.next) (kept_if_some _ _ k e).1)
  next_runs (AuditClean b) w e = rel.next ∙ sym (ap (λ (z : Rules). z.next) (kept_if_some _ _ k e).1)
  next_runs (AuditFail b rs) w e = rel.next ∙ sym (ap (λ (z : Rules). z.next) (kept_if_some _ _ k e).1)
  next_runs (Restarted rs ds) w e = absurd (cc)
  next_runs (Back t b) w e = rel.next ∙ sym (ap (λ (z : Rules). z.next) (kept_if_some _ _ k e).1)

  old_audits : k.audits ≡ h.audits → (b : ℕ) → has k.audits b ≡ true → ends_audit n g b ≡ true
  old_audits same b e = rel.audits b (subst (λ z. has z b ≡ true) same e)

  audits_runs : (r : Record) → separates r ≡ false → Changes h k r → (b : ℕ) → has k.audits b ≡ true → (has (audits_behind g.number g.audits r) b || nat_lt b n) ≡ true
  audits_runs (Format i j) w c b e = absurd (cc)
  audits_runs (Begin t) w c b e = old_audits c.1 b e
  audits_runs (Forward t q) w c b e = old_audits c.1 b e
  audits_runs (Done t q a) w c b e = old_audits c.1 b e
  audits_runs (Commit t) w c b e = old_audits c.1 b e
  audits_runs (Ended t) w c b e = old_audits c.1 b e
  audits_runs (Solo t p q) w c b e = old_audits c.1 b e
  audits_runs AuditBegin w c b e = ⊎_elim
      (λ f. or_left ((g.number == b) || has g.audits b) (nat_lt b n) (or_left (g.number == b) (has g.audits b) (ap (λ z. z == b) rel.number ∙ f)))
      (λ f. ⊎_elim (λ a. or_left ((g.number == b) || has g.audits b) (nat_lt b n) (or_right (g.number == b) (has g.audits b) a)) (λ a. or_right ((g.number == b) || has g.audits b) (nat_lt b n) a) (or_cases (has g.audits b) (nat_lt b n) (rel.audits b f)))
      (or_cases (h.count == b) (has h.audits b) (subst (λ z. has z b ≡ true) c.1 e))
  audits_runs (AuditClean q) w c b e = old_audits c.1 b e
  audits_runs (AuditFail q rs) w c b e = old_audits c.1 b e
  audits_runs (Restarted rs ds) w c b e = absurd (cc)
  audits_runs (Back t q) w c b e = old_audits c.1 b e

  failed_runs : (r : Record) → separates r ≡ false → g.failed ≡ false → Changes h k r → failed_behind g.failed r ≡ true → k.failed ≡ true
  failed_runs (Format i j) w f c e = absurd (cc)
  failed_runs (Begin t) w f c e = absurd (both_ways g.failed f e)
  failed_runs (Forward t b) w f c e = absurd (both_ways g.failed f e)
  failed_runs (Done t q a) w f c e = absurd (both_ways g.failed f e)
  failed_runs (Commit t) w f c e = absurd (both_ways g.failed f e)
  failed_runs (Ended t) w f c e = absurd (both_ways g.failed f e)
  failed_runs (Solo t p b) w f c e = absurd (both_ways g.failed f e)
  failed_runs AuditBegin w f c e = absurd (both_ways g.failed f e)
  failed_runs (AuditClean b) w f c e = absurd (both_ways g.failed f e)
  failed_runs (AuditFail b rs) w f c e = c.2
  failed_runs (Restarted rs ds) w f c e = absurd (cc)
  failed_runs (Back t b) w f c e = absurd (both_ways g.failed f e)

  count_runs : (r : Record) → separates r ≡ false → Changes h k r → k.count ≡ h.count + 1
  count_runs (Format i j) w c = absurd (cc)
  count_runs (Begin t) w c = c.0
  count_runs (Forward t b) w c = c.0
  count_runs (Done t q a) w c = c.0
  count_runs (Commit t) w c = c.0
  count_runs (Ended t) w c = c.0
  count_runs (Solo t p b) w c = c.0
  count_runs AuditBegin w c = c.0
  count_runs (AuditClean b) w c = c.0
  count_runs (AuditFail b rs) w c = c.0
  count_runs (Restarted rs ds) w c = absurd (cc)
  count_runs (Back t b) w c = c.0

  plain_restarted : (r : Record) → separates r ≡ false → is_restarted r ≡ false
  plain_restarted (Format i j) w = refl
  plain_restarted (Begin t) w = refl
  plain_restarted (Forward t b) w = refl
  plain_restarted (Done t q a) w = refl
  plain_restarted (Commit t) w = refl
  plain_restarted (Ended t) w = refl
  plain_restarted (Solo t p b) w = refl
  plain_restarted AuditBegin w = refl
  plain_restarted (AuditClean b) w = refl
  plain_restarted (AuditFail b rs) w = refl
  plain_restarted (Restarted rs ds) w = absurd (cc)
  plain_restarted (Back t b) w = refl

  pub plain_step : (r : Record) → separates r ≡ false → rules_step s h r ≡ Some k → ((t : ℕ) → txn_step s t (x t) r ≡ Some (y t)) → (may_follow s n g r ≡ true) × Related n (known_next g r) k y
  plain_step r w e step = (
    and_from (allows s n g r) (not g.failed || is_restarted r) (plain_allows r w ran step) (rw sound refl),
    record {
      number = omega (arith, rel.number, count_runs r w changed.1);
      next = next_runs r w ran;
      statuses = λ t. ap (λ z. status_next t z r) (rel.statuses t) ∙ status_step s t (x t) (y t) r w (step t);
      audits = audits_runs r w changed.1;
      failed = failed_runs r w sound changed.1;
      restarted = λ q. absurd (both_ways (is_restarted r) (plain_restarted r w) q);
    },
  )
    where
      changed : (h.failed ≡ false) × Changes h k r
      changed = step_changes s h k r w e

      sound : g.failed ≡ false
      sound = false_from_ne_true g.failed (λ q. both_ways h.failed changed.0 (rel.failed q))

      ran : runs s h r ≡ Some k
      ran = by_test (h.count == 0) e
        where
          by_test : (c : Bool) → cond c (rules_first s h r) (rules_behind s h r) ≡ Some k → runs s h r ≡ Some k
          by_test true q = first_refuses s h k r w q
          by_test false q = (behind_runs s h k r w q).1
