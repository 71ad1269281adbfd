-- The lengths of a legal log's records stay below 2^40 together: the records that use room keep within it, and what may come without any was left by one
-- of these. The numbers that one failed audit and one restart name are apart (spent).
use Rattle.std.proofs.Common.{◌≡◌, ℕ, zero, suc, ◌+◌, ◌*◌, ◌<◌, ◌≤◌, Bool, true, false, cond, List, [], ◌∷◌, ◌++◌, length, take, Option, Some, None, refl, ap, sym, subst, ◌∙◌, ◌⊎◌, inl, inr, ⊎_elim, arith}
use Rattle.std.specs.Prelude.{◌==◌, ◌&&◌, not, sum_by, slice_get, ◌^◌, IsSome, is_some, nat_lt}
use Rattle.std.specs.List.{list_all}
use Rattle.std.proofs.lemmas.List.Sums.{sum_by_push}
use Rattle.std.proofs.lemmas.List.{nil_from_length}
use Rattle.std.proofs.lemmas.Bool.{false_from_ne_true as awake, eqb-true}
use Rattle.dali_lists.proofs.Lists.{get_push}
use Rattle.dali_lists.proofs.Options.{some_same}
use Rattle.dali_lists.proofs.Tests.{left_true}
use Rattle.dali_geometry.specs.Sizes.{Sizes}
use Rattle.dali_record.specs.declared.records.Record.{Record}
use Rattle.dali_record.specs.declared.records.Record.TheVariants.{Format, Begin, Forward, Done, Commit, Ended, Solo, AuditBegin, AuditClean, AuditFail, Restarted, Back}
use Rattle.dali_record.specs.Damage.{has, rolled_list, deleted_list}
use Rattle.dali_record.specs.Epochs.{last_epoch}
use Rattle.dali_record.specs.Spelling.{record_length, CanBeSpelled}
use Rattle.dali_record.specs.Legal.{TxnState, Unbegun, Active, Committed as Ending, Over, txn_state, txn_next, Rules, kept_if, passes, rules_state, rules_first, rules_behind, rules_start, rules_step, TellsScan}
use Rattle.dali_record.proofs.Ends.{by_push}
use Rattle.dali_record.proofs.Pushes.{txn_state_push}
use Rattle.dali_record.proofs.EpochRules.{rules_before, unless_failed}
use Rattle.dali_runs.proofs.CountsLemmas.Tallies.{tallies, next_some, tells_step}
use Rattle.dali_runs.proofs.CountsLemmas.SmallLogs.{lefts, lefts_step, left_of, more, sum_below, sum_none, sum_at, sum_most, none_sum, was_given, never_back, never_solo, open_audits, opens_one, ends_audit, uses, HasRoomFor, room_behind, next_within, bound}
use Rattle.dali_runs.proofs.CountsLemmas.ShortLogs.{block_most, open_of, one_open, none_open, HasSizes, Grows, grows, numbers_if, sizes_most, get_old, take_old, take_new}
use Rattle.dali_runs.specs.Counts.Counts.{AreSpelled, IsLight}

-- more than the bytes that may still come without room
abbrev debt : Sizes → List Record → Rules → ℕ → ℕ
debt s L g n = 740 * lefts s L n + 40 * open_audits g.audits g.closed + 16 * open_of L

abbrev spent : Rules → ℕ
spent g = cond g.restarted 1048608 (cond g.failed 524304 0)

record IsLightAt (s : Sizes) (L : List Record) (g : Rules) (n : ℕ) : Type 0 where
  pub owes : debt s L g n ≤ 1496 * sum_by uses L
  pub weighs : sum_by record_length L + debt s L g n ≤ 269484032 + 1496 * sum_by uses L + spent g
  pub rests : g.restarted ≡ true → (lefts s L n ≡ 0) × (g.audits ≡ [])

-- ---- a record that uses room, and one that was paid for
used : (s : Sizes) (L : List Record) (h k : Rules) (x : Record) (n : ℕ) → IsLightAt s L h n → HasRoomFor h x → h.weight ≡ sum_by record_length L → uses x ≡ 1 → debt s (L ++ x ∷ []) k n ≤ debt s L h n + 1496 → k.restarted ≡ false → IsLightAt s (L ++ x ∷ []) k n
used s L h k x n ih fits weight one more awake = record {
  owes = omega (arith, ih.owes, more, one, sum_by_push uses L x);
  weighs = ⊎_elim (λ none. absurd (omega (arith, none, one))) (λ room. omega (arith, room, weight, ih.owes, more, one, sum_by_push uses L x, sum_by_push record_length L x)) fits;
  rests = λ e. absurd (cc);
}

paid : (s : Sizes) (L : List Record) (h k : Rules) (x : Record) (n : ℕ) → IsLightAt s L h n → uses x ≡ 0 → debt s (L ++ x ∷ []) k n ≤ debt s L h n → record_length x + debt s (L ++ x ∷ []) k n + spent h ≤ debt s L h n + spent k → (k.restarted ≡ true → (lefts s (L ++ x ∷ []) n ≡ 0) × (k.audits ≡ [])) → IsLightAt s (L ++ x ∷ []) k n
paid s L h k x n ih none less less_still rests = record {
  owes = omega (arith, ih.owes, less, none, sum_by_push uses L x);
  weighs = omega (arith, ih.weighs, less_still, none, sum_by_push uses L x, sum_by_push record_length L x);
  rests = rests;
}

-- ---- what the rules say of the state behind a record
of_some : (k g : Rules) (P : Rules → Type 0) → Some k ≡ Some g → P k → P g
of_some k g P e p = subst P (some_same e) p

of_kept : (c : Bool) (k g : Rules) (P : Rules → Type 0) → kept_if c k ≡ Some g → (c ≡ true → P k) → P g
of_kept true k g P e p = of_some k g P e (p refl)
of_kept false k g P e p = absurd (cc)

never_failed : (c : Bool) (o : Option Rules) (g : Rules) → cond c None o ≡ Some g → c ≡ false
never_failed true o g e = absurd (cc)
never_failed false o g e = refl

none_spent : (h : Rules) → h.failed ≡ false → h.restarted ≡ false → spent h ≡ 0
none_spent h e f = rw (f, e) refl

-- something is left to a transaction, or an audit is open: no restart was the last record
left_awake : (s : Sizes) (L : List Record) (h : Rules) (n : ℕ) → IsLightAt s L h n → 1 ≤ lefts s L n → h.restarted ≡ false
left_awake s L h n ih some = awake h.restarted (λ e. omega (arith, some, (ih.rests e).0))

audit_awake : (s : Sizes) (L : List Record) (h : Rules) (n b : ℕ) → IsLightAt s L h n → has h.audits b ≡ true → h.restarted ≡ false
audit_awake s L h n b ih some = awake h.restarted (λ e. let f : has h.audits b ≡ false = ap (λ a. has a b) (ih.rests e).1 in cc)

-- ---- a restart ends all transactions
nothing_left : (s : Sizes) (t : ℕ) (rs ds : List ℕ) (o : Option TxnState) → left_of (txn_next s t o (Restarted rs ds)) ≡ 0
nothing_left s t rs ds None = refl
nothing_left s t rs ds (Some Unbegun) = refl
nothing_left s t rs ds (Some (Active w)) = refl
nothing_left s t rs ds (Some (Ending ps)) = refl
nothing_left s t rs ds (Some Over) = refl

restart_left : (s : Sizes) (L : List Record) (rs ds : List ℕ) (n : ℕ) → lefts s (L ++ Restarted rs ds ∷ []) n ≡ 0
unfolding lefts
restart_left s L rs ds n = sum_none (λ t. left_of (txn_state s t (L ++ Restarted rs ds ∷ []))) n (λ t. ap left_of (txn_state_push s t L (Restarted rs ds)) ∙ nothing_left s t rs ds (txn_state s t L))

-- ---- one record more, behind the first
-- a record of a transaction that something was left to
own : (s : Sizes) (L : List Record) (h k : Rules) (x : Record) (n : ℕ) → IsLightAt s L h n → uses x ≡ 0 → h.failed ≡ false → record_length x ≤ 710 → lefts s (L ++ x ∷ []) n + 1 ≤ lefts s L n → k.audits ≡ h.audits → k.closed ≡ h.closed → k.restarted ≡ false → open_of (L ++ x ∷ []) ≡ open_of L + 1 → IsLightAt s (L ++ x ∷ []) k n
own s L h k x n ih none sound short less audits closed awake_still one =
    let slept : spent h ≡ 0 = none_spent h sound (left_awake s L h n ih (omega (arith, less))) in
    let open_still : open_audits k.audits k.closed ≡ open_audits h.audits h.closed = ap (λ a. open_audits a k.closed) audits ∙ ap (open_audits h.audits) closed in
    paid s L h k x n ih none (omega (arith, less, open_still, one)) (omega (arith, less, open_still, one, slept, short)) (λ e. absurd (cc))

abbrev AreGiven : Sizes → List Record → Type 0
AreGiven s L = (t : ℕ) → IsSome (txn_state s t L)

behind : (s : Sizes) (L : List Record) (h g : Rules) (x : Record) (n : ℕ) → rules_state s L ≡ Some h → h.next ≤ n → rules_behind s h x ≡ Some g → AreGiven s (L ++ x ∷ []) → CanBeSpelled x → Grows L x → IsLightAt s L h n → IsLightAt s (L ++ x ∷ []) g n
unfolding open_audits
behind s L h g (Format i m) n e l r some is grow ih = absurd (let f : None ≡ Some g = unless_failed h.failed None g r in cc)
behind s L h g (Begin t) n e l r some is grow ih =
    of_kept _ _ g (λ k. IsLightAt s (L ++ Begin t ∷ []) k n) (unless_failed h.failed _ g r)
    (λ kept. used s L h _ (Begin t) n ih (room_behind s h g (Begin t) r) (tallies s L h e).1 refl (omega (arith, lefts_step s L (Begin t) n some, sum_most t 2 n, none_sum n, one_open L (Begin t) refl)) refl)
behind s L h g (Forward t b) n e l r some is grow ih =
    of_kept _ _ g (λ k. IsLightAt s (L ++ Forward t b ∷ []) k n) (unless_failed h.failed _ g r)
    (λ kept. used s L h _ (Forward t b) n ih (room_behind s h g (Forward t b) r) (tallies s L h e).1 refl (omega (arith, lefts_step s L (Forward t b) n some, sum_most t 1 n, none_sum n, one_open L (Forward t b) refl)) refl)
behind s L h g (Done t c a) n e l r some is grow ih =
    of_kept _ _ g (λ k. IsLightAt s (L ++ Done t c a ∷ []) k n) (unless_failed h.failed _ g r)
    (λ kept. used s L h _ (Done t c a) n ih (room_behind s h g (Done t c a) r) (tallies s L h e).1 refl (omega (arith, lefts_step s L (Done t c a) n some, none_sum n, one_open L (Done t c a) refl)) refl)
behind s L h g (Commit t) n e l r some is grow ih =
    of_some _ g (λ k. IsLightAt s (L ++ Commit t ∷ []) k n) (unless_failed h.failed _ g r)
    (own s L h _ (Commit t) n ih refl (never_failed h.failed _ g r) (omega arith) (omega (arith, lefts_step s L (Commit t) n some, none_sum n, sum_at t 1 n (omega (arith, l, was_given s L h t (Commit t) e (some t) (never_back t (Some Unbegun)))))) refl refl refl (one_open L (Commit t) refl))
behind s L h g (Ended t) n e l r some is grow ih =
    of_some _ g (λ k. IsLightAt s (L ++ Ended t ∷ []) k n) (unless_failed h.failed _ g r)
    (own s L h _ (Ended t) n ih refl (never_failed h.failed _ g r) (omega arith) (omega (arith, lefts_step s L (Ended t) n some, none_sum n, sum_at t 1 n (omega (arith, l, was_given s L h t (Ended t) e (some t) (never_back t (Some Unbegun)))))) refl refl refl (one_open L (Ended t) refl))
behind s L h g (Solo t p b) n e l r some is grow ih =
    of_kept _ _ g (λ k. IsLightAt s (L ++ Solo t p b ∷ []) k n) (unless_failed h.failed _ g r)
    (λ kept. own s L h _ (Solo t p b) n ih refl (never_failed h.failed _ g r) (omega (arith, block_most b is.2)) (omega (arith, lefts_step s L (Solo t p b) n some, none_sum n, sum_at p 1 n (omega (arith, l, was_given s L h p (Solo t p b) e (some p) (never_solo s t p b))))) refl refl refl (one_open L (Solo t p b) refl))
behind s L h g (Back t b) n e l r some is grow ih =
    of_kept _ _ g (λ k. IsLightAt s (L ++ Back t b ∷ []) k n) (unless_failed h.failed _ g r)
    (λ kept. own s L h _ (Back t b) n ih refl (never_failed h.failed _ g r) (omega (arith, block_most b is.1)) (omega (arith, lefts_step s L (Back t b) n some, none_sum n, sum_at t 1 n (omega (arith, l, was_given s L h t (Back t b) e (some t) (never_back t (Some Unbegun)))))) refl refl refl (one_open L (Back t b) refl))
behind s L h g AuditBegin n e l r some is grow ih =
    of_kept _ _ g (λ k. IsLightAt s (L ++ AuditBegin ∷ []) k n) (unless_failed h.failed _ g r)
    (λ kept. used s L h _ AuditBegin n ih (room_behind s h g AuditBegin r) (tallies s L h e).1 refl (omega (arith, lefts_step s L AuditBegin n some, none_sum n, opens_one h.count h.closed h.audits, one_open L AuditBegin refl)) refl)
behind s L h g (AuditClean b) n e l r some is grow ih =
    of_kept _ _ g (λ k. IsLightAt s (L ++ AuditClean b ∷ []) k n) (unless_failed h.failed _ g r)
    (λ kept.
    let slept : spent h ≡ 0 = none_spent h (never_failed h.failed _ g r) (audit_awake s L h n b ih (left_true (has h.audits b) _ kept)) in
    paid s L h _ (AuditClean b) n ih refl
    (omega (arith, lefts_step s L (AuditClean b) n some, none_sum n, ends_audit h b kept, one_open L (AuditClean b) refl))
    (omega (arith, lefts_step s L (AuditClean b) n some, none_sum n, ends_audit h b kept, one_open L (AuditClean b) refl, slept)) (λ e. absurd (cc)))
behind s L h g (AuditFail b rs) n e l r some is grow ih =
    of_kept _ _ g (λ k. IsLightAt s (L ++ AuditFail b rs ∷ []) k n) (unless_failed h.failed _ g r)
    (λ kept.
    let has_one : (has h.audits b && not (has h.closed b)) ≡ true = left_true (has h.audits b && not (has h.closed b)) _ kept in
    let slept : spent h ≡ 0 = none_spent h (never_failed h.failed _ g r) (audit_awake s L h n b ih (left_true (has h.audits b) _ has_one)) in
    paid s L h _ (AuditFail b rs) n ih refl
    (omega (arith, lefts_step s L (AuditFail b rs) n some, none_sum n, ends_audit h b has_one, one_open L (AuditFail b rs) refl))
    (omega (arith, lefts_step s L (AuditFail b rs) n some, none_sum n, ends_audit h b has_one, one_open L (AuditFail b rs) refl, slept, grow)) (λ e. absurd (cc)))
behind s L h g (Restarted rs ds) n e l r some is grow ih =
    of_kept _ _ g (λ k. IsLightAt s (L ++ Restarted rs ds ∷ []) k n) r
    (λ kept.
    paid s L h _ (Restarted rs ds) n ih refl
    (omega (arith, restart_left s L rs ds n, none_open L (Restarted rs ds) refl))
    (omega (arith, restart_left s L rs ds n, none_open L (Restarted rs ds) refl, spent_once h.restarted h.failed kept, grow)) (λ e. (restart_left s L rs ds n, refl)))
  where
    spent_once : (b c : Bool) → not b ≡ true → cond b 1048608 (cond c 524304 0) ≤ 524304
    spent_once true c e = absurd (cc)
    spent_once false true e = omega arith
    spent_once false false e = omega arith

-- ---- the first
first : (s : Sizes) (x : Record) (g : Rules) (n : ℕ) → rules_first s rules_start x ≡ Some g → IsLightAt s (x ∷ []) g n
unfolding lefts open_audits
first s (Format i m) g n r = of_kept _ (passes rules_start (Format i m)) g (λ k. IsLightAt s (Format i m ∷ []) k n) r (λ kept. record {
  owes = omega (arith, none);
  weighs = omega (arith, none);
  rests = λ e. absurd (cc);
})
  where
    none : sum_below (λ t. left_of (txn_state s t (Format i m ∷ []))) n ≡ 0
    none = sum_none (λ t. left_of (txn_state s t (Format i m ∷ []))) n (λ t. refl)
first s (Begin t) g n r = absurd (cc)
first s _ g n r = absurd (cc)

-- ---- all of it
abbrev Light : Sizes → List Record → Type 0
Light s L = (g : Rules) → rules_state s L ≡ Some g → AreGiven s L → AreSpelled L → TellsScan L → (n : ℕ) → g.next ≤ n → IsLightAt s L g n

light : (s : Sizes) → HasSizes s → (L : List Record) → Light s L
unfolding lefts open_audits
light s sizes = by_push (Light s) (λ g e some spelled tells n l. at_start g n (some_same e)) step
  where
    at_start : (g : Rules) (n : ℕ) → rules_start ≡ g → IsLightAt s [] g n
    at_start g n is = subst (λ (z : Rules). IsLightAt s [] z n) is (record {
      owes = omega (arith, none_sum n);
      weighs = omega (arith, none_sum n);
      rests = λ e. absurd (cc);
    })

    step : (L : List Record) (x : Record) → Light s L → Light s (L ++ x ∷ [])
    step L x ih g e some spelled tells n l =
        let b : (h : Rules) × (rules_state s L ≡ Some h) × (rules_step s h x ≡ Some g) = rules_before s L x g e in
        by_test b.0 b.1 (b.0.count == 0) refl b.2
      where
        grow : (h : Rules) → rules_step s h x ≡ Some g → Grows L x
        grow h r =
            grows s L x sizes (spelled (length L) x (get_push L x)) (numbers_if s h g x r)
            (λ rs ds is. let t = tells (length L) rs ds (get_push L x ∙ ap Some is) in (t.0 ∙ ap (λ m. rolled_list (last_epoch m)) (take_new L x), t.1 ∙ ap (λ m. deleted_list (last_epoch m)) (take_new L x)))

        by_test : (h : Rules) → rules_state s L ≡ Some h → (c : Bool) → (h.count == 0) ≡ c → cond c (rules_first s h x) (rules_behind s h x) ≡ Some g → IsLightAt s (L ++ x ∷ []) g n
        by_test h was true f r = from_start L (nil_from_length L (sym (tallies s L h was).0 ∙ eqb-true h.count 0 f)) was r
          where
            from_start : (M : List Record) → M ≡ [] → rules_state s M ≡ Some h → rules_first s h x ≡ Some g → IsLightAt s (M ++ x ∷ []) g n
            from_start [] q v r = let is : rules_start ≡ h = cc in first s x g n (subst (λ z. rules_first s z x ≡ Some g) (sym is) r)
            from_start (y ∷ M) q v r = absurd (cc)
        by_test h was false f r =
            let stepped : rules_step s h x ≡ Some g = rw f r in
            let before : h.next ≤ n = next_within x h.next n (omega (arith, l, (tells_step s h x g stepped).2)) in
            let old : IsLightAt s L h n = ih h was (λ t. next_some s t (txn_state s t L) x (rw (txn_state_push s t L x) at (some t))) (λ i y k. spelled i y (get_old L x i y k)) (λ m rs ds k. let t = tells m rs ds (get_old L x m (Restarted rs ds) k) in (t.0 ∙ ap (λ z. rolled_list (last_epoch z)) (take_old L x m (Restarted rs ds) k), t.1 ∙ ap (λ z. deleted_list (last_epoch z)) (take_old L x m (Restarted rs ds) k))) n before in
            behind s L h g x n was before r some (spelled (length L) x (get_push L x)) (grow h stepped) old

spent_few : (b c : Bool) → cond b 1048608 (cond c 524304 0) ≤ 1048608
spent_few true c = omega arith
spent_few false true = omega arith
spent_few false false = omega arith

pub is_light : IsLight
is_light s [] legal spelled = omega arith
is_light s (x ∷ L) legal spelled = by_state (rules_state s (x ∷ L)) refl legal.rules
  where
    by_state : (o : Option Rules) → rules_state s (x ∷ L) ≡ o → IsSome o → sum_by record_length (x ∷ L) < 2 ^ 40
    by_state None e k = absurd (cc)
    by_state (Some g) e k =
        let here : IsLightAt s (x ∷ L) g g.next = light s (sizes_most s x L legal.rules (spelled 0 x refl)) (x ∷ L) g e legal.txns spelled legal.scans g.next (omega arith) in
        omega (arith, here.weighs, (bound s (x ∷ L) g e legal.txns g.next (omega arith)).1, spent_few g.restarted g.failed)
