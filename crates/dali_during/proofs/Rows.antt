-- The table's rows in words of the last epoch's records.
use Rattle.std.proofs.Common.{◌≡◌, ℕ, Bool, true, false, List, [], ◌∷◌, ◌++◌, Option, Some, None, refl, ap, sym, subst, ◌∙◌, ◌⊎◌, inl, inr, ⊎_elim}
use Rattle.std.specs.Prelude.{◌==◌, ◌&&◌, ◌||◌, not, if◌then◌else◌, IsSome, is_some, slice_get, Contains, filter_map}
use Rattle.std.proofs.lemmas.Bool.{both_ways, eq-eqb, not-true, or_parts}
use Rattle.dali_lists.proofs.Options.{some_of}
use Rattle.dali_geometry.specs.Sizes.{Sizes}
use Rattle.dali_record.specs.declared.operations.Pending.{Pending}
use Rattle.dali_record.specs.declared.records.Record.{Record}
use Rattle.dali_record.specs.declared.records.Record.TheVariants.{Format, Begin, Forward, Done, Commit, Ended, Solo, AuditBegin, AuditClean, AuditFail, Restarted, Back}
use Rattle.dali_record.specs.Log.{undos_of, undo_step, committed, begun, ended, begin_by, ended_by}
use Rattle.dali_record.specs.Epochs.{cut, last_epoch}
use Rattle.dali_record.specs.Damage.{has, marks}
use Rattle.dali_record.specs.Legal.{TxnState, Unbegun, Active, Over, Committed as Ending, txn_state, allowed}
use Rattle.dali_record.proofs.Ends.{by_push}
use Rattle.dali_record.proofs.Pushes.{undos_of_push}
use Rattle.dali_history.specs.Kept.Kept.{kept_state, kept_step, kept_next, AreKept}
use Rattle.dali_history.proofs.HeadlineLemmas.Undamaged.{unmarked, no_corrupt}
use Rattle.dali_history.proofs.HeadlineLemmas.KeptTxns.{Twin, After, after}
use Rattle.dali_during.proofs.EpochNow.{StartsAt, starts_at}
use Rattle.dali_record.proofs.EpochRules.{StandsThrough, stands_in_epochs, AllEpochs-contains}
use Rattle.dali_history.proofs.KeptLemmas.WithoutLast.{left, HasEnded, kept_state_push}
use Rattle.dali_history.proofs.KeptLemmas.Invariant.{Knows}
use Rattle.dali_history.proofs.KeptLemmas.InvariantSteps.{along_kept}
use Rattle.dali_runs.specs.State.{CoreState}
use Rattle.dali_runs.specs.Run.{Bases, RunsOn}
use Rattle.dali_during.proofs.Premises.{undamaged, kept_all, last_in, epoch_whole}

-- ---- the state that the law speaks of
-- by the rules over the whole log, and by the law over the last epoch
pub twins :
    (bases : Bases) (L : List Record) (c : CoreState) (t : ℕ) → RunsOn bases L c
    → (x y : TxnState) × (txn_state c.system.sizes t L ≡ Some x) × (kept_state c.system.sizes t (last_epoch L).records ≡ Some y) × Twin false x y
twins bases L c t run = (x.0, a.0, x.1, subst (λ E. kept_state c.system.sizes t E ≡ Some a.0) (kept_all undamaged (last_epoch L).records refl) a.1, subst (λ b. Twin b x.0 a.0) (no_corrupt (marks undamaged (last_epoch L).records) t (unmarked undamaged (last_epoch L).records refl)) a.2)
  where
    start : StartsAt c.system.sizes t L (cut L)
    start = starts_at c.system.sizes t L run.log.legal.rules (run.log.legal.txns t)

    stands : StandsThrough c.system.sizes (last_epoch L)
    stands = AllEpochs-contains (StandsThrough c.system.sizes) L (last_epoch L) (stands_in_epochs c.system.sizes L run.log.legal) (last_in L)

    x : (z : TxnState) × (txn_state c.system.sizes t L ≡ Some z)
    x = some_of (txn_state c.system.sizes t L) (run.log.legal.txns t)

    a : After c.system.sizes undamaged t (last_epoch L).records x.0
    a = after c.system.sizes undamaged t start.0 (last_epoch L).records x.0 start.1 stands.0 (λ i b at. (epoch_whole c.system.sizes L run.log.legal run.log.spelled i b at).gives) (sym start.2 ∙ x.1)

-- ---- one that has no Begin has no undo
abbrev NotBegun : Sizes → ℕ → List Record → Type 0
NotBegun s t J = IsSome (kept_state s t J) → has (begun J) t ≡ false → ((kept_state s t J ≡ Some Unbegun) ⊎ (kept_state s t J ≡ Some Over)) × (undos_of t J ≡ [])

abbrev Idle : TxnState → Type 0
Idle x = (x ≡ Unbegun) ⊎ (x ≡ Over)

-- a record that isn't its Begin leaves such a transaction so, and none of its undos
idle_allowed : (c d : Bool) (x y : TxnState) → Idle x → allowed c (Some x) ≡ Some y → Idle y × (c ≡ true)
idle_allowed true d x y h e = let same : x ≡ y = cc (e) in (subst Idle same h, refl)
idle_allowed false d x y h e = absurd (cc (e))

idle_same : (x y : TxnState) → Idle x → Some x ≡ Some y → Idle y
idle_same x y h e = let same : x ≡ y = cc (e) in subst Idle same h

not_own : (t u : ℕ) (us vs : List Pending) → (u == t) ≡ false → (if u == t then us else vs) ≡ vs
not_own t u us vs e = rw e refl

idle_if : (b c d : Bool) (y : TxnState) → (if b then allowed c (Some Over) else allowed d (Some Unbegun)) ≡ Some y → Idle y
idle_if true c d y e = (idle_allowed c true Over y (inr refl) e).0
idle_if false c d y e = (idle_allowed d true Unbegun y (inl refl) e).0

abbrev Leaves : ℕ → Record → TxnState → Type 0
Leaves t r y = Idle y × (undo_step t [] r ≡ [])

unbegun_idle : (s : Sizes) (t : ℕ) (r : Record) (y : TxnState) → kept_step s t Unbegun r ≡ Some y → has (begun (r ∷ [])) t ≡ false → Leaves t r y
unbegun_idle s t (Format i h) y e n = (idle_same Unbegun y (inl refl) e, refl)
unbegun_idle s t (Begin u) y e n = (go (u == t) n e, refl)
  where
    go : (b : Bool) → (b || false) ≡ false → Some (if b then Active (record { undos = []; mark = 0; progress = Rattle.dali_record.specs.Calls.Fresh; way = Rattle.dali_record.specs.Legal.Onward }) else Unbegun) ≡ Some y → Idle y
    go true f g = absurd (cc (f))
    go false f g = idle_same Unbegun y (inl refl) g
unbegun_idle s t (Forward u b) y e n = let a = idle_allowed (not (u == t)) true Unbegun y (inl refl) e in (a.0, not_own t u _ [] (not-true (u == t) a.1))
unbegun_idle s t (Back u b) y e n = let a = idle_allowed (not (u == t)) true Unbegun y (inl refl) e in (a.0, not_own t u _ [] (not-true (u == t) a.1))
unbegun_idle s t (Done u c q) y e n = ((idle_allowed (not (u == t)) true Unbegun y (inl refl) e).0, refl)
unbegun_idle s t (Commit u) y e n = ((idle_allowed (not (u == t)) true Unbegun y (inl refl) e).0, refl)
unbegun_idle s t (Ended u) y e n = ((idle_allowed (not (u == t)) true Unbegun y (inl refl) e).0, refl)
unbegun_idle s t (Solo u p b) y e n = (idle_if (u == t) (not (p == t)) (not (p == t)) y e, refl)
unbegun_idle s t AuditBegin y e n = (idle_same Unbegun y (inl refl) e, refl)
unbegun_idle s t (AuditClean b) y e n = (idle_same Unbegun y (inl refl) e, refl)
unbegun_idle s t (AuditFail b rs) y e n = (idle_same Unbegun y (inl refl) e, refl)
unbegun_idle s t (Restarted rs ds) y e n = (idle_same Unbegun y (inl refl) e, refl)

over_idle : (s : Sizes) (t : ℕ) (r : Record) (y : TxnState) → kept_step s t Over r ≡ Some y → Leaves t r y
over_idle s t (Begin u) y e = ((idle_allowed (not (u == t)) true Over y (inr refl) e).0, refl)
over_idle s t (Forward u b) y e = let a = idle_allowed (not (u == t)) true Over y (inr refl) e in (a.0, not_own t u _ [] (not-true (u == t) a.1))
over_idle s t (Back u b) y e = let a = idle_allowed (not (u == t)) true Over y (inr refl) e in (a.0, not_own t u _ [] (not-true (u == t) a.1))
over_idle s t (Done u c q) y e = ((idle_allowed (not (u == t)) true Over y (inr refl) e).0, refl)
over_idle s t (Commit u) y e = ((idle_allowed (not (u == t)) true Over y (inr refl) e).0, refl)
over_idle s t (Ended u) y e = ((idle_allowed (not (u == t)) true Over y (inr refl) e).0, refl)
over_idle s t (Solo u p b) y e = ((idle_allowed (not (u == t) && not (p == t)) true Over y (inr refl) e).0, refl)
over_idle s t _ y e = (idle_same Over y (inr refl) e, refl)

begun_push : (t : ℕ) (J : List Record) (r : Record) → has (begun (J ++ r ∷ [])) t ≡ (has (begun J) t || has (begun (r ∷ [])) t)
begun_push t J r = ap (λ ts. has ts t) (Rattle.std.proofs.lemmas.List.Elements.filter_map-append begin_by J (r ∷ [])) ∙ Rattle.std.proofs.lemmas.List.Folds.list_any-append (λ u. u == t) (begun J) (begun (r ∷ []))

not_begun : (s : Sizes) (t : ℕ) (J : List Record) → NotBegun s t J
not_begun s t J = by_push (λ M. NotBegun s t M) (λ some n. (inl refl, refl)) step J
  where
    step : (M : List Record) (r : Record) → NotBegun s t M → NotBegun s t (M ++ r ∷ [])
    step M r ih some n =
        let y = some_of (kept_state s t (M ++ r ∷ [])) some in
        let x = some_of (kept_state s t M) (Rattle.dali_history.proofs.KeptLemmas.WithoutLast.kept_before s t M r some) in
        let b = or_parts (has (begun M) t) (has (begun (r ∷ [])) t) (sym (begun_push t M r) ∙ n) in
        let before = ih (rw (x.1) refl) b.0 in
        let moved : kept_next s t (kept_state s t M) r ≡ Some y.0 = sym (kept_state_push s t M r) ∙ y.1 in
        let l = ⊎_elim (λ e. unbegun_idle s t r y.0 (subst (λ o. kept_next s t o r ≡ Some y.0) e moved) b.1) (λ e. over_idle s t r y.0 (subst (λ o. kept_next s t o r ≡ Some y.0) e moved)) before.0 in
        (⊎_elim (λ e. inl (y.1 ∙ ap (λ z. Some z) e)) (λ e. inr (y.1 ∙ ap (λ z. Some z) e)) l.0, undos_of_push t M r ∙ ap (λ us. undo_step t us r) before.1 ∙ l.1)

-- ---- Ended
ended_in : (t : ℕ) (J : List Record) → has (ended J) t ≡ true → HasEnded t J
ended_in t [] h = absurd (cc (h))
ended_in t (r ∷ J) h = go (ended_by r) refl (ended_in t J)
  where
    is_ended : (q : Record) (u : ℕ) → ended_by q ≡ Some u → q ≡ Ended u
    is_ended (Ended v) u e = let same : v ≡ u = cc (e) in ap (λ (z : ℕ). Ended z) same
    is_ended _ u e = absurd (cc (e))

    go : (o : Option ℕ) → ended_by r ≡ o → (has (ended J) t ≡ true → HasEnded t J) → HasEnded t (r ∷ J)
    go None e ih = let x = ih (rw e at h) in (Rattle.std.specs.Prelude.suc x.0, x.1)
    go (Some u) e ih = by_test (u == t) refl (rw e at h)
      where
        by_test : (b : Bool) → (u == t) ≡ b → ((u == t) || has (ended J) t) ≡ true → HasEnded t (r ∷ J)
        by_test true f g = (0, ap (λ z. Some z) (is_ended r u e ∙ ap (λ (z : ℕ). Ended z) (Rattle.std.proofs.lemmas.Bool.eqb-true u t f)))
        by_test false f g = let x = ih (rw f at g) in (Rattle.std.specs.Prelude.suc x.0, x.1)

-- who doesn't run has left no undo
pub idle_left : (s : Sizes) (base : List (List ℕ)) (E : List Record) (t : ℕ) → AreKept s base [] E → (has (begun E) t && not (has (ended E) t)) ≡ false → left t E ≡ []
idle_left s base E t kept h = go (has (begun E) t) refl (has (ended E) t) refl h
  where
    known : Knows t E (kept_state s t E)
    known = (along_kept s base [] E kept).known t

    none : (c : Bool) → undos_of t E ≡ [] → (if c then [] else undos_of t E) ≡ []
    none true e = refl
    none false e = e

    over : HasEnded t E → (o : Option TxnState) → Knows t E o → left t E ≡ []
    over e None k = absurd k
    over e (Some Unbegun) k = absurd (k.3 e)
    over e (Some (Active w)) k = absurd (k.2 e)
    over e (Some (Ending ps)) k = absurd (k.1 e)
    over e (Some Over) k = k e

    go : (b : Bool) → has (begun E) t ≡ b → (c : Bool) → has (ended E) t ≡ c → (b && not c) ≡ false → left t E ≡ []
    go false e c f g = none (has (committed E) t) (not_begun s t E (kept.calls.txns t) e).1
    go true e true f g = over (ended_in t E f) (kept_state s t E) known
    go true e false f g = absurd (cc (g))
