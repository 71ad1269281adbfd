-- Among the kept records each transaction keeps the rules: its state there goes with its state in the epoch.
use Rattle.std.proofs.Common.{◌≡◌, ℕ, Bool, true, false, List, [], ◌∷◌, ◌++◌, Option, Some, None, refl, ap, sym, subst, ◌∙◌, ◌⊎◌, inl, inr, ⊎_elim, append_assoc}
use Rattle.std.specs.Prelude.{◌==◌, ⊤, IsSome}
use Rattle.dali_geometry.specs.Sizes.{Sizes}
use Rattle.dali_record.specs.declared.operations.Block.{Block}
use Rattle.dali_record.specs.declared.operations.Pending.{Pending}
use Rattle.dali_record.specs.declared.records.Record.{Record}
use Rattle.dali_record.specs.declared.records.Record.TheVariants.{Ended, Solo}
use Rattle.dali_record.specs.Log.{touch_of, undos_of}
use Rattle.dali_record.specs.Damage.{Damage, any_touch, marks, has_corrupt}
use Rattle.dali_record.specs.Legal.{Working, TxnState, Unbegun, Active, Committed, Over, txn_step, concerns, is_of, freeing_op}
use Rattle.dali_record.proofs.Ends.{by_push}
use Rattle.dali_record.proofs.Pushes.{separates, txn_step-other, touch_old, touch_within}
use Rattle.dali_record.proofs.Keeping.{drops, kept_in, is_of_txn, drops_own, kept-dropped, kept-kept, has_corrupt-other, has_corrupt-stays}
use Rattle.dali_record.proofs.Moves.{Moved, begins, alone, works, commits, leaves, frees, ends, moves}
use Rattle.dali_record.proofs.Stages.{state_from, state_before, IsStart, IsWithin, IsWithin-front, Stage, stage, Gives, Covers, solo_falls, others-touch}
use Rattle.dali_history.specs.Kept.Kept.{freed_later, kept_step, kept_next, kept_state}
use Rattle.std.proofs.lemmas.Bool.{eq-eqb}
use Rattle.dali_history.proofs.KeptLemmas.InvariantAlong.{step_beside}
use Rattle.dali_history.proofs.KeptLemmas.WithoutLast.{kept_state_push}

kept_step-unbegun : (s : Sizes) (t : ℕ) (r : Record) → kept_step s t Unbegun r ≡ txn_step s t Unbegun r
kept_step-unbegun s t r = refl

kept_step-active : (s : Sizes) (t : ℕ) (w : Working) (r : Record) → kept_step s t (Active w) r ≡ txn_step s t (Active w) r
kept_step-active s t w r = refl

kept_step-over : (s : Sizes) (t : ℕ) (r : Record) → kept_step s t Over r ≡ txn_step s t Over r
kept_step-over s t r = refl

-- ---- the two states of a transaction
-- without a corrupt block they are the same, but that some removals may not be freed yet, and that one which was over before the epoch never began in it
abbrev pub Twin : Bool → TxnState → TxnState → Type 0
Twin true x y = ⊤
Twin false Unbegun y = y ≡ Unbegun
Twin false (Active w) y = y ≡ Active w
Twin false (Committed ps) y = (zs : List Pending) × (y ≡ Committed (zs ++ ps))
Twin false Over y = (y ≡ Over) ⊎ (y ≡ Unbegun)

twin_true : (c : Bool) (x y : TxnState) → c ≡ true → Twin c x y
twin_true c x y e = rw e tt

-- a solo that frees a removal finds it, or an earlier one that is freed by the same block
freed_later_finds : (b : Block) (zs ps : List Pending) (p : Pending) → is_of (freeing_op p.undo) p b ≡ true → (ys : List Pending) × (freed_later b (zs ++ p ∷ ps) ≡ Some (Committed (ys ++ ps)))
freed_later_finds b [] ps p e = ([], rw e refl)
freed_later_finds b (z ∷ zs) ps p e = by_test (freed_later_finds b zs ps p e) (is_of (freeing_op z.undo) z b) refl
  where
    by_test :
        (ys : List Pending) × (freed_later b (zs ++ p ∷ ps) ≡ Some (Committed (ys ++ ps)))
        → (c : Bool) → is_of (freeing_op z.undo) z b ≡ c → (ys : List Pending) × (freed_later b (z ∷ zs ++ p ∷ ps) ≡ Some (Committed (ys ++ ps)))
    by_test w true f = (zs ++ p ∷ [], rw f (ap (λ qs. Some (Committed qs)) (sym (append_assoc zs (p ∷ []) ps))))
    by_test w false f = (w.0, rw f w.1)

abbrev pub After : Sizes → Damage → ℕ → List Record → TxnState → Type 0
After s d t E x = (y : TxnState) × (kept_state s t (kept_in d E) ≡ Some y) × Twin (has_corrupt (marks d E) t) x y

twin_step :
    (s : Sizes) (d : Damage) (t : ℕ) (E : List Record) (r : Record) (x z : TxnState)
    → Gives E → separates r ≡ false → Stage d t E x → txn_step s t x r ≡ Some z → After s d t E x → After s d t (E ++ r ∷ []) z
twin_step s d t E r x z gives within S e before = by_concern (concerns t r) refl
  where
    y : TxnState
    y = before.0

    -- where r is dropped
    stays : drops d E r ≡ true → kept_state s t (kept_in d (E ++ r ∷ [])) ≡ Some y
    stays f = ap (kept_state s t) (kept-dropped d E r f) ∙ before.1

    -- where it is kept
    goes : (v : TxnState) → drops d E r ≡ false → kept_step s t y r ≡ Some v → kept_state s t (kept_in d (E ++ r ∷ [])) ≡ Some v
    goes v f g = ap (kept_state s t) (kept-kept d E r f) ∙ kept_state_push s t (kept_in d E) r ∙ ap (λ o. kept_next s t o r) before.1 ∙ g

    -- a record of t itself
    own : is_of_txn t r ≡ true → ((has_corrupt (marks d E) t ≡ false) → (v : TxnState) × (kept_step s t y r ≡ Some v) × Twin false z v) → After s d t (E ++ r ∷ []) z
    own f step = by_corrupt (has_corrupt (marks d (E ++ r ∷ [])) t) refl
      where
        by_corrupt : (c : Bool) → has_corrupt (marks d (E ++ r ∷ [])) t ≡ c → After s d t (E ++ r ∷ []) z
        by_corrupt true g = (y, stays (drops_own d E r t f ∙ g), twin_true (has_corrupt (marks d (E ++ r ∷ [])) t) z y g)
        by_corrupt false g =
            let w = step (was (has_corrupt (marks d E) t) refl) in
            (w.0, goes w.0 (drops_own d E r t f ∙ g) w.1, subst (λ c. Twin c z w.0) (sym g) w.2)
          where
            was : (c : Bool) → has_corrupt (marks d E) t ≡ c → has_corrupt (marks d E) t ≡ false
            was true h = let k : has_corrupt (marks d (E ++ r ∷ [])) t ≡ true = has_corrupt-stays d E r t h in absurd (cc)
            was false h = h

    twin : has_corrupt (marks d E) t ≡ false → Twin false x y
    twin f = subst (λ c. Twin c x y) f before.2

    by_move : Moved t x r z → After s d t (E ++ r ∷ []) z
    by_move (begins w a b c) = own (subst (λ q. is_of_txn t q ≡ true) (sym b) (eq-eqb t t refl)) (λ f. (
      z,
      (let g : y ≡ Unbegun = subst (λ u. Twin false u y) a (twin f) in subst (λ u. kept_step s t u r ≡ Some z) (sym g) (subst (λ u. txn_step s t u r ≡ Some z) a e)),
      subst (λ u. Twin false u u) (sym c) refl,
    ))
    by_move (alone p b a g c) = own (subst (λ q. is_of_txn t q ≡ true) (sym g) (eq-eqb t t refl)) (λ f. (
      z,
      (let h : y ≡ Unbegun = subst (λ u. Twin false u y) a (twin f) in subst (λ u. kept_step s t u r ≡ Some z) (sym h) (subst (λ u. txn_step s t u r ≡ Some z) a e)),
      subst (λ u. Twin false u u) (sym c) (inl refl),
    ))
    by_move (works w v a o b f c) = own o (λ f. (
      z,
      (let h : y ≡ Active w = subst (λ u. Twin false u y) a (twin f) in subst (λ u. kept_step s t u r ≡ Some z) (sym h) (subst (λ u. txn_step s t u r ≡ Some z) a e)),
      subst (λ u. Twin false u u) (sym c) refl,
    ))
    by_move (commits w a b c) = own (subst (λ q. is_of_txn t q ≡ true) (sym b) (eq-eqb t t refl)) (λ f. (
      z,
      (let h : y ≡ Active w = subst (λ u. Twin false u y) a (twin f) in subst (λ u. kept_step s t u r ≡ Some z) (sym h) (subst (λ u. txn_step s t u r ≡ Some z) a e)),
      subst (λ u. Twin false u u) (sym c) ([], refl),
    ))
    by_move (leaves w a b c) = own (subst (λ q. is_of_txn t q ≡ true) (sym b) (eq-eqb t t refl)) (λ f. (
      z,
      (let h : y ≡ Active w = subst (λ u. Twin false u y) a (twin f) in subst (λ u. kept_step s t u r ≡ Some z) (sym h) (subst (λ u. txn_step s t u r ≡ Some z) a e)),
      subst (λ u. Twin false u u) (sym c) (inl refl),
    ))
    by_move (ends a b c) = own (subst (λ q. is_of_txn t q ≡ true) (sym b) (eq-eqb t t refl)) (λ f.
        let h : Twin false (Committed []) y = subst (λ u. Twin false u y) a (twin f) in
        let same : (t == t) ≡ true = eq-eqb t t refl in
        let k : kept_step s t (Committed (h.0 ++ [])) (Ended t) ≡ Some Over = rw same refl in
        (Over, subst (λ u. kept_step s t u r ≡ Some Over) (sym h.1) (subst (λ q. kept_step s t (Committed (h.0 ++ [])) q ≡ Some Over) (sym b) k), subst (λ u. Twin false u Over) (sym c) (inl refl)))
    by_move (frees p ps u b a g ne is c) = by_corrupt (has_corrupt (marks d E) t) refl
      where
        corrupt : has_corrupt (marks d (E ++ r ∷ [])) t ≡ has_corrupt (marks d E) t
        corrupt = has_corrupt-other d E r t (subst (λ q. any_touch (λ v. v.txn == t) (touch_of q) ≡ false) (sym g) ne)

        by_corrupt : (k : Bool) → has_corrupt (marks d E) t ≡ k → After s d t (E ++ r ∷ []) z
        by_corrupt true f =
            let falls : drops d E r ≡ true = subst (λ q. drops d E q ≡ true) (sym g) (solo_falls d E t u b p ps gives ne is (subst (λ v. Covers v (undos_of t E)) a S.covers) f) in
            (y, stays falls, twin_true (has_corrupt (marks d (E ++ r ∷ [])) t) z y (corrupt ∙ f))
        by_corrupt false f = by_drop (drops d E r) refl
          where
            h : Twin false (Committed (p ∷ ps)) y
            h = subst (λ v. Twin false v y) a (twin f)

            by_drop : (k : Bool) → drops d E r ≡ k → After s d t (E ++ r ∷ []) z
            by_drop true i = (y, stays i, subst (λ k. Twin k z y) (sym (corrupt ∙ f)) (subst (λ v. Twin false v y) (sym c) (h.0 ++ p ∷ [], h.1 ∙ ap Committed (sym (append_assoc h.0 (p ∷ []) ps)))))
            by_drop false i =
                let w = freed_later_finds b h.0 ps p is in
                let same : (t == t) ≡ true = eq-eqb t t refl in
                let k : kept_step s t (Committed (h.0 ++ p ∷ ps)) (Solo u t b) ≡ Some (Committed (w.0 ++ ps)) = rw (ne, same) w.1 in (
                  Committed (w.0 ++ ps),
                  goes (Committed (w.0 ++ ps)) i (subst (λ v. kept_step s t v r ≡ Some (Committed (w.0 ++ ps))) (sym h.1) (subst (λ q. kept_step s t (Committed (h.0 ++ p ∷ ps)) q ≡ Some (Committed (w.0 ++ ps))) (sym g) k)),
                  subst (λ k. Twin k z (Committed (w.0 ++ ps))) (sym (corrupt ∙ f)) (subst (λ v. Twin false v (Committed (w.0 ++ ps))) (sym c) (w.0, refl)),
                )

    by_concern : (c : Bool) → concerns t r ≡ c → After s d t (E ++ r ∷ []) z
    by_concern true f = by_move (moves s t x r z f within e)
    by_concern false f = (y, at (drops d E r) refl, subst (λ v. Twin (has_corrupt (marks d (E ++ r ∷ [])) t) v y) same (subst (λ k. Twin k x y) (sym (has_corrupt-other d E r t (others-touch t r f))) before.2))
      where
        some_same : (u v : TxnState) → Some u ≡ Some v → u ≡ v
        some_same u v q = cc

        same : x ≡ z
        same = some_same x z (sym (txn_step-other s t x r f) ∙ e)

        at : (k : Bool) → drops d E r ≡ k → kept_state s t (kept_in d (E ++ r ∷ [])) ≡ Some y
        at true g = stays g
        at false g = goes y g (step_beside s t y r f)

pub after : (s : Sizes) (d : Damage) (t : ℕ) (x0 : TxnState) (E : List Record) (x : TxnState) → IsStart x0 → IsWithin E → Gives E → state_from s t x0 E ≡ Some x → After s d t E x
after s d t x0 E x start within gives e = by_push (λ L. IsWithin L → Gives L → (z : TxnState) → state_from s t x0 L ≡ Some z → After s d t L z) first step E within gives x e
  where
    first : IsWithin [] → Gives [] → (z : TxnState) → Some x0 ≡ Some z → After s d t [] z
    first w g z f = (Unbegun, refl, subst (λ v. Twin false v Unbegun) same (⊎_elim (λ a. subst (λ v. Twin false v Unbegun) (sym a) refl) (λ a. subst (λ v. Twin false v Unbegun) (sym a) (inr refl)) start))
      where
        same : x0 ≡ z
        same = cc

    step : (L : List Record) (r : Record) → (IsWithin L → Gives L → (z : TxnState) → state_from s t x0 L ≡ Some z → After s d t L z) → IsWithin (L ++ r ∷ []) → Gives (L ++ r ∷ []) → (z : TxnState) → state_from s t x0 (L ++ r ∷ []) ≡ Some z → After s d t (L ++ r ∷ []) z
    step L r ih w g z f =
        let in' = IsWithin-front L r w in
        let b = state_before s t x0 L r z f in
        let gives' : Gives L = λ i a at. g i a (touch_old L r i (touch_within L i a at) ∙ at) in
        twin_step s d t L r b.0 z gives' in'.1 (stage s d t x0 L b.0 start in'.0 b.1) b.2 (ih in'.0 gives' b.0 b.1)

-- the kept records keep the rules for each transaction for which the epoch does
pub kept_txn : (s : Sizes) (d : Damage) (t : ℕ) (x0 : TxnState) (E : List Record) → IsStart x0 → IsWithin E → Gives E → IsSome (state_from s t x0 E) → IsSome (kept_state s t (kept_in d E))
kept_txn s d t x0 E start within gives some = by_state (state_from s t x0 E) refl some
  where
    by_state : (o : Option TxnState) → state_from s t x0 E ≡ o → IsSome o → IsSome (kept_state s t (kept_in d E))
    by_state None f g = absurd (cc)
    by_state (Some x) f g = let a = after s d t x0 E x start within gives f in rw a.1 refl
