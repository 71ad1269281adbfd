-- The front of a history, as a stop leaves it, keeps all that a history keeps but honesty.
use Rattle.std.proofs.Common.{◌≡◌, ℕ, zero, suc, ◌<◌, Bool, true, false, List, [], ◌∷◌, ◌++◌, length, Option, Some, None, refl, sym, subst, ◌∙◌, arith, append_assoc}
use Rattle.std.specs.Prelude.{fold, IsSome}
use Rattle.std.specs.List.{AllByRecursion}
use Rattle.std.proofs.lemmas.List.{append-nil, take-append-le}
use Rattle.std.proofs.lemmas.List.Folds.{fold_stays}
use Rattle.std.proofs.lemmas.List.Sums.{fold-append}
use Rattle.std.proofs.lemmas.Option.{slice_get_within}
use Rattle.dali_lists.proofs.Lists.{get_front}
use Rattle.dali_lists.proofs.Members.{all_parts}
use Rattle.dali_geometry.specs.Sizes.{Sizes}
use Rattle.dali_record.specs.declared.records.Record.{Record}
use Rattle.dali_record.specs.declared.records.Record.TheVariants.{Format, Restarted}
use Rattle.dali_record.specs.Log.{Touch, touch_at}
use Rattle.dali_record.specs.Epochs.{Epoch, Cut, cut, cut_step}
use Rattle.dali_record.specs.Locks.{IsLockLegalIn, IsLockLegal}
use Rattle.dali_record.specs.Legal.{TxnState, Unbegun, txn_next, txn_state, Rules, rules_start, rules_next, rules_state, sizes_of, TellsScan, IsLegalFor}
use Rattle.dali_record.proofs.Ends.{get_old}
use Rattle.dali_record.proofs.Pushes.{rules_state_push, cut_push, touch_old, touch_within, separates}
use Rattle.dali_history.specs.Recovered.{IsHonest}
use Rattle.dali_history.specs.History.{IsHistory}
use Rattle.dali_history.proofs.Spelled.{AreSpelled-front}
use Rattle.dali_history.proofs.OwnEpoch.{cut_step_more}
use Rattle.dali_history.proofs.ByEpochs.{counts_all, format_alone}

-- ---- places
pub touch_front : (A B : List Record) (i : ℕ) (a : Touch) → touch_at A i ≡ Some a → touch_at (A ++ B) i ≡ Some a
touch_front [] B i a e = absurd (cc)
touch_front (r ∷ A) B zero a e = e
touch_front (r ∷ A) B (suc i) a e = touch_front A B i a e

-- ---- the rules
pub rules_front : (s : Sizes) (o : Option Rules) (B : List Record) → IsSome (fold (rules_next s) o B) → IsSome o
rules_front s None B h = rw (fold_stays (rules_next s) None (λ r. refl) B) at h
rules_front s (Some g) B h = refl

txn_front : (s : Sizes) (t : ℕ) (o : Option TxnState) (B : List Record) → IsSome (fold (txn_next s t) o B) → IsSome o
txn_front s t None B h = rw (fold_stays (txn_next s t) None (λ r. refl) B) at h
txn_front s t (Some x) B h = refl

tells_front : (A B : List Record) → TellsScan (A ++ B) → TellsScan A
tells_front A B tells n rs ds e =
    let within : n < length A = slice_get_within A n (Restarted rs ds) e in
    rw (take-append-le n A B (omega (arith, within))) at (tells n rs ds (get_front A B n (Restarted rs ds) e))

-- the front of a legal log is legal
pub IsLegalFor-front : (s : Sizes) (A B : List Record) → IsLegalFor s (A ++ B) → IsLegalFor s A
IsLegalFor-front s A B legal = record {
  rules = rules_front s (rules_state s A) B (rw (fold-append (rules_next s) (Some rules_start) A B) at legal.rules);
  txns = λ t. txn_front s t (txn_state s t A) B (rw (fold-append (txn_next s t) (Some Unbegun) A B) at (legal.txns t));
  scans = tells_front A B legal.scans;
  reads = λ i a e. legal.reads i a (touch_front A B i a e);
}

-- it has the same sizes
pub sizes_of-front : (A B : List Record) → 0 < length A → sizes_of (A ++ B) ≡ sizes_of A
sizes_of-front [] B h = absurd (omega (arith, h))
sizes_of-front (Format i n ∷ A) B h = refl
sizes_of-front (r ∷ A) B h = refl

-- ---- locks
locks_in_pop : (E : List Record) (r : Record) → IsLockLegalIn (E ++ r ∷ []) → IsLockLegalIn E
locks_in_pop E r legal i j a b lt p q c =
    let in_j : j < length E = touch_within E j b q in
    let in_i : i < length E = touch_within E i a p in
    let w = legal i j a b lt (touch_old E r i in_i ∙ p) (touch_old E r j in_j ∙ q) c in
    (w.0, w.1, w.2, sym (get_old E r w.0 (omega (arith, w.2, in_j))) ∙ w.3)

AreLocked : Cut → Type 0
AreLocked c = AllByRecursion (λ e. IsLockLegalIn e.records) c.closed × IsLockLegalIn c.now.records

locks_kind : (s : Sizes) (L : List Record) (r : Record) (b : Bool) → separates r ≡ b → IsSome (rules_next s (rules_state s L) r) → AreLocked (cut_step (cut L) r) → AreLocked (cut L)
unfolding AreLocked
locks_kind s L r false f k h = let g : AreLocked (record { closed = (cut L).closed; now = record { first = (cut L).now.first; records = (cut L).now.records ++ r ∷ [] } }) = rw (cut_step_more (cut L) r f) at h in (g.0, locks_in_pop (cut L).now.records r g.1)
locks_kind s L (Format i n) true f k h =
    let none : L ≡ [] = format_alone s L (rules_state s L) i n (counts_all s L) k in
    let nothing : AreLocked (cut []) = (tt, λ i j a b lt p q c. absurd (cc)) in
    subst (λ M. AreLocked (cut M)) (sym none) nothing
locks_kind s L (Restarted rs ds) true f k h = let p = all_parts (λ (e : Epoch). IsLockLegalIn e.records) (cut L).closed ((cut L).now ∷ []) h.0 in (p.0, p.1.0)
locks_kind s L r true f k h = absurd (cc)

locks_pop : (s : Sizes) (L : List Record) (r : Record) → IsSome (rules_state s (L ++ r ∷ [])) → IsLockLegal (L ++ r ∷ []) → IsLockLegal L
unfolding AreLocked
locks_pop s L r k h =
    let allowed : IsSome (rules_next s (rules_state s L) r) = rw (rules_state_push s L r) at k in
    let stepped : AreLocked (cut_step (cut L) r) = subst AreLocked (cut_push L r) h in
    locks_kind s L r (separates r) refl allowed stepped

-- it is lock-legal where the log is
pub IsLockLegal-front : (s : Sizes) (A B : List Record) → IsSome (rules_state s (A ++ B)) → IsLockLegal (A ++ B) → IsLockLegal A
IsLockLegal-front s A [] k h = rw (append-nil A) at h
IsLockLegal-front s A (r ∷ B) k h =
    let same : (A ++ r ∷ []) ++ B ≡ A ++ r ∷ B = append_assoc A (r ∷ []) B in
    let longer : IsSome (rules_state s ((A ++ r ∷ []) ++ B)) = subst (λ M. IsSome (rules_state s M)) (sym same) k in
    locks_pop s A r (rules_front s (rules_state s (A ++ r ∷ [])) B (rw (fold-append (rules_next s) (Some rules_start) (A ++ r ∷ []) B) at longer)) (IsLockLegal-front s (A ++ r ∷ []) B longer (subst IsLockLegal (sym same) h))

-- ---- all of them
-- what a stop leaves of a history is one, where it is honest
pub IsHistory-front : (A B : List Record) → 0 < length A → IsHistory (A ++ B) → IsHonest (sizes_of A) A → IsHistory A
IsHistory-front A B some history honest = record {
  some_index = rw (sizes_of-front A B some) at history.some_index;
  some_heap = rw (sizes_of-front A B some) at history.some_heap;
  spelled = AreSpelled-front A B history.spelled;
  legal = IsLegalFor-front (sizes_of A) A B (rw (sizes_of-front A B some) at history.legal);
  locks = IsLockLegal-front (sizes_of (A ++ B)) A B history.legal.rules history.locks;
  honest = honest;
}
