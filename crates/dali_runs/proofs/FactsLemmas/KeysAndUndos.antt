-- A run's table, locks and counts in words of the log; and a legal log cut off.
use Rattle.std.proofs.Common.{◌≡◌, ℕ, Bool, true, false, List, [], Option, Some, None, refl, ap, sym, subst, ◌∙◌, ◌⊎◌, inl, inr, ⊎_elim}
use Rattle.std.specs.Prelude.{IsSome, is_some, ◌==◌, not, slice_get}
use Rattle.dali_lists.proofs.Numbers.{eqb-self}
use Rattle.dali_geometry.specs.Sizes.{Sizes}
use Rattle.dali_record.specs.declared.records.Record.{Record}
use Rattle.dali_record.specs.declared.records.Record.TheVariants.{Format, Begin, Forward, Done, Commit, Ended, Solo, AuditBegin, AuditClean, AuditFail, Restarted, Back}
use Rattle.dali_record.specs.Log.{undos_of}
use Rattle.dali_record.specs.Epochs.{Cut, cut, cut_step, last_epoch}
use Rattle.dali_record.specs.Legal.{TxnState, Unbegun, Active, Committed as Ending, Over, txn_state, txn_next, allowed, over_step, is_none_left}
use Rattle.dali_record.proofs.Ends.{by_push, get_push_cases}
use Rattle.dali_record.proofs.Pushes.{txn_state_push, cut_push}
use Rattle.dali_record.proofs.Tracks.{active-undos}
use Rattle.dali_record.proofs.Moves.{over_next_is}
use Rattle.dali_runs.specs.State.{TxnRow, row_of}
use Rattle.dali_att.specs.declared.state.State.TheVariants.{Committed as CommittedRow}
use Rattle.dali_runs.specs.Run.{IsRow, is_committed}
use Rattle.dali_runs.specs.Facts.Facts.{HoldsItsKeys, HasItsUndos, HasCounts}
use Rattle.dali_runs.proofs.OneMore.{is_inside, step_inside}
use Rattle.dali_runs.proofs.CountsLemmas.Tallies.{tallies, next_some, numbers_drawn}

-- ---- Ended ends a transaction for good
if_allowed : (c : Bool) (x : TxnState) → IsSome (allowed c (Some x)) → allowed c (Some x) ≡ Some x
if_allowed true x h = refl
if_allowed false x h = absurd (cc)

over_stays : (t : ℕ) (x : Record) → IsSome (over_step t x) → over_step t x ≡ Some Over
over_stays t x k = let next = over_next_is t x in next.1 ∙ if_allowed next.0 Over (subst IsSome next.1 k)

never : (c : Bool) (x : TxnState) → c ≡ true → IsSome (allowed (not c) (Some x)) → ⊥
never true x e h = cc
never false x e h = cc

ends : (s : Sizes) (t : ℕ) (o : Option TxnState) → IsSome (txn_next s t o (Ended t)) → txn_next s t o (Ended t) ≡ Some Over
ends s t None h = absurd (cc)
ends s t (Some Unbegun) h = absurd (never (t == t) Unbegun (eqb-self t) h)
ends s t (Some (Active w)) h = let h2 = rw (eqb-self t) at h in rw (eqb-self t) (if_allowed (is_none_left w.undos) Over h2)
ends s t (Some (Ending ps)) h = let h2 = rw (eqb-self t) at h in rw (eqb-self t) (if_allowed (is_none_left ps) Over h2)
ends s t (Some Over) h = absurd (never (t == t) Over (eqb-self t) h)

over_next : (s : Sizes) (t : ℕ) (o : Option TxnState) (x : Record) → o ≡ Some Over → IsSome (txn_next s t o x) → txn_next s t o x ≡ Some Over
over_next s t o x e h = let h2 : IsSome (txn_next s t (Some Over) x) = subst (λ p. IsSome (txn_next s t p x)) e h in ap (λ p. txn_next s t p x) e ∙ over_stays t x h2

EndsIt : Sizes → ℕ → List Record → Type 0
EndsIt s t L = IsSome (txn_state s t L) → (k : ℕ) → slice_get (last_epoch L).records k ≡ Some (Ended t) → txn_state s t L ≡ Some Over

pub ended_over : (s : Sizes) (t : ℕ) (L : List Record) → IsSome (txn_state s t L) → (k : ℕ) → slice_get (last_epoch L).records k ≡ Some (Ended t) → txn_state s t L ≡ Some Over
unfolding EndsIt
ended_over s t = by_push (EndsIt s t) (λ h k e. absurd (cc)) (λ L x here h k e. txn_state_push s t L x ∙ step L x here (rw (txn_state_push s t L x) at h) k (subst (λ (q : Cut). slice_get q.now.records k ≡ Some (Ended t)) (cut_push L x) e))
  where
    outside : (c : Cut) (x : Record) (k : ℕ) → is_inside x ≡ false → slice_get (cut_step c x).now.records k ≡ Some (Ended t) → (slice_get c.now.records k ≡ Some (Ended t)) ⊎ (x ≡ Ended t)
    outside c (Format m n) k f g = absurd (cc)
    outside c (Restarted rs ds) k f g = absurd (cc)
    outside c (Begin u) k f g = absurd (cc)
    outside c (Forward u b) k f g = absurd (cc)
    outside c (Done u q r) k f g = absurd (cc)
    outside c (Commit u) k f g = absurd (cc)
    outside c (Ended u) k f g = absurd (cc)
    outside c (Solo u p b) k f g = absurd (cc)
    outside c AuditBegin k f g = absurd (cc)
    outside c (AuditClean b) k f g = absurd (cc)
    outside c (AuditFail b rs) k f g = absurd (cc)
    outside c (Back u b) k f g = absurd (cc)

    in_cut : (c : Cut) (x : Record) (k : ℕ) → slice_get (cut_step c x).now.records k ≡ Some (Ended t) → (slice_get c.now.records k ≡ Some (Ended t)) ⊎ (x ≡ Ended t)
    in_cut c x k e = by_inside (is_inside x) refl x e
      where
        by_inside : (b : Bool) → is_inside x ≡ b → (z : Record) → slice_get (cut_step c x).now.records k ≡ Some (Ended t) → (slice_get c.now.records k ≡ Some (Ended t)) ⊎ (x ≡ Ended t)
        by_inside true f z g = ⊎_elim (λ p. inl p.1) (λ p. inr p.1) (get_push_cases c.now.records x k (Ended t) (rw (step_inside c x f) at g))
        by_inside false f z g = outside c x k f g

    step : (L : List Record) (x : Record) → EndsIt s t L → IsSome (txn_next s t (txn_state s t L) x) → (k : ℕ) → slice_get (cut_step (cut L) x).now.records k ≡ Some (Ended t) → txn_next s t (txn_state s t L) x ≡ Some Over
    step L x here h k e = ⊎_elim
        (λ old. over_next s t (txn_state s t L) x (here (next_some s t (txn_state s t L) x h) k old) h)
        (λ new. subst (λ z. txn_next s t (txn_state s t L) z ≡ Some Over) (sym new) (ends s t (txn_state s t L) (subst (λ z. IsSome (txn_next s t (txn_state s t L) z)) new h)))
        (in_cut (cut L) x k e)

pub over_row : (o : Option TxnState) (row : Option TxnRow) → IsRow o row → o ≡ Some Over → row ≡ None
over_row None row r e = absurd r
over_row (Some Unbegun) row r e = r
over_row (Some (Active w)) row r e = absurd (cc)
over_row (Some (Ending ps)) row r e = absurd (cc)
over_row (Some Over) row r e = r

pub holds_its_keys : HoldsItsKeys
holds_its_keys bases L c run i a e h = ⊎_elim (λ w. absurd (gone w.0 w.3)) (λ k. k) (run.locks.held i a e)
  where
    gone : (k : ℕ) → slice_get (last_epoch L).records k ≡ Some (Ended a.owner) → ⊥
    gone k f =
        let over : txn_state c.system.sizes a.owner L ≡ Some Over = ended_over c.system.sizes a.owner L (run.log.legal.txns a.owner) k f in
        let none : row_of c.system a.owner ≡ None = over_row (txn_state c.system.sizes a.owner L) (row_of c.system a.owner) (run.table a.owner) over in
        let f2 : is_some (row_of c.system a.owner) ≡ false = ap is_some none in
        cc

-- ---- undos
row_undos : (s : Sizes) (t : ℕ) (L : List Record) (o : Option TxnState) (row : Option TxnRow) (r : TxnRow) → txn_state s t L ≡ o → IsRow o row → row ≡ Some r → is_committed r.state ≡ false → r.undos ≡ undos_of t L
row_undos s t L None row r was i e f = absurd i
row_undos s t L (Some Unbegun) row r was i e f = absurd (cc)
row_undos s t L (Some (Active w)) row r was i e f = let same : record { state = i.0; undos = w.undos } ≡ r = cc in sym (ap (λ q. q.undos) same) ∙ active-undos s t L w was
row_undos s t L (Some (Ending ps)) row r was i e f = let same : record { state = CommittedRow; undos = [] } ≡ r = cc in let is : true ≡ is_committed r.state = ap (λ q. is_committed q.state) same in absurd (cc)
row_undos s t L (Some Over) row r was i e f = absurd (cc)

pub has_its_undos : HasItsUndos
has_its_undos bases L c run t row e f = row_undos c.system.sizes t L (txn_state c.system.sizes t L) (row_of c.system t) row refl (run.table t) e f

-- ---- counts
pub has_counts : HasCounts
has_counts bases L c run = let t = tallies c.system.sizes L run.counts.now run.counts.rules in record { records = run.counts.records ∙ t.0; end = run.counts.end ∙ t.1; next = run.counts.next ∙ (t.2 ∙ numbers_drawn L) }
