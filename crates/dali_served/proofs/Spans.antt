-- In a legal log the answers of a transaction stand behind its Begin and before its Commit.
use Rattle.std.proofs.Common.{◌≡◌, ℕ, zero, suc, ◌<◌, ◌≤◌, ◌==◌, Bool, true, false, List, [], ◌∷◌, take, Option, Some, None, fold, refl, sym, ◌∙◌, ap, subst, arith}
use Rattle.std.specs.Prelude.{IsSome, not, if◌then◌else◌, slice_get}
use Rattle.std.specs.List.{cons_option}
use Rattle.std.proofs.lemmas.Bool.{eq-eqb, not-true}
use Rattle.dali_runs.proofs.CountsLemmas.Lists.{some_same}
use Rattle.dali_runs.proofs.CountsLemmas.Fronts.{none_txn, prefix_legal}
use Rattle.dali_geometry.specs.Sizes.{Sizes}
use Rattle.dali_record.specs.declared.operations.Block.{Block}
use Rattle.dali_record.specs.declared.operations.Pending.{Pending}
use Rattle.dali_record.specs.declared.records.Call.{Call}
use Rattle.dali_record.specs.declared.records.Answer.{Answer}
use Rattle.dali_record.specs.declared.records.Record.{Record}
use Rattle.dali_record.specs.declared.records.Record.TheVariants.{Begin, Forward, Back, Solo, Done, Commit, Ended}
use Rattle.dali_record.specs.Calls.{Progress, Fresh, follow}
use Rattle.dali_record.specs.Operations.{undo_op}
use Rattle.dali_record.specs.Legal.{Working, TxnState, Unbegun, Active, Committed, Over, txn_step, txn_next, allowed, either_state, goes_on, starts, forward, back, freed, freeing_op, is_of, is_onward, is_level, is_none_left, is_answer, dead_of, rested, IsLegalFor}
use Rattle.dali_record.specs.Log.{call_by, calls_of}
use Rattle.dali_served.proofs.Commits.{IsPast, StaysPast, past_stays, commits_past}

-- whoever has begun stays so
abbrev IsBegun : TxnState → Type 0
IsBegun Unbegun = ⊥
IsBegun x = Unit {0}

abbrev StaysBegun : Option TxnState → Type 0
StaysBegun None = Unit {0}
StaysBegun (Some x) = IsBegun x

in_allowed : (b : Bool) (o : Option TxnState) → StaysBegun o → StaysBegun (allowed b o)
in_allowed true o h = h
in_allowed false o h = tt

in_either : (o q : Option TxnState) → StaysBegun o → StaysBegun q → StaysBegun (either_state o q)
in_either None q h g = g
in_either (Some x) q h g = h

in_cond : (b : Bool) (o q : Option TxnState) → StaysBegun o → StaysBegun q → StaysBegun (if b then o else q)
in_cond true o q h g = h
in_cond false o q h g = g

in_goes_on : (w : Working) (k : Block) (o : Option Progress) → StaysBegun (goes_on w k o)
in_goes_on w k None = tt
in_goes_on w k (Some p) = tt

in_starts : (w : Working) (k : Block) (o : Option Progress) → StaysBegun (starts w k o)
in_starts w k None = tt
in_starts w k (Some p) = tt

in_forward : (s : Sizes) (t : ℕ) (w : Working) (k : Block) → StaysBegun (forward s t w k)
in_forward s t w k =
    in_either (allowed (is_onward w.way) (goes_on w k (follow s t w.progress k))) (allowed (is_level w) (starts w k (follow s t Fresh k)))
    (in_allowed (is_onward w.way) (goes_on w k (follow s t w.progress k)) (in_goes_on w k (follow s t w.progress k)))
    (in_allowed (is_level w) (starts w k (follow s t Fresh k)) (in_starts w k (follow s t Fresh k)))

in_back : (w : Working) (k : Block) (o : Option Pending) → StaysBegun (back w k o)
in_back w k None = tt
in_back w k (Some p) = in_allowed (is_of (undo_op p.undo) p k) (Some (Active _)) tt

in_freed : (k : Block) (ps : List Pending) → StaysBegun (freed k ps)
in_freed k [] = tt
in_freed k (p ∷ ps) = in_allowed (is_of (freeing_op p.undo) p k) (Some (Committed ps)) tt

begun_stays : (s : Sizes) (t : ℕ) (x : TxnState) (r : Record) → IsBegun x → StaysBegun (txn_step s t x r)
begun_stays s t Unbegun r h = absurd h
begun_stays s t (Active w) (Begin u) h = in_allowed _ (Some (Active w)) tt
begun_stays s t (Active w) (Forward u b) h = in_cond (u == t) _ (Some (Active w)) (in_forward s t w b) tt
begun_stays s t (Active w) (Back u b) h = in_cond (u == t) _ (Some (Active w)) (in_back w b _) tt
begun_stays s t (Active w) (Done u c a) h = in_cond (u == t) _ (Some (Active w)) (in_allowed (is_answer s w c a) (Some (rested w)) tt) tt
begun_stays s t (Active w) (Commit u) h = in_cond (u == t) _ (Some (Active w)) (in_allowed (is_level w) (Some (Committed (dead_of w.undos))) tt) tt
begun_stays s t (Active w) (Ended u) h = in_cond (u == t) _ (Some (Active w)) (in_allowed (is_none_left w.undos) (Some Over) tt) tt
begun_stays s t (Active w) (Solo u p b) h = in_allowed _ (Some (Active w)) tt
begun_stays s t (Active w) r h = tt
begun_stays s t (Committed ps) (Begin u) h = in_allowed _ (Some (Committed ps)) tt
begun_stays s t (Committed ps) (Forward u b) h = in_allowed _ (Some (Committed ps)) tt
begun_stays s t (Committed ps) (Back u b) h = in_allowed _ (Some (Committed ps)) tt
begun_stays s t (Committed ps) (Done u c a) h = in_allowed _ (Some (Committed ps)) tt
begun_stays s t (Committed ps) (Commit u) h = in_allowed _ (Some (Committed ps)) tt
begun_stays s t (Committed ps) (Ended u) h = in_cond (u == t) _ (Some (Committed ps)) (in_allowed (is_none_left ps) (Some Over) tt) tt
begun_stays s t (Committed ps) (Solo u p b) h = in_allowed _ (if p == t then freed b ps else Some (Committed ps)) (in_cond (p == t) (freed b ps) (Some (Committed ps)) (in_freed b ps) tt)
begun_stays s t (Committed ps) r h = tt
begun_stays s t Over (Begin u) h = in_allowed _ (Some Over) tt
begun_stays s t Over (Forward u b) h = in_allowed _ (Some Over) tt
begun_stays s t Over (Back u b) h = in_allowed _ (Some Over) tt
begun_stays s t Over (Done u c a) h = in_allowed _ (Some Over) tt
begun_stays s t Over (Commit u) h = in_allowed _ (Some Over) tt
begun_stays s t Over (Ended u) h = in_allowed _ (Some Over) tt
begun_stays s t Over (Solo u p b) h = in_allowed _ (Some Over) tt
begun_stays s t Over r h = tt

allowed_is : (b : Bool) (o : Option TxnState) → IsSome (allowed b o) → b ≡ true
allowed_is true o h = refl
allowed_is false o h = absurd cc

module _ (s : Sizes) (t : ℕ) where
  none_leads : {A : Type 0} (K : List Record) → IsSome (fold (txn_next s t) None K) → A
  none_leads K is = let never : false ≡ true = subst (λ (o : Option TxnState). IsSome o) (none_txn s t K) is in absurd cc

  record Next (x : TxnState) (r : Record) (K : List Record) : Type 0 where
    state : TxnState
    is : txn_step s t x r ≡ Some state
    leads : IsSome (fold (txn_next s t) (Some state) K)

  next : (x : TxnState) (r : Record) (K : List Record) → IsSome (fold (txn_next s t) (Some x) (r ∷ K)) → Next x r K
  next x r K is = by_state (txn_step s t x r) refl is
    where
      by_state : (o : Option TxnState) → txn_step s t x r ≡ o → IsSome (fold (txn_next s t) o K) → Next x r K
      by_state None e h = none_leads K h
      by_state (Some y) e h = record { state = y; is = e; leads = h }

  leads_front : (K : List Record) (x : TxnState) (k : ℕ) → IsSome (fold (txn_next s t) (Some x) K) → IsSome (fold (txn_next s t) (Some x) (take k K))
  leads_front K x zero is = refl
  leads_front [] x (suc k) is = refl
  leads_front (r ∷ K) x (suc k) is = let n = next x r K is in subst (λ (o : Option TxnState). IsSome (fold (txn_next s t) o (take k K))) (sym n.is) (leads_front K n.state k n.leads)

  other_call : (u : ℕ) (c : Call) (a : Answer) → not (u == t) ≡ true → call_by t (Done u c a) ≡ None
  other_call u c a e = let f : (u == t) ≡ false = not-true (u == t) e in rw f refl

  -- ---- behind its Commit
  none_past : (x : TxnState) (r : Record) → IsPast x → IsSome (txn_step s t x r) → call_by t r ≡ None
  none_past Unbegun r h is = absurd h
  none_past (Active w) r h is = absurd h
  none_past (Committed ps) (Done u c a) h is = other_call u c a (allowed_is (not (u == t)) (Some (Committed ps)) is)
  none_past (Committed ps) r h is = refl
  none_past Over (Done u c a) h is = other_call u c a (allowed_is (not (u == t)) (Some Over) is)
  none_past Over r h is = refl

  calls_past : (K : List Record) (x : TxnState) → IsPast x → IsSome (fold (txn_next s t) (Some x) K) → calls_of t K ≡ []
  calls_past [] x h is = refl
  calls_past (r ∷ K) x h is =
      let n = next x r K is in
      let none : call_by t r ≡ None = none_past x r h (subst (λ (o : Option TxnState). IsSome o) (sym n.is) refl) in
      ap (λ (o : Option (Call × Answer)). cons_option o (calls_of t K)) none ∙ calls_past K n.state (subst StaysPast n.is (past_stays s t x r h)) n.leads

  calls_before : (K : List Record) (x : TxnState) (n k : ℕ) → IsSome (fold (txn_next s t) (Some x) K) → slice_get K n ≡ Some (Commit t) → n < k → calls_of t (take k K) ≡ calls_of t (take n K)
  calls_before [] x n k is at lt = absurd cc
  calls_before (r ∷ K) x n zero is at lt = absurd (omega (arith, lt))
  calls_before (r ∷ K) x zero (suc k) is at lt =
      let n = next x r K is in
      let same : r ≡ Commit t = some_same at in
      let past : IsPast n.state = subst StaysPast (ap (txn_step s t x) (sym same) ∙ n.is) (commits_past s t x) in
      ap (λ (y : Record). cons_option (call_by t y) (calls_of t (take k K))) same ∙ calls_past (take k K) n.state past (leads_front K n.state k n.leads)
  calls_before (r ∷ K) x (suc n) (suc k) is at lt = let m = next x r K is in ap (cons_option (call_by t r)) (calls_before K m.state n k m.leads at (omega (arith, lt)))

  -- ---- before its Begin
  own_begin : (x : TxnState) → IsSome (txn_step s t x (Begin t)) → x ≡ Unbegun
  own_begin Unbegun is = refl
  own_begin (Active w) is = let same = eq-eqb t t refl in absurd (cc (rw same at is))
  own_begin (Committed ps) is = let same = eq-eqb t t refl in absurd (cc (rw same at is))
  own_begin Over is = let same = eq-eqb t t refl in absurd (cc (rw same at is))

  was_unbegun : (x : TxnState) (r : Record) → txn_step s t x r ≡ Some Unbegun → x ≡ Unbegun
  was_unbegun Unbegun r e = refl
  was_unbegun (Active w) r e = absurd (subst StaysBegun e (begun_stays s t (Active w) r tt))
  was_unbegun (Committed ps) r e = absurd (subst StaysBegun e (begun_stays s t (Committed ps) r tt))
  was_unbegun Over r e = absurd (subst StaysBegun e (begun_stays s t Over r tt))

  none_unbegun : (r : Record) → IsSome (txn_step s t Unbegun r) → call_by t r ≡ None
  none_unbegun (Done u c a) is = other_call u c a (allowed_is (not (u == t)) (Some Unbegun) is)
  none_unbegun r is = refl

  record Front (K : List Record) (x : TxnState) (k : ℕ) : Type 0 where
    state : x ≡ Unbegun
    none : calls_of t (take k K) ≡ []

  front : (K : List Record) (x : TxnState) (n k : ℕ) → IsSome (fold (txn_next s t) (Some x) K) → slice_get K n ≡ Some (Begin t) → k ≤ n → Front K x k
  front [] x n k is at le = absurd cc
  front (r ∷ K) x zero zero is at le =
      let n = next x r K is in
      let same : r ≡ Begin t = some_same at in
      record { state = own_begin x (subst (λ (y : Record). IsSome (txn_step s t x y)) same (subst (λ (o : Option TxnState). IsSome o) (sym n.is) refl)); none = refl }
  front (r ∷ K) x zero (suc k) is at le = absurd (omega (arith, le))
  front (r ∷ K) x (suc n) zero is at le =
      let m = next x r K is in
      let later = front K m.state n 0 m.leads at (omega arith) in
      record { state = was_unbegun x r (m.is ∙ ap (λ (y : TxnState). Some y) later.state); none = refl }
  front (r ∷ K) x (suc n) (suc k) is at le =
      let m = next x r K is in
      let later = front K m.state n k m.leads at (omega (arith, le)) in
      let state : x ≡ Unbegun = was_unbegun x r (m.is ∙ ap (λ (y : TxnState). Some y) later.state) in
      let none : call_by t r ≡ None = none_unbegun r (subst (λ (y : TxnState). IsSome (txn_step s t y r)) state (subst (λ (o : Option TxnState). IsSome o) (sym m.is) refl)) in
      record { state = state; none = ap (λ (o : Option (Call × Answer)). cons_option o (calls_of t (take k K))) none ∙ later.none }

-- ---- of a log
-- behind the Commit it has no more calls
pub calls_till_commit : (s : Sizes) (L : List Record) (n k t : ℕ) → IsLegalFor s L → slice_get L n ≡ Some (Commit t) → n < k → calls_of t (take k L) ≡ calls_of t (take n L)
calls_till_commit s L n k t legal at lt = calls_before s t L Unbegun n k (legal.txns t) at lt

-- and none before the Begin
pub calls_from_begin : (s : Sizes) (L : List Record) (n k t : ℕ) → IsLegalFor s L → slice_get L n ≡ Some (Begin t) → k ≤ n → calls_of t (take k L) ≡ []
calls_from_begin s L n k t legal at le = (front s t L Unbegun n k (legal.txns t) at le).none

-- and a front of it is legal
pub legal_front : (s : Sizes) (L : List Record) (n : ℕ) → IsLegalFor s L → IsLegalFor s (take n L)
legal_front s L n legal = prefix_legal s L n legal
