-- The table says Committed exactly where the log has the Commit.
use Rattle.std.proofs.Common.{◌≡◌, ℕ, Bool, true, false, cond, List, [], ◌∷◌, ◌++◌, Option, Some, None, refl, ap, sym, subst, ◌∙◌}
use Rattle.std.specs.Prelude.{◌==◌, ◌||◌, not, ⊤}
use Rattle.dali_geometry.specs.Sizes.{Sizes}
use Rattle.dali_record.specs.declared.operations.Block.{Block}
use Rattle.dali_record.specs.declared.operations.Pending.{Pending}
use Rattle.dali_record.specs.declared.records.Record.{Record}
use Rattle.dali_record.specs.declared.records.Record.TheVariants.{Format, Begin, Forward, Done, Commit, Ended, Solo, AuditBegin, AuditClean, AuditFail, Restarted, Back}
use Rattle.dali_record.specs.Log.{committed, last_of}
use Rattle.dali_record.specs.Damage.{has}
use Rattle.dali_record.specs.Calls.{Progress, Fresh, follow}
use Rattle.dali_record.specs.Legal.{TxnState, Unbegun, Active, Committed as Ending, Over, Working, txn_state, txn_next, txn_step, allowed, either_state, goes_on, starts, forward, back, is_onward, is_level, is_answer, dead_of, freed, rested}
use Rattle.dali_record.proofs.Ends.{by_push}
use Rattle.dali_record.proofs.Pushes.{txn_state_push, committed_push}
use Rattle.dali_runs.specs.State.{TxnRow, row_of}
use Rattle.dali_att.specs.declared.state.State.TheVariants.{Committed as CommittedRow}
use Rattle.dali_runs.specs.Run.{IsRow, is_committed}
use Rattle.dali_runs.specs.Facts.Facts.{CommittedIsLogged}
use Rattle.std.proofs.lemmas.List.{append-nil}
use Rattle.std.proofs.lemmas.Bool.{eqb-true}
use Rattle.dali_lists.proofs.Numbers.{eqb-self}

abbrev pub Com : Option TxnState → Bool → Type 0
Com None c = ⊤
Com (Some Unbegun) c = c ≡ false
Com (Some (Active w)) c = c ≡ false
Com (Some (Ending ps)) c = c ≡ true
Com (Some Over) c = ⊤

com_allowed : (b : Bool) (o : Option TxnState) (c : Bool) → Com o c → Com (allowed b o) c
com_allowed true o c h = h
com_allowed false o c h = tt

com_either : (o p : Option TxnState) (c : Bool) → Com o c → Com p c → Com (either_state o p) c
com_either None p c h g = g
com_either (Some x) p c h g = h

com_cond : (b : Bool) (o p : Option TxnState) (c : Bool) → Com o c → Com p c → Com (cond b o p) c
com_cond true o p c h g = h
com_cond false o p c h g = g

com_state : (b : Bool) (x y : TxnState) (c : Bool) → Com (Some x) c → Com (Some y) c → Com (Some (cond b x y)) c
com_state true x y c h g = h
com_state false x y c h g = g

com_goes_on : (w : Working) (b : Block) (o : Option Progress) (c : Bool) → c ≡ false → Com (goes_on w b o) c
com_goes_on w b None c h = tt
com_goes_on w b (Some p) c h = h

com_starts : (w : Working) (b : Block) (o : Option Progress) (c : Bool) → c ≡ false → Com (starts w b o) c
com_starts w b None c h = tt
com_starts w b (Some p) c h = h

com_forward : (s : Sizes) (t : ℕ) (w : Working) (b : Block) (c : Bool) → c ≡ false → Com (forward s t w b) c
com_forward s t w b c h =
    com_either (allowed (is_onward w.way) (goes_on w b (follow s t w.progress b))) (allowed (is_level w) (starts w b (follow s t Fresh b))) c
    (com_allowed (is_onward w.way) (goes_on w b (follow s t w.progress b)) c (com_goes_on w b (follow s t w.progress b) c h))
    (com_allowed (is_level w) (starts w b (follow s t Fresh b)) c (com_starts w b (follow s t Fresh b) c h))

com_back : (w : Working) (b : Block) (o : Option Pending) (c : Bool) → c ≡ false → Com (back w b o) c
com_back w b None c h = tt
com_back w b (Some p) c h = com_allowed _ (Some (Active _)) c h

com_freed : (b : Block) (ps : List Pending) (c : Bool) → c ≡ true → Com (freed b ps) c
com_freed b [] c h = tt
com_freed b (p ∷ ps) c h = com_allowed _ (Some (Ending ps)) c h

is_commit : ℕ → Record → Bool
is_commit t (Commit u) = u == t
is_commit t _ = false

-- a record that is no Commit of t
com_same : (s : Sizes) (t : ℕ) (x : TxnState) (r : Record) (c : Bool) → is_commit t r ≡ false → Com (Some x) c → Com (txn_step s t x r) c
unfolding is_commit
com_same s t Unbegun (Begin u) c e h = com_state (u == t) _ Unbegun c h h
com_same s t Unbegun (Forward u b) c e h = com_allowed _ (Some Unbegun) c h
com_same s t Unbegun (Done u k a) c e h = com_allowed _ (Some Unbegun) c h
com_same s t Unbegun (Commit u) c e h = com_allowed _ (Some Unbegun) c h
com_same s t Unbegun (Ended u) c e h = com_allowed _ (Some Unbegun) c h
com_same s t Unbegun (Solo u p b) c e h = com_cond (u == t) _ _ c (com_allowed _ (Some Over) c tt) (com_allowed _ (Some Unbegun) c h)
com_same s t Unbegun (Back u b) c e h = com_allowed _ (Some Unbegun) c h
com_same s t Unbegun _ c e h = h
com_same s t (Active w) (Format m n) c e h = h
com_same s t (Active w) (Begin u) c e h = com_allowed _ (Some (Active w)) c h
com_same s t (Active w) (Forward u b) c e h = com_cond (u == t) (forward s t w b) (Some (Active w)) c (com_forward s t w b c h) h
com_same s t (Active w) (Done u k a) c e h = com_cond (u == t) _ (Some (Active w)) c (com_allowed (is_answer s w k a) (Some (rested w)) c h) h
com_same s t (Active w) (Commit u) c e h = rw e h
com_same s t (Active w) (Ended u) c e h = com_cond (u == t) _ (Some (Active w)) c (com_allowed _ (Some Over) c tt) h
com_same s t (Active w) (Solo u p b) c e h = com_allowed _ (Some (Active w)) c h
com_same s t (Active w) AuditBegin c e h = h
com_same s t (Active w) (AuditClean b) c e h = h
com_same s t (Active w) (AuditFail b rs) c e h = h
com_same s t (Active w) (Restarted rs ds) c e h = tt
com_same s t (Active w) (Back u b) c e h = com_cond (u == t) _ (Some (Active w)) c (com_back w b (last_of w.undos) c h) h
com_same s t (Ending ps) (Format m n) c e h = h
com_same s t (Ending ps) (Ended u) c e h = com_cond (u == t) _ (Some (Ending ps)) c (com_allowed _ (Some Over) c tt) h
com_same s t (Ending ps) (Solo u p b) c e h = com_allowed (not (u == t)) (cond (p == t) (freed b ps) (Some (Ending ps))) c (com_cond (p == t) (freed b ps) (Some (Ending ps)) c (com_freed b ps c h) h)
com_same s t (Ending ps) AuditBegin c e h = h
com_same s t (Ending ps) (AuditClean b) c e h = h
com_same s t (Ending ps) (AuditFail b rs) c e h = h
com_same s t (Ending ps) (Restarted rs ds) c e h = tt
com_same s t (Ending ps) _ c e h = com_allowed _ (Some (Ending ps)) c h
com_same s t Over (Format m n) c e h = tt
com_same s t Over AuditBegin c e h = tt
com_same s t Over (AuditClean b) c e h = tt
com_same s t Over (AuditFail b rs) c e h = tt
com_same s t Over (Restarted rs ds) c e h = tt
com_same s t Over _ c e h = com_allowed _ (Some Over) c tt

-- a Commit of t
com_commit : (s : Sizes) (t : ℕ) (o : Option TxnState) → Com (txn_next s t o (Commit t)) true
com_commit s t None = tt
com_commit s t (Some Unbegun) = rw (eqb-self t) tt
com_commit s t (Some (Active w)) = rw (eqb-self t) (com_allowed (is_level w) (Some (Ending (dead_of w.undos))) true refl)
com_commit s t (Some (Ending ps)) = rw (eqb-self t) tt
com_commit s t (Some Over) = rw (eqb-self t) tt

com_next : (s : Sizes) (t : ℕ) (o : Option TxnState) (r : Record) (c : Bool) → is_commit t r ≡ false → Com o c → Com (txn_next s t o r) c
com_next s t None r c e h = tt
com_next s t (Some x) r c e h = com_same s t x r c e h

pub has_push : (xs : List ℕ) (u t : ℕ) → has (xs ++ u ∷ []) t ≡ (has xs t || (u == t))
has_push [] u t = by_test (u == t)
  where
    by_test : (b : Bool) → (b || false) ≡ b
    by_test true = refl
    by_test false = refl
has_push (x ∷ xs) u t = by_test (x == t) (has_push xs u t)
  where
    by_test : (b : Bool) → has (xs ++ u ∷ []) t ≡ (has xs t || (u == t)) → (b || has (xs ++ u ∷ []) t) ≡ ((b || has xs t) || (u == t))
    by_test true h = refl
    by_test false h = h

commits_push : (L : List Record) (x : Record) (t : ℕ) → has (committed (L ++ x ∷ [])) t ≡ (has (committed L) t || is_commit t x)
unfolding is_commit
commits_push L x t = ap (λ l. has l t) (committed_push L x) ∙ by_kind x
  where
    none : (xs : List ℕ) → has (xs ++ []) t ≡ (has xs t || false)
    none xs = ap (λ l. has l t) (append-nil xs) ∙ by_test (has xs t)
      where
        by_test : (b : Bool) → b ≡ (b || false)
        by_test true = refl
        by_test false = refl

    by_kind : (y : Record) → has (committed L ++ committed (y ∷ [])) t ≡ (has (committed L) t || is_commit t y)
    by_kind (Format m n) = none (committed L)
    by_kind (Begin u) = none (committed L)
    by_kind (Forward u b) = none (committed L)
    by_kind (Done u k a) = none (committed L)
    by_kind (Commit u) = has_push (committed L) u t
    by_kind (Ended u) = none (committed L)
    by_kind (Solo u p b) = none (committed L)
    by_kind AuditBegin = none (committed L)
    by_kind (AuditClean b) = none (committed L)
    by_kind (AuditFail b rs) = none (committed L)
    by_kind (Restarted rs ds) = none (committed L)
    by_kind (Back u b) = none (committed L)

is_its_commit : (t : ℕ) (x : Record) → is_commit t x ≡ true → x ≡ Commit t
unfolding is_commit
is_its_commit t (Commit u) e = ap Commit (eqb-true u t e)
is_its_commit t _ e = absurd (cc)

pub com_all : (s : Sizes) (t : ℕ) (L : List Record) → Com (txn_state s t L) (has (committed L) t)
com_all s t = by_push (λ L. Com (txn_state s t L) (has (committed L) t)) refl (λ L x here. subst (λ o. Com o (has (committed (L ++ x ∷ [])) t)) (sym (txn_state_push s t L x)) (subst (λ c. Com (txn_next s t (txn_state s t L) x) c) (sym (commits_push L x t)) (by_commit L x here (is_commit t x) refl)))
  where
    or_none : (c : Bool) → c ≡ (c || false)
    or_none true = refl
    or_none false = refl

    or_some : (c : Bool) → true ≡ (c || true)
    or_some true = refl
    or_some false = refl

    by_commit : (L : List Record) (x : Record) → Com (txn_state s t L) (has (committed L) t) → (b : Bool) → is_commit t x ≡ b → Com (txn_next s t (txn_state s t L) x) (has (committed L) t || b)
    by_commit L x here false e = subst (λ c. Com (txn_next s t (txn_state s t L) x) c) (or_none (has (committed L) t)) (com_next s t (txn_state s t L) x (has (committed L) t) e here)
    by_commit L x here true e = subst (λ c. Com (txn_next s t (txn_state s t L) x) c) (or_some (has (committed L) t)) (subst (λ z. Com (txn_next s t (txn_state s t L) z) true) (sym (is_its_commit t x e)) (com_commit s t (txn_state s t L)))

row_commit : (o : Option TxnState) (row : Option TxnRow) (r : TxnRow) (c : Bool) → IsRow o row → row ≡ Some r → Com o c → is_committed r.state ≡ c
row_commit None row r c i e h = absurd i
row_commit (Some Unbegun) row r c i e h = absurd (cc)
row_commit (Some (Active w)) row r c i e h = let same : record { state = i.0; undos = w.undos } ≡ r = cc in sym (ap (λ q. is_committed q.state) same) ∙ (i.1 ∙ sym h)
row_commit (Some (Ending ps)) row r c i e h = let same : record { state = CommittedRow; undos = [] } ≡ r = cc in sym (ap (λ q. is_committed q.state) same) ∙ sym h
row_commit (Some Over) row r c i e h = absurd (cc)

pub committed_is_logged : CommittedIsLogged
committed_is_logged bases L c run t row e = row_commit (txn_state c.system.sizes t L) (row_of c.system t) row (has (committed L) t) (run.table t) e (com_all c.system.sizes t L)
