-- Each record keeps the table's part: each row is what the rules keep for its transaction.
use Rattle.std.proofs.Common.{◌≡◌, ℕ, Bool, true, false, cond, [], ◌∷◌, ◌++◌, Option, Some, None, refl, ap, sym, subst, ◌∙◌, ⊎_elim}
use Rattle.std.specs.Prelude.{IsSome, ◌==◌, ◌||◌, not}
use Rattle.std.specs.FinMap.{get}
use Rattle.std.specs.Option.{option_map}
use Rattle.std.proofs.lemmas.Bool.{eqb-true, or_cases, eq-eqb}
use mathlib.Core.Bool.{or-true}
use Rattle.dali_lists.proofs.Numbers.{eqb-self}
use Rattle.dali_geometry.specs.Sizes.{Sizes}
use Rattle.dali_record.specs.declared.operations.Block.{Block}
use Rattle.dali_record.specs.declared.records.Record.{Record}
use Rattle.dali_record.specs.declared.records.Record.TheVariants.{Format, Begin, Forward, Done, Commit, Ended, Solo, AuditBegin, AuditClean, AuditFail, Restarted, Back}
use Rattle.dali_record.specs.Epochs.{separates}
use Rattle.dali_record.specs.Legal.{TxnState, Unbegun, Active, Committed as Ending, Over, txn_state, txn_next, concerns, allowed}
use Rattle.dali_record.proofs.Pushes.{txn_state_push}
use Rattle.dali_att.specs.declared.state.State.TheVariants.{Live}
use Rattle.dali_att.specs.Table.{fresh_row, with_state}
use Rattle.dali_runs.specs.State.{TxnRow}
use Rattle.dali_runs.specs.Run.{is_committed, IsRow, TableRun}
use Rattle.dali_runs.specs.Steps.{committed_row}
use Rattle.dali_runs.proofs.OneMore.{TableRun-push}
use Rattle.dali_runs.proofs.Logging.{TableRun-one}
use Rattle.dali_runs.proofs.QuietSteps.{row_with, state_row, none_committed}
use Rattle.dali_runs.proofs.Tables.{added, changed, dropped, ended, kept}
use Rattle.dali_runs.proofs.RecordSteps.{never, op_row, back_row, done_row, commit_row, ended_row, solo_row}
use Rattle.dali_runs.specs.Parts.Tables.{IsAllowed, table_after, TableLogs, TableMoves, TableLeaves}
use Rattle.dali_runs.proofs.PartsLemmas.Systems.{puts_other}

-- ---- the state of a transaction

-- a transaction that begins has no row before
begin_row : (s : Sizes) (t : ℕ) (o : Option TxnState) → IsSome (txn_next s t o (Begin t)) → IsRow (txn_next s t o (Begin t)) (Some fresh_row)
begin_row s t None h = absurd (cc)
begin_row s t (Some Unbegun) h = rw (eqb-self t) (Live, refl, refl)
begin_row s t (Some (Active w)) h = never (t == t) _ _ (eqb-self t) h
begin_row s t (Some (Ending ps)) h = never (t == t) _ _ (eqb-self t) h
begin_row s t (Some Over) h = never (t == t) _ _ (eqb-self t) h

-- a solo's own number begins and ends with it; it is none of its parent
own_row : (s : Sizes) (n p : ℕ) (b : Block) (o : Option TxnState) (row : Option TxnRow) → IsRow o row → IsSome (txn_next s n o (Solo n p b)) → IsRow (txn_next s n o (Solo n p b)) row
own_row s n p b None row r h = absurd r
own_row s n p b (Some Unbegun) row r h = let h2 = rw (eqb-self n) at h in rw (eqb-self n) (by_test (p == n) h2)
  where
    by_test : (c : Bool) → IsSome (allowed (not c) (Some Over)) → IsRow (allowed (not c) (Some Over)) row
    by_test true g = absurd (cc)
    by_test false g = r
own_row s n p b (Some (Active w)) row r h = let h2 = rw (eqb-self n) at h in absurd (cc)
own_row s n p b (Some (Ending ps)) row r h = let h2 = rw (eqb-self n) at h in absurd (cc)
own_row s n p b (Some Over) row r h = let h2 = rw (eqb-self n) at h in absurd (cc)

-- so its number differs from its parent's
own_apart : (s : Sizes) (n p : ℕ) (b : Block) (o : Option TxnState) → IsSome (txn_next s n o (Solo n p b)) → (n == p) ≡ false
own_apart s n p b o h = by_test (n == p) refl
  where
    never_own : (o : Option TxnState) → (p == n) ≡ true → IsSome (txn_next s n o (Solo n p b)) → ⊥
    never_own None e h = absurd (cc)
    never_own (Some Unbegun) e h = let h2 = rw (eqb-self n, e) at h in absurd (cc)
    never_own (Some (Active w)) e h = let h2 = rw (eqb-self n) at h in absurd (cc)
    never_own (Some (Ending ps)) e h = let h2 = rw (eqb-self n) at h in absurd (cc)
    never_own (Some Over) e h = let h2 = rw (eqb-self n) at h in absurd (cc)

    by_test : (c : Bool) → (n == p) ≡ c → c ≡ false
    by_test false e = refl
    by_test true e = absurd (never_own o (eq-eqb p n (sym (eqb-true n p e))) h)

-- ---- each record
pub table_logs : TableLogs
table_logs s L x T run inside may = by_record x inside may
  where
    next : (u : ℕ) (x : Record) → concerns u x ≡ true → IsAllowed s L x → IsSome (txn_next s u (txn_state s u L) x)
    next u x c may = rw (txn_state_push s u L x) at (may u c)

    none : (x : Record) → ((u : ℕ) → concerns u x ≡ false) → TableRun s (L ++ x ∷ []) T
    none x other = TableRun-push s L x T T run (λ u e. let f : concerns u x ≡ false = other u in absurd (cc)) (λ u e. refl)

    by_record : (x : Record) → separates x ≡ false → IsAllowed s L x → TableRun s (L ++ x ∷ []) (table_after x T)
    by_record (Begin t) i may = TableRun-one s L (Begin t) T t (Some fresh_row) _ run (added T t fresh_row) (λ u. refl) (begin_row s t (txn_state s t L) (next t (Begin t) (eqb-self t) may))
    by_record (Forward t b) i may = TableRun-one s L (Forward t b) T t _ _ run (kept T t b b.undo) (λ u. refl) (op_row s t b (txn_state s t L) (get T t) (run t) (next t (Forward t b) (eqb-self t) may))
    by_record (Back t b) i may = TableRun-one s L (Back t b) T t _ _ run (dropped T t) (λ u. refl) (back_row s t b (txn_state s t L) (get T t) (run t) (next t (Back t b) (eqb-self t) may))
    by_record (Done t k a) i may = TableRun-push s L (Done t k a) T T run (λ u e. let same : t ≡ u = eqb-true t u e in subst (λ v. IsRow (txn_next s v (txn_state s v L) (Done t k a)) (get T v)) same (done_row s t k a (txn_state s t L) (get T t) (run t) (next t (Done t k a) (eqb-self t) may))) (λ u e. refl)
    by_record (Commit t) i may = TableRun-one s L (Commit t) T t _ _ run (changed T t committed_row) (λ u. refl) (commit_row s t (txn_state s t L) (get T t) (run t) (next t (Commit t) (eqb-self t) may))
    by_record (Ended t) i may = TableRun-one s L (Ended t) T t None _ run (ended T t) (λ u. refl) (ended_row s t (txn_state s t L) (get T t) (run t) (next t (Ended t) (eqb-self t) may))
    by_record (Solo n p b) i may = TableRun-push s L (Solo n p b) T T run
        (λ u e. ⊎_elim
        (λ f. subst (λ v. IsRow (txn_next s v (txn_state s v L) (Solo n p b)) (get T v)) (eqb-true n u f) (own_row s n p b (txn_state s n L) (get T n) (run n) own))
        (λ f. subst (λ v. IsRow (txn_next s v (txn_state s v L) (Solo n p b)) (get T v)) (eqb-true p u f) (solo_row s n p b (txn_state s p L) (get T p) (run p) (own_apart s n p b (txn_state s n L) own) (next p (Solo n p b) parent may)))
        (or_cases (n == u) (p == u) e))
        (λ u e. refl)
      where
        own : IsSome (txn_next s n (txn_state s n L) (Solo n p b))
        own = next n (Solo n p b) (rw (eqb-self n) refl) may

        parent : ((n == p) || (p == p)) ≡ true
        parent = rw (eqb-self p) (or-true (n == p))
    by_record AuditBegin i may = none AuditBegin (λ u. refl)
    by_record (AuditClean b) i may = none (AuditClean b) (λ u. refl)
    by_record (AuditFail b rs) i may = none (AuditFail b rs) (λ u. refl)
    by_record (Format n h) i may = absurd (cc)
    by_record (Restarted rs ds) i may = absurd (cc)

pub table_moves : TableMoves
table_moves s L T t old st run was moves u = rw (changed T t (with_state st) u) (by_test (t == u) refl)
  where
    row : (row : TxnRow) × (get T t ≡ Some row) × (row.state ≡ old)
    row = row_with (get T t) old was

    none : (is_committed old ≡ false) × (is_committed st ≡ false)
    none = none_committed old st moves

    by_test : (b : Bool) → (t == u) ≡ b → IsRow (txn_state s u L) (cond b (option_map (with_state st) (get T t)) (get T u))
    by_test true e = subst (λ v. IsRow (txn_state s v L) (option_map (with_state st) (get T t))) (eqb-true t u e) (state_row (txn_state s t L) (get T t) row.0 st (run t) row.1 (ap is_committed row.2 ∙ none.0) none.1)
    by_test false e = run u

pub table_leaves : TableLeaves
table_leaves (Begin t) T u e = puts_other T t (Some fresh_row) _ (added T t fresh_row) u e
table_leaves (Forward t b) T u e = puts_other T t _ _ (kept T t b b.undo) u e
table_leaves (Back t b) T u e = puts_other T t _ _ (dropped T t) u e
table_leaves (Commit t) T u e = puts_other T t _ _ (changed T t committed_row) u e
table_leaves (Ended t) T u e = puts_other T t None _ (ended T t) u e
table_leaves _ T u e = refl
