-- What the table has at each transaction after a step, and the row that the rules ask for there.
use Rattle.std.proofs.Common.{◌≡◌, ℕ, Bool, true, false, cond, List, [], ◌∷◌, ◌++◌, length, take, Option, Some, None, refl, ap, sym, ◌∙◌, subst, suc, arith}
use Rattle.std.specs.FinMap.{get, insert, remove}
use Rattle.std.specs.Option.{option_map}
use Rattle.std.specs.Prelude.{◌==◌, ◌-◌, IsSome}
use Rattle.std.proofs.lemmas.List.{append-nil}
use Rattle.std.proofs.lemmas.Bool.{eqb-true}
use Rattle.dali_record.specs.declared.operations.Block.{Block}
use Rattle.dali_record.specs.declared.operations.Pending.{Pending}
use Rattle.dali_record.specs.declared.operations.Undo.{Undo}
use Rattle.dali_record.specs.Log.{undo_added, drop_last, last_of}
use Rattle.dali_att.specs.Table.{Table, with_row, with_undo, without_last, last_of as table_last}
use Rattle.dali_att.proofs.Changes.{get-added, get-ended, get-with_row}
use Rattle.dali_runs.specs.State.{TxnRow}
use Rattle.dali_runs.specs.Steps.{undo_kept}

-- one row of a table is put or removed
abbrev pub Puts : Table Pending → ℕ → Option TxnRow → Table Pending → Type 0
Puts old t row new = (u : ℕ) → get new u ≡ cond (t == u) row (get old u)

abbrev pub with_undos : (List Pending → List Pending) → Option TxnRow → Option TxnRow
with_undos f None = None
with_undos f (Some row) = Some (record { state = row.state; undos = f row.undos })

pub changed : (table : Table Pending) (t : ℕ) (change : TxnRow → TxnRow) → Puts table t (option_map change (get table t)) (with_row table t change)
changed table t change u = get-with_row table t change u

pub added : (table : Table Pending) (t : ℕ) (row : TxnRow) → Puts table t (Some row) (insert table t row)
added table t row u = get-added table t row u

pub ended : (table : Table Pending) (t : ℕ) → Puts table t None (remove table t)
ended table t u = get-ended table t u

as_it_is : (o : Option TxnRow) → with_undos (λ us. us ++ []) o ≡ o
as_it_is None = refl
as_it_is (Some row) = ap (λ us. Some (record { state = row.state; undos = us })) (append-nil row.undos)

with_one : (b : Block) (u : Undo) (o : Option TxnRow) → with_undos (λ us. us ++ undo_added b (Some u)) o ≡ option_map (with_undo (record { key = b.key; region = b.region; undo = u })) o
with_one b u None = refl
with_one b u (Some row) = refl

kept_same : (table : Table Pending) (t u : ℕ) (c : Bool) → (t == u) ≡ c → get table u ≡ cond c (with_undos (λ us. us ++ []) (get table t)) (get table u)
kept_same table t u true e = ap (get table) (sym (eqb-true t u e)) ∙ sym (as_it_is (get table t))
kept_same table t u false e = refl

pub kept : (table : Table Pending) (t : ℕ) (b : Block) (o : Option Undo) → Puts table t (with_undos (λ us. us ++ undo_added b o) (get table t)) (undo_kept table t b o)
kept table t b None u = kept_same table t u (t == u) refl
kept table t b (Some undo) u = changed table t (with_undo (record { key = b.key; region = b.region; undo = undo })) u ∙ ap (λ row. cond (t == u) row (get table u)) (sym (with_one b undo (get table t)))

pub but_last : (us : List Pending) → take (length us - 1) us ≡ drop_last us
but_last [] = refl
but_last (p ∷ []) = refl
but_last (p ∷ q ∷ us) = let e : length (p ∷ q ∷ us) - 1 ≡ suc (length (q ∷ us) - 1) = omega arith in rw e (ap (λ vs. p ∷ vs) (but_last (q ∷ us)))

pub last_same : (us : List Pending) → table_last us ≡ last_of us
last_same [] = refl
last_same (u ∷ []) = refl
last_same (u ∷ v ∷ us) = let e : length (u ∷ v ∷ us) - 1 ≡ suc (length (v ∷ us) - 1) = omega arith in rw e (last_same (v ∷ us))

without_one : (o : Option TxnRow) → with_undos drop_last o ≡ option_map without_last o
without_one None = refl
without_one (Some row) = ap (λ us. Some (record { state = row.state; undos = us })) (sym (but_last row.undos))

pub dropped : (table : Table Pending) (t : ℕ) → Puts table t (with_undos drop_last (get table t)) (with_row table t without_last)
dropped table t u = changed table t without_last u ∙ ap (λ row. cond (t == u) row (get table u)) (sym (without_one (get table t)))

-- who has a row keeps one
pub still_there : (old : Table Pending) (t : ℕ) (row : Option TxnRow) (new : Table Pending) → Puts old t row new → (IsSome (get old t) → IsSome row) → (u : ℕ) → IsSome (get old u) → IsSome (get new u)
still_there old t row new puts stays u h = rw (puts u) (by_test (t == u) refl)
  where
    by_test : (b : Bool) → (t == u) ≡ b → IsSome (cond b row (get old u))
    by_test true e = stays (subst (λ v. IsSome (get old v)) (sym (eqb-true t u e)) h)
    by_test false e = h

pub some_with : (f : List Pending → List Pending) (row : Option TxnRow) → IsSome row → IsSome (with_undos f row)
some_with f None h = h
some_with f (Some row) h = refl

pub some_changed : (change : TxnRow → TxnRow) (row : Option TxnRow) → IsSome row → IsSome (option_map change row)
some_changed change None h = h
some_changed change (Some row) h = refl
