-- Tables of transactions with their undos.
--     IsCopied m n t us        n is the table m with the transaction t, whose undos are us
--     AddsAll m n t us         n is m with the undos us at the end of those of t
--     IsHeld m o q h n         n is m with the transaction q, if there is one and m lacks it, and its undos by the table o; h is then q
--     Holds m o r n            n is m behind a record r that is skipped, where the table was o
--     IsLeast m n t            t is in one of the tables, and no lesser number in any
use Rattle.std.specs.Prelude.{◌≡◌, ◌≤◌, ◌⊎◌, ℕ, Bool, List, Option, IsSome, Some, None, fold, if◌then◌else◌, ◌==◌}
use Rattle.std.specs.FinMap as map
use Rattle.dali_att.specs.declared.state.State.TheVariants.{Live}
use Rattle.dali_att.specs.Table.{Row, Table, with_row, with_undo}
use Rattle.dali_record.specs.declared.operations.Pending.{Pending}
use Rattle.dali_record.specs.declared.records.Record.{Record}
use Rattle.dali_record.specs.Damage.{any_txn}
use Rattle.dali_record.specs.Files.{is_restarted}
use Rattle.dali_resume.specs.Laws.{undos_in}
use Rattle.dali_redo.specs.Redoing.{status_at, is_of}

abbrev pub IsCopied : Table Pending → Table Pending → ℕ → List Pending → Type 0
IsCopied m n t us = (u : ℕ) → map.get n u ≡ (if t == u then Some (record { state = Live; undos = us }) else map.get m u)

abbrev pub AddsAll : Table Pending → Table Pending → ℕ → List Pending → Type 0
AddsAll m n t us = n ≡ fold (λ o p. with_row o t (with_undo p)) m us

abbrev pub row_held : Table Pending → Bool → ℕ → Option (Row Pending) → Option (Row Pending)
row_held o b u None = if b then Some (record { state = Live; undos = undos_in (status_at o u) }) else None
row_held o b u (Some row) = Some row

-- one that was added can be removed again
pub record IsHeld (m o : Table Pending) (q : Option ℕ) (h : Option ℕ) (n : Table Pending) : Type 0 where
  pub rows : (u : ℕ) → map.get n u ≡ row_held o (any_txn (λ t. t == u) q) u (map.get m u)
  pub none : h ≡ None → n ≡ m
  pub back : (t : ℕ) → h ≡ Some t → map.remove n t ≡ m

abbrev pub Holds : Table Pending → Table Pending → Record → Table Pending → Type 0
Holds m o r n = (u : ℕ) → map.get n u ≡ (if is_restarted r then None else row_held o (is_of u r) u (map.get m u))

pub record IsLeast (m n : Table Pending) (t : ℕ) : Type 0 where
  pub there : IsSome (map.get m t) ⊎ IsSome (map.get n t)
  pub one : (u : ℕ) → IsSome (map.get m u) → t ≤ u
  pub other : (u : ℕ) → IsSome (map.get n u) → t ≤ u
