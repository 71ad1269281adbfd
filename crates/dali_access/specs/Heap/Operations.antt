-- The operations that name a cell, as one type with one kind of outcome, for laws that speak of any of them.
--     done o c ws            what o does to cell c, and what it found
use Rattle.std.specs.Prelude.{ℕ, List}
use Rattle.dali_words.specs.declared.Effect.{Effect}
use Rattle.dali_words.specs.declared.KillOutcome.{KillOutcome}
use Rattle.dali_access.specs.declared.heap.ReadOutcome.{ReadOutcome}
use Rattle.dali_access.specs.declared.heap.ChangeOutcome.{ChangeOutcome}
use Rattle.dali_access.specs.Heap.Rows as rows

-- each with its key, its value, or the length and the words that it puts back
pub data CellOperation : Type 0 where
  Read : ℕ → CellOperation
  Change : ℕ → List ℕ → CellOperation
  Kill : ℕ → CellOperation
  Free : CellOperation
  Revive : CellOperation
  Restore : ℕ → List ℕ → CellOperation

pub data CellOutcome : Type 0 where
  HasRead : ReadOutcome → CellOutcome
  HasChanged : ChangeOutcome → CellOutcome
  HasKilled : KillOutcome → CellOutcome
  Undone : CellOutcome

abbrev pub done : CellOperation → ℕ → List ℕ → Effect × CellOutcome
done (Read key) c ws = let r = rows.read ws c key in (r.0, HasRead r.1)
done (Change key v) c ws = let r = rows.change ws c key v in (r.0, HasChanged r.1)
done (Kill key) c ws = let r = rows.kill ws c key in (r.0, HasKilled r.1)
done Free c ws = (rows.free ws c, Undone)
done Revive c ws = (rows.revive ws c, Undone)
done (Restore n vs) c ws = (rows.restore ws c n vs, Undone)
