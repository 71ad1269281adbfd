-- The operations that name an entry, as one type with one kind of outcome, for laws that speak of any of them.
--     done o e ws            what o does to entry e, and what it found
use Rattle.std.specs.Prelude.{ℕ, List}
use Rattle.dali_words.specs.declared.Effect.{Effect}
use Rattle.dali_words.specs.declared.KillOutcome.{KillOutcome}
use Rattle.dali_access.specs.Index.Rows as rows

-- a kill has its key
pub data EntryOperation : Type 0 where
  Kill : ℕ → EntryOperation
  Free : EntryOperation
  Revive : EntryOperation

pub data EntryOutcome : Type 0 where
  HasKilled : KillOutcome → EntryOutcome
  Undone : EntryOutcome

abbrev pub done : EntryOperation → ℕ → List ℕ → Effect × EntryOutcome
done (Kill key) e ws = let r = rows.kill ws e key in (r.0, HasKilled r.1)
done Free e ws = (rows.free ws e, Undone)
done Revive e ws = (rows.revive ws e, Undone)
