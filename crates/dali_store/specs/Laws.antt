-- Laws of every store, over runs of calls of any length.
-- Words: CallsTo, RunsOver, ARunGoesOn.
use Rattle.std.specs.Prelude.{◌≡◌, ℕ, List, [], ◌∷◌}
use Rattle.dali_store.specs.Store.{Files, Elapses, LeavesOnly}

module _ {D : Type 0} (moment : D → ℕ) (left_since : D → ℕ → Files → Type 0) where
  -- a call led from old to new, and what a crash within it or after it may leave has P
  abbrev pub CallsTo : (Files → Type 0) → D → D → Type 0
  CallsTo P old new = Elapses (moment old) (moment new) (left_since old) (left_since new) P

  -- one call after another led from old over these states to new
  abbrev pub RunsOver : (Files → Type 0) → D → List D → D → Type 0
  RunsOver P old [] new = old ≡ new
  RunsOver P old (mid ∷ rest) new = CallsTo P old mid × RunsOver P mid rest new

  -- Where each crash since the start leaves P, and so does one within each call of a run and after it, then each crash since the start leaves P.
  abbrev pub ARunGoesOn : (Files → Type 0) → Type 0
  ARunGoesOn P = (start old : D) (states : List D) (new : D) → LeavesOnly moment left_since start old P → RunsOver P old states new → LeavesOnly moment left_since start new P
