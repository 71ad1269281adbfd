-- What a crash leaves at any moment of a run of calls of a store, of each disk by itself.
--     CallsOver old states new     one call after another led from old over these states to new
--     SomeMayLeave states c        a crash behind one of them may leave the disk c
--     RunLeaves                    a crash at any moment since might have left before the run what it leaves, or may leave it behind one of its calls:
--                                  so whatever relation holds of these disks holds of it
use Rattle.std.specs.Prelude.{◌≡◌, ◌≤◌, ◌⊎◌, ℕ, List, [], ◌∷◌}
use Rattle.dali_store.specs.Store.{Files, Elapses}

module _ {D : Type 0} (moment : D → ℕ) (left_since : D → ℕ → Files → Type 0) (may_leave : D → Files → Type 0) where
  abbrev pub CallsOver : D → List D → D → Type 0
  CallsOver old [] new = old ≡ new
  CallsOver old (mid ∷ rest) new = Elapses (moment old) (moment mid) (left_since old) (left_since mid) (may_leave mid) × CallsOver mid rest new

  abbrev pub SomeMayLeave : List D → Files → Type 0
  SomeMayLeave [] c = ⊥
  SomeMayLeave (s ∷ rest) c = may_leave s c ⊎ SomeMayLeave rest c

  abbrev pub RunLeaves : Type 0
  RunLeaves =
      (old : D) (states : List D) (new : D) → CallsOver old states new
      → (t : ℕ) (c : Files) → t ≤ moment old → left_since new t c → left_since old t c ⊎ SomeMayLeave states c
