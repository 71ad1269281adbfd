-- A crash at some moment of a run of calls.
use Rattle.std.proofs.Common.{ℕ, [], ◌∷◌, sym, subst, inl, inr, ⊎_elim, arith}
use Rattle.dali_store.specs.Store.{Files}
use Rattle.dali_resume.specs.Interrupted.Runs.{RunLeaves}

module _ {D : Type 0} (moment : D → ℕ) (left_since : D → ℕ → Files → Type 0) (may_leave : D → Files → Type 0) where
  pub run_leaves : RunLeaves moment left_since may_leave
  run_leaves old [] new calls t c within left = inl (subst (λ s. left_since s t c) (sym calls) left)
  run_leaves old (mid ∷ rest) new calls t c within left =
      ⊎_elim
      (λ then. ⊎_elim (λ past. inl past) (λ now. inr (inl now)) (calls.0.nothing_else t c within then))
      (λ some. inr (inr some))
      (run_leaves mid rest new calls.1 t c (omega (arith, within, calls.0.later)) left)
