-- How a comparison with a replay ends.
use Rattle.std.proofs.Common.{◌≡◌, ℕ, Bool, List, Option, Some, None, Result, Err, refl, sym, ◌∙◌, ap}
use Rattle.std.specs.Prelude.{IsErrOf}
use Rattle.dali_fuse.specs.declared.fuse.Fuse.{Fuse}
use Rattle.dali_store.specs.declared.store.Store.{Ghosts}
use Rattle.dali_runs.specs.declared.causes.Cause.{Cause}
use Rattle.dali_verify.specs.declared.error.VerifyError.{VerifyError}
use Rattle.dali_verify.specs.declared.error.VerifyError.TheVariants.{Fault, BadLog}
use Rattle.dali_core.specs.declared.whole.Core.{Core}
use Rattle.dali_run.specs.declared.program.Program.TheVariants.{Up}
use Rattle.dali_run.specs.Steps.{EndsComparison, HasCleaned, VerifyIn}

-- one error is no other
is_other : (at : ℕ) → ◌≡◌ {A = Result Bool VerifyError} (Err (BadLog at)) (Err Fault) → ⊥
is_other at e = cc

pub bad_log : (r : Result Bool VerifyError) (e : VerifyError) (at : ℕ) → r ≡ Err e → e ≡ BadLog at → IsErrOf r Fault → ⊥
bad_log r e at is bad fault = is_other at (sym (is ∙ ap Err bad) ∙ fault)

module _ {V : Type 0} (g : Ghosts V) where
  pub verify_none : (stop : Option Cause) (core c d : Core (Fuse V)) (text : List ℕ) → stop ≡ None → HasCleaned g core c
      → EndsComparison g c text d → VerifyIn g stop core text (Up d)
  verify_none None core c d text is cleaned ends = (c, d, cleaned, ends, refl)
  verify_none (Some cause) core c d text is cleaned ends = absurd (cc)
