-- What an error of the reader is told as.
use Rattle.std.proofs.Common.{◌≡◌, ℕ, refl, ap}
use Rattle.dali_log.specs.declared.error.LogError.{LogError}
use Rattle.dali_log.specs.declared.error.LogError.TheVariants.{Fault as LogFault, Unformatted, BadLog as LogBad, OutOfMemory as LogMemory}
use Rattle.dali_recovery.specs.declared.reload.error.ReloadError.TheVariants.{BadLog, Unscanned}
use Rattle.dali_recovery.specs.Reload.Errors.{read_as}

bad_same : {a b : ℕ} → BadLog a ≡ BadLog b → a ≡ b
bad_same e = cc

pub bad_of : (e : LogError) (at : ℕ) → (e ≡ Unformatted → ⊥) → read_as e ≡ BadLog at → e ≡ LogBad at
bad_of LogFault at none e = absurd (cc)
bad_of Unformatted at none e = absurd (none refl)
bad_of (LogBad bt) at none e = ap (λ n. LogBad n) (bad_same e)
bad_of LogMemory at none e = absurd (cc)

pub not_unscanned : (e : LogError) → read_as e ≡ Unscanned → ⊥
not_unscanned LogFault e = cc
not_unscanned Unformatted e = cc
not_unscanned (LogBad at) e = cc
not_unscanned LogMemory e = cc
