-- What an error of the reader is told as.
use Rattle.std.proofs.Common.{◌≡◌, ℕ, ap}
use Rattle.dali_log.specs.declared.error.LogError.{LogError}
use Rattle.dali_log.specs.declared.error.LogError.TheVariants as logs
use Rattle.dali_dump.specs.declared.error.DumpError.TheVariants.{BadLog}
use Rattle.dali_dump.specs.Errors.{dump_error}

same_place : {a b : ℕ} → BadLog a ≡ BadLog b → a ≡ b
same_place e = cc

pub log_bad : (e : LogError) (bad : ℕ) → dump_error e ≡ BadLog bad → e ≡ logs.BadLog bad
log_bad logs.Fault bad e = absurd (cc)
log_bad logs.Unformatted bad e = absurd (cc)
log_bad (logs.BadLog at) bad e = ap logs.BadLog (same_place e)
log_bad logs.OutOfMemory bad e = absurd (cc)
