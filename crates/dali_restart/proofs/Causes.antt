-- What a restart's error tells of the one that it was made of.
use Rattle.std.proofs.Common.{◌≡◌, ℕ, refl, ap, ◌∙◌}
use Rattle.dali_store.specs.declared.store.FileName.{FileName}
use Rattle.dali_store.specs.declared.store.FileName.TheVariants.{Log}
use Rattle.dali_log.specs.declared.error.LogError.{LogError}
use Rattle.dali_log.specs.declared.error.LogError.TheVariants as logs
use Rattle.dali_image.specs.declared.error.ImageError.{ImageError}
use Rattle.dali_image.specs.declared.error.ImageError.TheVariants as images
use Rattle.dali_restart.specs.declared.error.RestartError.TheVariants as errors
use Rattle.dali_restart.specs.Causes.{log_error, image_error}

pub log_bad : (e : LogError) (file : FileName) (at : ℕ) → log_error e ≡ errors.BadStore file at → (file ≡ Log) × (e ≡ logs.BadLog at)
log_bad logs.Fault file at h = absurd cc
log_bad logs.Unformatted file at h = absurd cc
log_bad (logs.BadLog bad) file at h = (let is : file ≡ Log = cc in is, let is : bad ≡ at = cc in ap logs.BadLog is)
log_bad logs.OutOfMemory file at h = absurd cc

pub log_fault : (e : LogError) → log_error e ≡ errors.Fault → e ≡ logs.Fault
log_fault logs.Fault h = refl
log_fault logs.Unformatted h = absurd cc
log_fault (logs.BadLog bad) h = absurd cc
log_fault logs.OutOfMemory h = absurd cc

pub log_unformatted : (e : LogError) → log_error e ≡ errors.Unformatted → e ≡ logs.Unformatted
log_unformatted logs.Fault h = absurd cc
log_unformatted logs.Unformatted h = refl
log_unformatted (logs.BadLog bad) h = absurd cc
log_unformatted logs.OutOfMemory h = absurd cc

pub log_formatted : (e : LogError) → log_error e ≡ errors.Formatted → ⊥
log_formatted logs.Fault h = absurd cc
log_formatted logs.Unformatted h = absurd cc
log_formatted (logs.BadLog bad) h = absurd cc
log_formatted logs.OutOfMemory h = absurd cc

pub image_bad : (e : ImageError) (file : FileName) (at : ℕ) → image_error e ≡ errors.BadStore file at → e ≡ images.BadImage file at
image_bad images.Fault file at h = absurd cc
image_bad (images.BadImage name bad) file at h = let one : name ≡ file = cc in let two : bad ≡ at = cc in ap (λ n. images.BadImage n bad) one ∙ ap (images.BadImage file) two
image_bad images.OutOfMemory file at h = absurd cc

pub image_fault : (e : ImageError) → image_error e ≡ errors.Fault → e ≡ images.Fault
image_fault images.Fault h = refl
image_fault (images.BadImage name bad) h = absurd cc
image_fault images.OutOfMemory h = absurd cc

pub image_unformatted : (e : ImageError) → image_error e ≡ errors.Unformatted → ⊥
image_unformatted images.Fault h = absurd cc
image_unformatted (images.BadImage name bad) h = absurd cc
image_unformatted images.OutOfMemory h = absurd cc

pub image_formatted : (e : ImageError) → image_error e ≡ errors.Formatted → ⊥
image_formatted images.Fault h = absurd cc
image_formatted (images.BadImage name bad) h = absurd cc
image_formatted images.OutOfMemory h = absurd cc
