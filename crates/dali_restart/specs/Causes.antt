-- What a restart says of an error of the log's file, of one of an image or the anchor, of one of the log's records, and of one of what it writes.
use Rattle.dali_store.specs.declared.store.FileName.TheVariants.{Log}
use Rattle.dali_log.specs.declared.error.LogError.{LogError}
use Rattle.dali_log.specs.declared.error.LogError.TheVariants as logs
use Rattle.dali_image.specs.declared.error.ImageError.{ImageError}
use Rattle.dali_image.specs.declared.error.ImageError.TheVariants as images
use Rattle.dali_recovery.specs.declared.reload.error.ReloadError.{ReloadError}
use Rattle.dali_recovery.specs.declared.reload.error.ReloadError.TheVariants as reloads
use Rattle.dali_restart.specs.declared.renewal.error.RenewalError.{RenewalError}
use Rattle.dali_restart.specs.declared.renewal.error.RenewalError.TheVariants as renewals
use Rattle.dali_restart.specs.declared.error.RestartError.{RestartError}
use Rattle.dali_restart.specs.declared.error.RestartError.TheVariants as errors

abbrev pub log_error : LogError → RestartError
log_error logs.Fault = errors.Fault
log_error logs.Unformatted = errors.Unformatted
log_error (logs.BadLog at) = errors.BadStore Log at
log_error logs.OutOfMemory = errors.OutOfMemory

abbrev pub image_error : ImageError → RestartError
image_error images.Fault = errors.Fault
image_error (images.BadImage file at) = errors.BadStore file at
image_error images.OutOfMemory = errors.OutOfMemory

-- a pass that scans never tells that one has to be made again
abbrev pub reload_error : ReloadError → RestartError
reload_error reloads.Fault = errors.Fault
reload_error (reloads.BadLog at) = errors.BadStore Log at
reload_error reloads.Unscanned = errors.OutOfMemory
reload_error reloads.OutOfMemory = errors.OutOfMemory

abbrev pub renewal_error : RenewalError → RestartError
renewal_error renewals.Fault = errors.Fault
renewal_error renewals.TooLong = errors.TooLong
renewal_error renewals.OutOfMemory = errors.OutOfMemory
