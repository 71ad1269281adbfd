-- How a redo's refusal is told.
use Rattle.dali_redo.specs.declared.error.RedoError.{RedoError}
use Rattle.dali_redo.specs.declared.error.RedoError.TheVariants.{Misfit as RedoMisfit, OutOfMemory as RedoMemory}
use Rattle.dali_recovery.specs.declared.error.RecoveryError.{RecoveryError}
use Rattle.dali_recovery.specs.declared.error.RecoveryError.TheVariants.{Misfit, OutOfMemory}

abbrev pub refused_as : RedoError → RecoveryError
refused_as RedoMisfit = Misfit
refused_as RedoMemory = OutOfMemory
