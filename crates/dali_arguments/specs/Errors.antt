-- How an error of clap is told.
--     cause_of kind    want of memory, and else that the words are faulty
use Rattle.clap.specs.declared.error.ErrorKind.{ErrorKind}
use Rattle.clap.specs.declared.error.ErrorKind.TheVariants as kind
use Rattle.dali_arguments.specs.declared.error.ArgumentError.{ArgumentError}
use Rattle.dali_arguments.specs.declared.error.ArgumentError.TheVariants.{Faulty, OutOfMemory}

abbrev pub cause_of : ErrorKind → ArgumentError
cause_of kind.OutOfMemory = OutOfMemory
cause_of _ = Faulty
