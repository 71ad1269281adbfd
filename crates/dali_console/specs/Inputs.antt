-- What stands before a reader or a writer.
--     inner k             the reader
--     failure_kept k      why its last read that failed has failed
--     written_to o        the writer
--     failure_met o       why its last write that failed has failed
use Rattle.std.specs.Prelude.{Option}
use Rattle.dali_console.specs.declared.failure.StreamFailure.{StreamFailure}
use Rattle.dali_console.specs.declared.input.KeptInput.{KeptInput}
use Rattle.dali_console.specs.declared.output.KeptOutput.{KeptOutput}

abbrev pub inner : {R : Type 0} → KeptInput R → R
inner k = k.reader

abbrev pub failure_kept : {R : Type 0} → KeptInput R → Option StreamFailure
failure_kept k = k.failure

abbrev pub written_to : {W E : Type 0} → KeptOutput W E → W
written_to o = o.writer

abbrev pub failure_met : {W E : Type 0} → KeptOutput W E → Option StreamFailure
failure_met o = o.failure
