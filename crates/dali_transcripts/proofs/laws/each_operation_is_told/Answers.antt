use Rattle.dali_transcripts.proofs.Operations.{operations_are_told}
use Rattle.dali_transcripts.proofs.laws.each_operation_is_told.Goals as goal

pub returns : goal.returns
returns c = operations_are_told
