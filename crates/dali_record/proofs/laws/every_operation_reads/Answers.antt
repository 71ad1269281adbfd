use Rattle.dali_record.proofs.Whole.{made_reads, made_gives}
use Rattle.dali_record.proofs.laws.every_operation_reads.Goals as goal

pub returns : goal.returns
returns c = record { reads = made_reads; gives = made_gives }
