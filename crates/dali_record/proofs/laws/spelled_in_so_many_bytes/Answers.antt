use Rattle.dali_record.proofs.Lengths.{length-spelling}
use Rattle.dali_record.proofs.laws.spelled_in_so_many_bytes.Goals as goal

pub returns : goal.returns
returns c = length-spelling
