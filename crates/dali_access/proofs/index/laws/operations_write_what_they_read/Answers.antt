use Rattle.dali_access.proofs.IndexLemmas.Orders.{writes_within_reads}
use Rattle.dali_access.proofs.index.laws.operations_write_what_they_read.Goals as goal

pub returns : goal.returns
returns c = writes_within_reads
