use Rattle.dali_access.proofs.IndexLemmas.Orders.{look_reads}
use Rattle.dali_access.proofs.index.laws.a_look_reads_up_to_its_entry.Goals as goal

pub returns : goal.returns
returns c = look_reads
