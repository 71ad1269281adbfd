use Rattle.dali_access.proofs.IndexLemmas.Orders.{add_reads}
use Rattle.dali_access.proofs.index.laws.an_add_reads_up_to_the_first_free_entry.Goals as goal

pub returns : goal.returns
returns c = add_reads
