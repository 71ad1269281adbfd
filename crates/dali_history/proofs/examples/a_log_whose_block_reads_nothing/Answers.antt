use Rattle.dali_history.proofs.ExamplesLemmas.Rows.{reads_nothing-ruled, reads_nothing-expected, reads_nothing-refused}
use Rattle.dali_history.proofs.examples.a_log_whose_block_reads_nothing.Goals as goal

pub returns : goal.returns
returns c = record { others = reads_nothing-ruled; expected = reads_nothing-expected; refused = reads_nothing-refused }
