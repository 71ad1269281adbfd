use Rattle.dali_history.proofs.ExamplesLemmas.Rows.{damaged_writer-deleted, damaged_writer-expected, damaged_writer-recovered}
use Rattle.dali_history.proofs.examples.a_writer_of_damaged_words_is_deleted.Goals as goal

pub returns : goal.returns
returns c = record { deleted = damaged_writer-deleted; expected = damaged_writer-expected; recovered = damaged_writer-recovered }
