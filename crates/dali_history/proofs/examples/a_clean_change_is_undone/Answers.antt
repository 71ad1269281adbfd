use Rattle.dali_history.proofs.ExamplesLemmas.Rows.{undone_change-deleted, undone_change-expected, undone_change-recovered}
use Rattle.dali_history.proofs.examples.a_clean_change_is_undone.Goals as goal

pub returns : goal.returns
returns c = record { deleted = undone_change-deleted; expected = undone_change-expected; recovered = undone_change-recovered }
