use Rattle.dali_history.proofs.ExamplesLemmas.Premises.{undone-history, writer-history}
use Rattle.dali_history.proofs.examples.other_damaged_logs_are_histories.Goals as goal

pub returns : goal.returns
returns c = record { undone_change = undone-history; damaged_writer = writer-history }
