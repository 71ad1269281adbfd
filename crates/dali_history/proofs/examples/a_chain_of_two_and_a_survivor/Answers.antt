use Rattle.dali_history.proofs.ExamplesLemmas.Rows.{chain-clean, chain-failing, chain-deleted, chain-survivors, chain-kept, chain-expected, chain-recovered, chain-restarted}
use Rattle.dali_history.proofs.examples.a_chain_of_two_and_a_survivor.Goals as goal

pub returns : goal.returns
returns c = record { clean = chain-clean; failing = chain-failing; deleted = chain-deleted; survivors = chain-survivors; kept = chain-kept; expected = chain-expected; recovered = chain-recovered; again = chain-restarted }
