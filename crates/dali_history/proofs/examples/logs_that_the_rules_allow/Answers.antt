use Rattle.dali_history.proofs.ExamplesLemmas.Rows.{chain-ruled, chain_restarted-ruled, abort-ruled, full-ruled, taken_back-ruled}
use Rattle.dali_history.proofs.examples.logs_that_the_rules_allow.Goals as goal

pub returns : goal.returns
returns c = record { chain = chain-ruled; restarted = chain_restarted-ruled; abort = abort-ruled; full = full-ruled; given_up = taken_back-ruled }
