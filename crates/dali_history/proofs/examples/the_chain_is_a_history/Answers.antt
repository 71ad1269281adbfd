use Rattle.dali_history.specs.Examples.Logs.{chain_log}
use Rattle.dali_history.proofs.HeadlineLemmas.Headline.{restart_is_right}
use Rattle.dali_history.proofs.ExamplesLemmas.Premises.{chain-history}
use Rattle.dali_history.proofs.examples.the_chain_is_a_history.Goals as goal

pub returns : goal.returns
returns c = record { history = chain-history; restart = restart_is_right chain_log chain-history }
