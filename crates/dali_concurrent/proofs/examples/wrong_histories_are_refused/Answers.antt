use Rattle.dali_concurrent.proofs.Wrong.{unsigned, unlatched, unaudited}
use Rattle.dali_concurrent.proofs.WrongRuns.{unfit, unstored, untold}
use Rattle.dali_concurrent.proofs.examples.wrong_histories_are_refused.Goals as goal

pub returns : goal.returns
returns c = record {
  unsigned = unsigned;
  unlatched = unlatched;
  unaudited = unaudited;
  unfit = unfit;
  unstored = unstored;
  untold = untold;
}
