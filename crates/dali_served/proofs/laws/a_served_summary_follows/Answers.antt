use Rattle.dali_served.proofs.Summing.{summaries_follow}
use Rattle.dali_served.proofs.laws.a_served_summary_follows.Goals as goal

pub returns : goal.returns
returns c = summaries_follow
