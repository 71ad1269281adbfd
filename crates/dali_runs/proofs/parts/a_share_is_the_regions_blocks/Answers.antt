use Rattle.dali_runs.proofs.PartsLemmas.Shares.{share_appends, share_again, share_counts, share_is_short, share_alone, share_is_ordered}
use Rattle.dali_runs.proofs.parts.a_share_is_the_regions_blocks.Goals as goal

pub returns-clause-appends : goal.returns-clause-appends
returns-clause-appends c = share_appends

pub returns-clause-again : goal.returns-clause-again
returns-clause-again c = share_again

pub returns-clause-counts : goal.returns-clause-counts
returns-clause-counts c = share_counts

pub returns-clause-short : goal.returns-clause-short
returns-clause-short c = share_is_short

pub returns-clause-alone : goal.returns-clause-alone
returns-clause-alone c = share_alone

pub returns-clause-ordered : goal.returns-clause-ordered
returns-clause-ordered c = share_is_ordered
