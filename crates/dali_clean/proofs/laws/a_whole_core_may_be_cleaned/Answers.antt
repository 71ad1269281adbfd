use Rattle.dali_clean.proofs.Cleaning.{whole_may_clean}
use Rattle.dali_clean.proofs.laws.a_whole_core_may_be_cleaned.Goals as goal

pub returns : goal.returns
returns c = whole_may_clean
