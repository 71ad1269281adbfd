use Rattle.dali_clean.proofs.CleanupLemmas.Steps.{dead_leaves, claim_is_step, recover_is_step, clean_is_step, end_is_step, give_back_is_step}
use Rattle.dali_clean.proofs.cleanup.laws.a_clean_up_makes_steps.Goals as goal

pub returns-clause-claim : goal.returns-clause-claim
returns-clause-claim c = claim_is_step

pub returns-clause-left : goal.returns-clause-left
returns-clause-left c = dead_leaves

pub returns-clause-recover : goal.returns-clause-recover
returns-clause-recover c = recover_is_step

pub returns-clause-commit : goal.returns-clause-commit
returns-clause-commit c = clean_is_step

pub returns-clause-ended : goal.returns-clause-ended
returns-clause-ended c = end_is_step

pub returns-clause-given_back : goal.returns-clause-given_back
returns-clause-given_back c = give_back_is_step
