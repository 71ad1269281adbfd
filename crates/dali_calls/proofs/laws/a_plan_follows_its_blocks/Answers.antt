use Rattle.dali_calls.proofs.Following.{onward_follows, back_follows}
use Rattle.dali_calls.proofs.laws.a_plan_follows_its_blocks.Goals as goal

pub returns-clause-onward : goal.returns-clause-onward
returns-clause-onward c = onward_follows

pub returns-clause-back : goal.returns-clause-back
returns-clause-back c = back_follows
