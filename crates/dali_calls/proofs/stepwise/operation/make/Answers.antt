use Rattle.dali_calls.proofs.StepwiseLemmas.Opening.{made, nothing_made, refused_then, still_promised}
use Rattle.dali_calls.proofs.stepwise.operation.make.Goals as goal

pub returns-in-Ok-commit-clause-made : goal.returns-in-Ok-commit-clause-made
returns-in-Ok-commit-clause-made g c = made c.args.precheck c.args.plan.now c.open.new.plan c.commit.new.self c.args.region.now c.open.new.region c.commit.new.region c.args.system.now c.commit.new.system c.in-Ok.ensures.opens c.in-Ok-commit.ensures.onward c.in-Ok-commit.ensures.back c.in-Ok-commit.ensures.ok

pub returns-in-Err-commit-clause-err : goal.returns-in-Err-commit-clause-err
returns-in-Err-commit-clause-err g c = nothing_made c.args.precheck c.args.plan.now c.open.new.plan c.commit.new.self c.args.region.now c.open.new.region c.commit.new.region c.args.system.now c.commit.new.system c.open.ensures.protected c.requires.closed c.in-Ok.ensures.opens c.in-Err-commit.ensures.err.0 c.in-Err-commit.ensures.err.1 c.in-Err-commit.ensures.err.2

pub returns-in-Err-commit-clause-cause : goal.returns-in-Err-commit-clause-cause
returns-in-Err-commit-clause-cause g c = refused_then c.args.precheck c.args.plan.now c.open.new.plan c.args.region.now c.open.new.region c.args.system.now.state c.in-Err-commit.cause c.in-Ok.ensures.opens c.in-Err-commit.ensures.refused c.in-Err-commit.ensures.memory

pub returns-in-Ok-commit-clause-promised : goal.returns-in-Ok-commit-clause-promised
returns-in-Ok-commit-clause-promised g c = still_promised c.args.precheck c.args.plan.now c.open.new.plan c.commit.new.self c.args.region.now c.open.new.region c.args.system.now c.commit.new.system c.in-Ok.ensures.opens c.in-Ok-commit.ensures.onward c.in-Ok-commit.ensures.back
