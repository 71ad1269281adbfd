use Rattle.dali_calls.proofs.StepwiseLemmas.Asking.{asked_by, others_asked}
use Rattle.dali_calls.proofs.stepwise.request.ask.Goals as goal

pub returns-clause-asked : goal.returns-clause-asked
returns-clause-asked c = asked_by c.request.result c.args.system.now c.request.new.self c.args.txn c.args.plan.now c.lock-key.result c.requires.own c.lock-key.ensures c.request.ensures.answer c.request.ensures.ok

pub returns-clause-others : goal.returns-clause-others
returns-clause-others c = others_asked c.request.result c.args.system.now c.request.new.self c.args.txn c.lock-key.result.0 c.lock-key.result.1 c.request.ensures.ok c.request.ensures.err
