use Rattle.dali_calls.proofs.StepwiseLemmas.Asking.{answers_now}
use Rattle.dali_calls.proofs.stepwise.ending.answer.Goals as goal

pub returns-clause-answers : goal.returns-clause-answers
returns-clause-answers c = answers_now c.args.system.now c.done.new.system c.args.plan.now c.in_ok-answer.answer c.wants.ensures.whole c.requires.wants c.in_ok-answer.ensures.ok.0 c.in_ok-answer.ensures.room c.in_ok-answer.ensures.ok.1
