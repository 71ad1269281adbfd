use Rattle.dali_calls.proofs.StepwiseLemmas.Growing.{step_grows, led_grows}
use Rattle.dali_calls.proofs.stepwise.laws.the_log_grows_by_what_is_logged.Goals as goal

pub returns-clause-step : goal.returns-clause-step
returns-clause-step c = step_grows

pub returns-clause-led : goal.returns-clause-led
returns-clause-led c = led_grows
