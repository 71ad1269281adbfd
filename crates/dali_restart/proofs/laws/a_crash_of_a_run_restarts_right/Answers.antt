use Rattle.dali_restart.proofs.Headline.{crash_restarts_right, on_way_goes_on, unpoked_restarts_right}
use Rattle.dali_restart.proofs.laws.a_crash_of_a_run_restarts_right.Goals as goal

pub returns-clause-right : goal.returns-clause-right
returns-clause-right c = crash_restarts_right

pub returns-clause-again : goal.returns-clause-again
returns-clause-again c = on_way_goes_on

pub returns-clause-unpoked : goal.returns-clause-unpoked
returns-clause-unpoked c = unpoked_restarts_right
