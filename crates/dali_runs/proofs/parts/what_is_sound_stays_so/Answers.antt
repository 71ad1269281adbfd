use Rattle.dali_runs.proofs.PartsLemmas.Shares.{step_spares, touch_spares, check_is_sound}
use Rattle.dali_runs.proofs.parts.what_is_sound_stays_so.Goals as goal

pub returns-clause-step : goal.returns-clause-step
returns-clause-step c = step_spares

pub returns-clause-touch : goal.returns-clause-touch
returns-clause-touch c = touch_spares

pub returns-clause-check : goal.returns-clause-check
returns-clause-check c = check_is_sound
