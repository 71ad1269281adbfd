use Rattle.dali_audit.proofs.Stepping.{pass_is_step, end_is_step}
use Rattle.dali_audit.proofs.laws.an_audit_makes_steps.Goals as goal

-- src/laws.rt:6:1
pub returns-clause-passed : goal.returns-clause-passed
returns-clause-passed c = pass_is_step

-- src/laws.rt:6:1
pub returns-clause-ended : goal.returns-clause-ended
returns-clause-ended c = end_is_step
