use Rattle.dali_script.proofs.Outcomes.{either, never_both, one_script, one_fault}
use Rattle.dali_script.proofs.laws.spelled_or_wrong.Goals as goal

pub returns : goal.returns
returns c = record { either = either; never_both = never_both; one_script = one_script; one_fault = one_fault }
