use Rattle.dali_crash.proofs.DisksLemmas.Growth.{each_call_may_fail, others_never_fail, inside_is_fault, fault_is_inside, quiet_inside}
use Rattle.dali_crash.proofs.disks.laws.inside_a_step_stands_what_a_fault_leaves.Goals as goal

pub returns : goal.returns
returns c = record { may_fail = each_call_may_fail; others = others_never_fail; is_fault = inside_is_fault; faults = fault_is_inside; quiet = quiet_inside }
