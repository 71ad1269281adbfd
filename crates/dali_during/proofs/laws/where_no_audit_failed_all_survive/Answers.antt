use Rattle.dali_during.proofs.UnpokedCourses.{all_that_committed_survives}
use Rattle.dali_during.proofs.laws.where_no_audit_failed_all_survive.Goals as goal

pub returns : goal.returns
returns c = all_that_committed_survives
