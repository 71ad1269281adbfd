use Rattle.dali_during.proofs.Reported.{reports_all_deleted}
use Rattle.dali_during.proofs.laws.restarts_report_all_that_are_deleted.Goals as goal

pub returns : goal.returns
returns c = reports_all_deleted
