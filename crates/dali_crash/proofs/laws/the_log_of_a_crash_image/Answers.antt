use Rattle.dali_crash.proofs.CrashLogs.{crash_logs}
use Rattle.dali_crash.proofs.laws.the_log_of_a_crash_image.Goals as goal

pub returns : goal.returns
returns c = crash_logs
