use Rattle.dali_crash.proofs.Flags.{flag_changes}
use Rattle.dali_crash.proofs.laws.the_flag_changes_at_starts_and_ends.Goals as goal

pub returns : goal.returns
returns c = flag_changes
