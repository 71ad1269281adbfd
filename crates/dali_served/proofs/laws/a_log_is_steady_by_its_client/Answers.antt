use Rattle.dali_served.proofs.Alone.{log_is_steady}
use Rattle.dali_served.proofs.laws.a_log_is_steady_by_its_client.Goals as goal

pub returns : goal.returns
returns c = log_is_steady
