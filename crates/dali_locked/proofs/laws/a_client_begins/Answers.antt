use Rattle.dali_locked.proofs.LockingLaws.{client_begins}
use Rattle.dali_locked.proofs.laws.a_client_begins.Goals as goal

pub returns : goal.returns
returns g c = client_begins g.B.Beginning.begun
