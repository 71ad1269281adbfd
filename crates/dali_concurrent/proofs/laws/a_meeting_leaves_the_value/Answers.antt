use Rattle.dali_concurrent.proofs.Kept.{system_meets, region_meets}
use Rattle.dali_concurrent.proofs.Clients.{client_meets}
use Rattle.dali_concurrent.proofs.laws.a_meeting_leaves_the_value.Goals as goal

pub returns : goal.returns
returns c = record {
  system = system_meets;
  region = region_meets;
  client = client_meets;
}
