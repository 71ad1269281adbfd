use Rattle.dali_concurrent.proofs.Own.{only_starts, only_begins, only_ends, only_claims, only_lets, only_stays, only_seen}
use Rattle.dali_concurrent.proofs.refusals.a_client_knows_its_own_transactions.Goals as goal

pub returns : goal.returns
returns c = record {
  starts = only_starts;
  begins = only_begins;
  ends = only_ends;
  claims = only_claims;
  lets = only_lets;
  stays = only_stays;
  seen = only_seen;
}
