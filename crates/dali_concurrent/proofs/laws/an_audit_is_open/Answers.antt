use Rattle.dali_concurrent.proofs.Auditing.{audit_opens, audit_stays_open, open_until_passed, open_until_its_end}
use Rattle.dali_concurrent.proofs.laws.an_audit_is_open.Goals as goal

pub returns : goal.returns
returns c = record {
  opens = audit_opens;
  stays = audit_stays_open;
  passed = open_until_passed;
  ended = open_until_its_end;
}
