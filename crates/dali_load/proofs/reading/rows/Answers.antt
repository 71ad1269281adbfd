use Rattle.dali_load.proofs.Spelling.{given_spelled, given_only, given_wrong, given_refused}
use Rattle.dali_load.proofs.reading.rows.Goals as goal

pub returns : goal.returns
returns c = record {
  spelled = given_spelled c.args.bytes.now (λ rows. rows.items) c.read.result c.read.ensures;
  only = given_only c.args.bytes.now (λ rows. rows.items) c.read.result c.read.ensures;
  wrong = given_wrong c.args.bytes.now (λ rows. rows.items) c.read.result c.read.ensures;
  refused = given_refused c.args.bytes.now (λ rows. rows.items) c.read.result c.read.ensures;
}
