use Rattle.std.proofs.Common.{List, ℕ, subst, rules}
use Rattle.dali_load.specs.Rows.{IsWrong}
use Rattle.dali_run.proofs.loading.read_rows.Goals as goal

pub returns-in-Err-BadLine-clause-fails : goal.returns-in-Err-BadLine-clause-fails
returns-in-Err-BadLine-clause-fails g c = record {
  bytes = c.in_ok-bytes.bytes.items;
  all = c.in_ok-bytes.ensures.all;
  short = c.in_ok-bytes.ensures.short;
  wrong = subst (λ (b : List ℕ). IsWrong b c.in-Err-BadLine.line c.in-Err-BadLine.kind) c.deref.ensures.value (c.rows.ensures.wrong c.in-Err-BadLine.line c.in-Err-BadLine.kind (search rules));
}
