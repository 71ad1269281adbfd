-- The number of each row is below the next one.
use Rattle.std.proofs.Common.{◌≡◌, ◌≤◌, true, false, Option, None, ap, subst, ⊎_elim, arith}
use Rattle.std.specs.Prelude.{is_some}
use Rattle.std.proofs.lemmas.Bool.{cases_lt}
use Rattle.dali_record.specs.Legal.{TxnState}
use Rattle.dali_runs.specs.State.{row_of}
use Rattle.dali_runs.specs.Run.{IsRow}
use Rattle.dali_runs.specs.Facts.Facts.{RowsAreOlder}

pub rows_are_older : RowsAreOlder
rows_are_older bases L c run t some = ⊎_elim (λ below. below) (λ above. absurd (late above)) (cases_lt t c.system.next)
  where
    late : c.system.next ≤ t → ⊥
    late above =
        let none : row_of c.system t ≡ None = subst (λ (o : Option TxnState). IsRow o (row_of c.system t)) (run.counts.fresh t (omega (arith, above, run.counts.next))) (run.table t) in
        let there : is_some (row_of c.system t) ≡ true = some in
        let gone : is_some (row_of c.system t) ≡ false = ap is_some none in
        cc
