use Rattle.dali_image.proofs.Taken.{tables_are_spelled}
use Rattle.dali_image.proofs.Again.{tables_are_read_again}
use Rattle.dali_image.proofs.Kept.{rows_are_kept}
use Rattle.dali_image.proofs.laws.tables_are_read_as_they_are_written.Goals as goal

pub returns : goal.returns
returns c = record { spelled = tables_are_spelled; again = tables_are_read_again; kept = rows_are_kept }
