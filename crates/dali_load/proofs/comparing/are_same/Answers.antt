use Rattle.std.proofs.lemmas.Slice.Eq.{slice_eq-Decides}
use Rattle.dali_load.proofs.SameRows.{rows_decide}
use Rattle.dali_load.proofs.comparing.are_same.Goals as goal

pub returns : goal.returns
returns c = slice_eq-Decides rows_decide c.args.rows.now c.args.others.now c.eq.result c.eq.ensures
