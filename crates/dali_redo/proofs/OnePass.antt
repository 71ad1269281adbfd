-- Where no region failed, the scan skips nothing.
use Rattle.dali_resume.proofs.OnePass.{nothing_left_out}
use Rattle.dali_redo.specs.Laws.{OnePassKeeps}

pub one_pass_keeps : OnePassKeeps
one_pass_keeps d k r sound = nothing_left_out d sound k.table k.seen r
