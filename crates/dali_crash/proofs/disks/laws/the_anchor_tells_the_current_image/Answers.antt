use Rattle.dali_crash.proofs.DisksLemmas.Growth.{anchor_tells, anchor_tells_inside}
use Rattle.dali_crash.proofs.disks.laws.the_anchor_tells_the_current_image.Goals as goal

pub returns : goal.returns
returns c = record { behind = anchor_tells; inside = anchor_tells_inside }
