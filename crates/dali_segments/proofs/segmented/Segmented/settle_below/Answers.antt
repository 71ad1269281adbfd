use Rattle.dali_segments.proofs.Quiets.{cause_here}
use Rattle.dali_segments.proofs.segmented.Segmented.settle_below.Goals as goal

pub returns-then-self-clause-cause : goal.returns-then-self-clause-cause
returns-then-self-clause-cause g c = cause_here _ _ _ c.refuse.result c.refuse.ensures.fits c.refuse.ensures.more c.refuse.ensures.err
