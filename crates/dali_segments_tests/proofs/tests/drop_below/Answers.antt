use Rattle.dali_segments_tests.proofs.Guards.{below}
use Rattle.dali_segments_tests.proofs.tests.drop_below.Goals as goal

pub drop_log-requires : goal.drop_log-requires
drop_log-requires g c = below c.args.below c.in_ok-length.length _ _ c.if-length-below.false c.length.ensures.told c.in_ok-length.ensures.length
