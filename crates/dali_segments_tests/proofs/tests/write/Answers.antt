use Rattle.dali_segments_tests.proofs.Guards.{placed}
use Rattle.dali_segments_tests.proofs.tests.write.Goals as goal

pub write_at-requires : goal.write_at-requires
write_at-requires g c = placed c.args.at c.in_ok-length.length _ _ c.if-length-at.false c.length.ensures.told c.in_ok-length.ensures.length
