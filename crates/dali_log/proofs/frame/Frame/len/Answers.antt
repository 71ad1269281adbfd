use Rattle.std.proofs.Common.{arith, length, ap}
use Rattle.dali_log.specs.Batch.{body_of}
use Rattle.dali_log.proofs.Bytes.{length-frame_of}
use Rattle.dali_log.proofs.frame.Frame.len.Goals as goal

pub overflow_sub-result : goal.overflow_sub-result
overflow_sub-result c = omega (arith, c.len.ensures, ap length c.self.invariant.whole, length-frame_of (body_of c.self.inside.bytes.items))
