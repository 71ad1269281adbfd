use Rattle.dali_log.proofs.Frames.{empty_frame}
use Rattle.dali_log.proofs.frame.Frame.new.Goals as goal

pub invariant_of-result : goal.invariant_of-result
invariant_of-result c = empty_frame _ (c.in_ok-bytes.ensures.items_if_clones_equal (λ y e. e))
