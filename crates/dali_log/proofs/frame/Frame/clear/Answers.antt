use Rattle.std.proofs.Common.{◌≡◌, ◌∙◌, ap, length, arith, ℕ}
use Rattle.std.specs.Prelude.{vec_len}
use Rattle.std.proofs.Math.ListN.{replicate}
use Rattle.dali_log.specs.Batch.{body_of}
use Rattle.dali_log.proofs.Bytes.{length-frame_of}
use Rattle.dali_log.proofs.Frames.{empty_frame}
use Rattle.dali_log.proofs.frame.Frame.clear.Goals as goal

pub invariant_of-self : goal.invariant_of-self
invariant_of-self c =
    let long = ap length c.self.invariant.whole ∙ length-frame_of (body_of c.self.inside.bytes.items) in
    let five : vec_len c.truncate.new.self ≡ 5 = omega (arith, c.truncate.ensures.len, long) in
    empty_frame _ (c.fill.ensures.items (λ y e. e) ∙ ap (λ (n : ℕ). replicate n 0) five)
