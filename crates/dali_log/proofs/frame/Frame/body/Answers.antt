use Rattle.std.proofs.Common.{◌≤◌, ◌+◌, ◌∙◌, arith, ap, sym, length}
use Rattle.dali_log.specs.Batch.{body_of, Framed}
use Rattle.dali_log.proofs.Bytes.{length-frame_of}
use Rattle.dali_log.proofs.frame.Frame.body.Goals as goal

pub slice_bounds-result-end : goal.slice_bounds-result-end
slice_bounds-result-end c =
    let long = ap length c.self.invariant.whole ∙ length-frame_of (body_of c.self.inside.bytes.items) in
    let size = c.len.ensures.len ∙ ap (λ (f : Framed). length f.body) (sym c.self.view_is) in
    let few : 4 + c.len.result ≤ length c.deref.result.now = omega (arith, ap length c.deref.ensures.value, long, size) in
    omega arith
