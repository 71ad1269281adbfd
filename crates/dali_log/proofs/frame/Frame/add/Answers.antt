use Rattle.std.proofs.Common.{◌≡◌, ◌∙◌, ◌++◌, ap, length, arith, length-append, vec_len}
use Rattle.dali_log.specs.Batch.{body_of, Framed}
use Rattle.dali_log.proofs.Bytes.{length-frame_of}
use Rattle.dali_log.proofs.Frames.{is_frame, grown, written_whole, body_of-frame}
use Rattle.dali_log.proofs.frame.Frame.add.Goals as goal

pub settle-requires-clause-long : goal.settle-requires-clause-long
settle-requires-clause-long c =
    let long = ap length c.self.invariant.whole ∙ length-frame_of (body_of c.self.inside.bytes.items) in
    let all = ap length (c.deref_mut.ensures.value ∙ c.in_ok-extend_from_slice.ensures.items) ∙ length-append c.self.inside.bytes.items c.args.bytes.now in
    omega (arith, long, all)

pub invariant_of-self-2 : goal.invariant_of-self-2
invariant_of-self-2 c =
    let body = body_of c.self.inside.bytes.items in
    let added = c.args.bytes.now in
    let long = ap length c.self.invariant.whole ∙ length-frame_of body in
    let all = grown c.self.inside.bytes.items _ c.settle.new.bytes body added _ c.self.invariant.whole c.settle.ensures (c.deref_mut.ensures.value ∙ c.in_ok-extend_from_slice.ensures.items) (omega (arith, c.len-gate.ensures, long)) in
    let count : vec_len c.extend_from_slice.new.self ≡ length c.settle.new.bytes = omega (arith, all.1, long, c.in_ok-extend_from_slice.ensures.len, length-append body added) in
    is_frame _ (body ++ added) (written_whole _ c.settle.new.bytes c.extend_from_slice.new.self.items count ∙ all.0)
    (omega (arith, length-append body added, c.requires, ap (λ (f : Framed). length f.body) c.self.view_is))

pub returns-clause-ok : goal.returns-clause-ok
returns-clause-ok c =
    let body = body_of c.self.inside.bytes.items in
    let added = c.args.bytes.now in
    let long = ap length c.self.invariant.whole ∙ length-frame_of body in
    let all = grown c.self.inside.bytes.items _ c.settle.new.bytes body added _ c.self.invariant.whole c.settle.ensures (c.deref_mut.ensures.value ∙ c.in_ok-extend_from_slice.ensures.items) (omega (arith, c.len-gate.ensures, long)) in
    let count : vec_len c.extend_from_slice.new.self ≡ length c.settle.new.bytes = omega (arith, all.1, long, c.in_ok-extend_from_slice.ensures.len, length-append body added) in (
      ap body_of (written_whole _ c.settle.new.bytes c.extend_from_slice.new.self.items count ∙ all.0) ∙ body_of-frame (body ++ added) ∙ ap (λ (f : Framed). f.body ++ added) c.self.view_is,
      omega (arith, ap (λ (f : Framed). f.room) c.self.view_is, c.in_ok-extend_from_slice.ensures.len, c.extend_from_slice.ensures.capacity),
    )
