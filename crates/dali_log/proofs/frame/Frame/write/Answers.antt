use Rattle.std.proofs.Common.{◌≡◌, ◌∙◌, ◌++◌, ap, length, arith, rules, length-append, vec_len}
use Rattle.dali_record.specs.Spelling.{spelling}
use Rattle.dali_log.specs.Batch.{body_of, Framed}
use Rattle.dali_log.specs.Entries.{record_of}
use Rattle.dali_log.proofs.Bytes.{length-frame_of}
use Rattle.dali_log.proofs.Frames.{is_frame, grown, written_whole, body_of-frame}
use Rattle.dali_log.proofs.frame.Frame.write.Goals as goal

pub settle-requires-clause-long : goal.settle-requires-clause-long
settle-requires-clause-long c =
    let long = ap length c.self.invariant.whole ∙ length-frame_of (body_of c.self.inside.bytes.items) in
    let all = ap length (c.deref_mut.ensures.value ∙ c.in_ok-append.ensures.ok) ∙ length-append c.self.inside.bytes.items (spelling (record_of c.args.given)) in
    omega (arith, long, all)

pub invariant_of-self-2 : goal.invariant_of-self-2
invariant_of-self-2 c =
    let body = body_of c.self.inside.bytes.items in
    let added = spelling (record_of c.args.given) in
    let long = ap length c.self.invariant.whole ∙ length-frame_of body in
    let old : vec_len c.self.inside.bytes ≡ length c.self.inside.bytes.items = search rules in
    let new : vec_len c.append.new.into ≡ length c.append.new.into.items = search rules in
    let items = ap length c.in_ok-append.ensures.ok ∙ length-append c.self.inside.bytes.items added in
    let all = grown c.self.inside.bytes.items _ c.settle.new.bytes body added _ c.self.invariant.whole c.settle.ensures (c.deref_mut.ensures.value ∙ c.in_ok-append.ensures.ok) (omega (arith, c.len-gate.ensures, old, long)) in
    let count : vec_len c.append.new.into ≡ length c.settle.new.bytes = omega (arith, all.1, long, new, items, length-append body added) in
    is_frame _ (body ++ added) (written_whole _ c.settle.new.bytes c.append.new.into.items count ∙ all.0)
    (omega (arith, length-append body added, c.requires.few, ap (λ (f : Framed). length f.body) c.self.view_is))

pub returns-clause-ok : goal.returns-clause-ok
returns-clause-ok c =
    let body = body_of c.self.inside.bytes.items in
    let added = spelling (record_of c.args.given) in
    let long = ap length c.self.invariant.whole ∙ length-frame_of body in
    let old : vec_len c.self.inside.bytes ≡ length c.self.inside.bytes.items = search rules in
    let new : vec_len c.append.new.into ≡ length c.append.new.into.items = search rules in
    let items = ap length c.in_ok-append.ensures.ok ∙ length-append c.self.inside.bytes.items added in
    let all = grown c.self.inside.bytes.items _ c.settle.new.bytes body added _ c.self.invariant.whole c.settle.ensures (c.deref_mut.ensures.value ∙ c.in_ok-append.ensures.ok) (omega (arith, c.len-gate.ensures, old, long)) in
    let count : vec_len c.append.new.into ≡ length c.settle.new.bytes = omega (arith, all.1, long, new, items, length-append body added) in (
      ap body_of (written_whole _ c.settle.new.bytes c.append.new.into.items count ∙ all.0) ∙ body_of-frame (body ++ added) ∙ ap (λ (f : Framed). f.body ++ added) c.self.view_is,
      omega (arith, ap (λ (f : Framed). f.room) c.self.view_is, old, new, items, c.append.ensures.capacity),
    )
