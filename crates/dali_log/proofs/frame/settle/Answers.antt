use Rattle.std.proofs.Common.{◌≡◌, ◌∙◌, ◌∷◌, [], ◌+◌, ap, length, arith, append_assoc, length-append}
use Rattle.dali_bytes.specs.Fields.{number32}
use Rattle.dali_log.specs.Batch.{sized, frame_of}
use Rattle.dali_log.proofs.Bytes.{length-sized, length-frame_of}
use Rattle.dali_log.proofs.Frames.{settled}
use Rattle.dali_log.proofs.frame.settle.Goals as goal

pub returns : goal.returns
unfolding number32
returns c = λ body added e at.
    let moved = c.move_back.ensures (sized body) added (e ∙ append_assoc (sized body) (0 ∷ []) added) (omega (arith, length-sized body, at)) in
    let all : length c.args.bytes.now ≡ length body + length added + 5 = omega (arith, ap length e, length-append (frame_of body) added, length-frame_of body) in
    c.write_u32.ensures ∙ settled body added c.move_back.new.bytes _ moved (omega (arith, all))
