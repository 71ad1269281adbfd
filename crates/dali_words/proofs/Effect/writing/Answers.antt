use Rattle.std.proofs.Common.{◌≡◌, ◌≤◌, ◌+◌, ◌-◌, length, arith}
use Rattle.dali_words.proofs.Rows.{part_written}
use Rattle.dali_words.proofs.Effect.writing.Goals as goal

pub returns : goal.returns
returns c =
    let room : c.args.first + length c.args.news.now ≤ length c.args.words.now = omega (arith, c.told-words) in
    let size : c.args.first + length c.args.news.now - c.args.first ≡ length c.args.news.now = omega arith in
    let words = part_written c.args.first _ c.args.words.now c.copy_from_slice.new.self c.args.news.now room size c.copy_from_slice.ensures.after in
    λ i. record { read = c.args.read; write = c.bits.ensures i; after = words i }
