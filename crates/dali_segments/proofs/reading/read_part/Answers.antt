use Rattle.std.proofs.Common.{◌≡◌, ◌+◌, ◌-◌, arith}
use Rattle.dali_segments.proofs.Readings.{told_part, part_count}
use Rattle.dali_segments.proofs.reading.read_part.Goals as goal

pub returns-clause-bytes : goal.returns-clause-bytes
returns-clause-bytes g c =
    let far : c.args.from + c.args.count - c.args.from ≡ c.args.count = omega arith in
    told_part c.args.number c.args.size c.args.dropped c.args.from c.args.count c.in_ok-more.more c.args.at (c.args.from + c.args.count - c.args.from) c.args.into.now c.read_segment.new.into far
    (part_count c.args.from c.args.count c.in_ok-more.more (c.args.from + c.args.count - c.args.from) c.args.into.now far c.requires.inside.1 c.in_ok-more.ensures.count) c.requires.inside.1 _ c.in_ok-more.ensures.bytes
