use Rattle.dali_segments.proofs.Readings.{told_zeros}
use Rattle.dali_segments.proofs.reading.read_segment.Goals as goal

pub returns-then-number-dropped-clause-bytes : goal.returns-then-number-dropped-clause-bytes
returns-then-number-dropped-clause-bytes g c =
    told_zeros c.args.size c.args.number c.args.dropped c.args.at _ c.args.into.now _ c.if-number-gt0.true c.if-number-dropped.true c.requires.inside c.fill.ensures.len (c.fill.ensures.after (λ y e. e)) _
