use Rattle.dali_segments.proofs.Quiets.{cause_here}
use Rattle.dali_segments.proofs.Sounds.{sound_quiet}
use Rattle.dali_segments.proofs.Readings.{told_ready}
use Rattle.dali_segments.proofs.segmented.Segmented.read_from.Goals as goal

pub invariant_of-self-2 : goal.invariant_of-self-2
invariant_of-self-2 g c = record {
  in_range = c.args.self.now.in_range;
  sound = sound_quiet c.read_log.ensures.quiet _ _ _ _ _ c.args.self.now.sound;
}

pub returns-then-self-clause-cause : goal.returns-then-self-clause-cause
returns-then-self-clause-cause g c = cause_here _ _ _ c.refuse.result c.refuse.ensures.fits c.refuse.ensures.more c.refuse.ensures.err

pub returns-clause-bytes : goal.returns-clause-bytes
returns-clause-bytes g c =
    told_ready c.args.self.now.lost c.args.self.now.size c.args.self.now.last c.args.self.now.dropped c.args.self.now.settled c.args.at c.in_ok-count.count c.args.into.now c.read_log.new.into
    c.if-self.false _ _ _ c.args.self.now.sound c.in_ok-count.ensures.bytes
