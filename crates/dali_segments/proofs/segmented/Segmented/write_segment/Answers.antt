use Rattle.std.proofs.Common.{ℕ, ◌≤◌, ◌<◌, ◌+◌, ◌-◌, refl, arith}
use Rattle.dali_segments.proofs.Written.{segment_place, segment_writes, segment_holds, segment_full, segment_sound, on_ok}
use Rattle.dali_segments.proofs.segmented.Segmented.write_segment.Goals as goal

few_of : (size last settled dropped : ℕ) → (64 ≤ size) × ((last < 4095) × ((settled ≤ last + 1) × (dropped ≤ last - 1))) → dropped < 4095
few_of size last settled dropped range = omega (arith, range.1.0, range.1.1.1)

pub write_at-requires-clause-place : goal.write_at-requires-clause-place
write_at-requires-clause-place g c =
    let now = c.args.self.now in
    segment_place now.size now.in_range.0 now.last now.dropped now.settled c.args.number c.args.at _ c.requires.number.0 now.in_range.1.0 (few_of now.size now.last now.settled now.dropped now.in_range)
    c.requires.inside c.requires.number.1 now.lost c.requires.found _ _ _ now.sound c.requires.place

pub invariant_of-self : goal.invariant_of-self
invariant_of-self g c =
    let now = c.args.self.now in
    let few = few_of now.size now.last now.settled now.dropped now.in_range in
    record {
      in_range = (
        now.in_range.0,
        (
          omega (arith, c.max-last.ensures, now.in_range.1.0, c.requires.number.0),
          (
            omega (arith, c.max-last.ensures, c.min-settled.ensures, now.in_range.1.1.0),
            omega (arith, c.max-last.ensures, now.in_range.1.1.1),
          ),
        ),
      );
      sound = segment_sound now.size now.in_range.0 now.last now.dropped now.settled c.args.number c.args.at _ c.requires.number.0 now.in_range.1.0 few
          c.requires.inside c.requires.number.1 now.lost c.requires.found _ _ c.max-last.ensures c.min-settled.ensures _ _ _ _ _ _ now.sound c.requires.place
          c.write_at.ensures.torn c.write_at.ensures.crash c.write_at.ensures.going (g.met.F.Files.reads_now c.write_at.new.self) (g.met.F.Files.no_longer c.write_at.new.self);
    }

pub returns-clause-writes : goal.returns-clause-writes
returns-clause-writes g c =
    let now = c.args.self.now in
    segment_writes now.size now.in_range.0 now.last now.dropped now.settled c.args.number c.args.at _ c.requires.number.0 now.in_range.1.0 (few_of now.size now.last now.settled now.dropped now.in_range)
    c.requires.inside c.requires.number.1 now.lost c.requires.found _ _ _ _ _ _ _ _ _ _ now.sound c.requires.place c.requires.full
    c.write_at.ensures.torn c.write_at.ensures.crash c.write_at.ensures.more c.write_at.ensures.going c.write_at.ensures.tells c.write_at.ensures.time

pub returns-clause-written : goal.returns-clause-written
returns-clause-written g c =
    let now = c.args.self.now in
    on_ok c.write_at.result
    (segment_holds now.size now.in_range.0 now.last now.dropped now.settled c.args.number c.args.at _ c.requires.number.0 now.in_range.1.0 (few_of now.size now.last now.settled now.dropped now.in_range)
    c.requires.inside c.requires.number.1 now.lost c.requires.found _ _ _ _ _ _ c.args.bytes.now now.sound c.requires.place
    c.write_at.ensures.torn c.write_at.ensures.crash c.write_at.ensures.going refl)
    c.write_at.ensures.written

pub returns-clause-full : goal.returns-clause-full
returns-clause-full g c = λ l.
    let now = c.args.self.now in
    segment_full now.size now.in_range.0 now.last now.dropped now.settled c.args.number c.args.at _ c.requires.number.0 now.in_range.1.0 (few_of now.size now.last now.settled now.dropped now.in_range)
    c.requires.inside c.requires.number.1 now.lost c.requires.found l _ _ _ _ _ _ now.sound c.requires.place
    c.write_at.ensures.torn c.write_at.ensures.crash c.write_at.ensures.going
