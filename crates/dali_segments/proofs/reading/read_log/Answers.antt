use Rattle.std.specs.Prelude.{min, ◌⊎◌}
use Rattle.std.proofs.Common.{◌≡◌, ◌∙◌, ℕ, ◌≤◌, ◌<◌, ◌+◌, ◌-◌, length, inl, inr, ⊎_elim, refl, arith}
use Rattle.dali_segments.proofs.Places.{place_of, place_in}
use Rattle.dali_segments.proofs.Quiets.{quiet_same, quiet_on, cause_err}
use Rattle.dali_segments.proofs.Readings.{told_none, told_next, told_short, told_all, told_past, next_place}
use Rattle.dali_segments.proofs.reading.read_log.Goals as goal

under_of : (number last : ℕ) → number < last + 1 → number ≤ last
under_of number last lt = omega (arith, lt)

above_of : (number last : ℕ) → last + 1 ≤ number → last < number
above_of number last le = omega (arith, le)

kept_room : (now first count : ℕ) → now ≡ first → count ≤ first → count ≤ now
kept_room now first count same le = omega (arith, same, le)

room_of : (len count size offset most : ℕ) → most ≡ min (len - count) (size - offset) → offset < size → count ≤ len → (offset + most ≤ size) × (count + most ≤ len)
room_of len count size offset most is inside some = (omega (arith, is, inside, some), omega (arith, is, inside, some))

moved_room : (now first count most : ℕ) → now ≡ first → count + most ≤ now → count + most ≤ first
moved_room now first count most same le = omega (arith, same, le)

end_of : (more most count room first : ℕ) → room ≡ first → (more < most) ⊎ (room ≤ count) → (more < most) ⊎ (first ≤ count)
end_of more most count room first same end = ⊎_elim (λ less. inl less) (λ le. inr (omega (arith, same, le))) end

pub loop-number-init : goal.loop-number-init
loop-number-init g c = record {
  so_far = omega arith;
  in_segment = place_in c.args.at c.args.size c.requires.0;
  placed = omega (arith, place_of c.args.at c.args.size);
  whole = refl;
  bytes_read = told_none c.args.size c.args.last c.args.dropped c.args.at c.args.into.now _;
  quiet = quiet_same _ _ _ _ _;
  faults = refl;
}

pub read_part-requires-clause-number : goal.read_part-requires-clause-number
read_part-requires-clause-number g c = omega (arith, c.loop-number-test.true, c.requires.1)

pub read_part-requires-clause-inside : goal.read_part-requires-clause-inside
read_part-requires-clause-inside g c =
    let is = c.loop-number.invariant in
    let under = under_of c.loop-number.number c.args.last c.loop-number-test.true in
    let room = room_of (length c.loop-number.into) c.loop-number.count c.args.size c.loop-number.offset c.min-most.result c.min-most.ensures is.in_segment (kept_room _ _ _ is.whole is.so_far) in
    room

pub loop-number-preserved : goal.loop-number-preserved
loop-number-preserved g c =
    let is = c.loop-number.invariant in
    let under = under_of c.loop-number.number c.args.last c.loop-number-test.true in
    let room = room_of (length c.loop-number.into) c.loop-number.count c.args.size c.loop-number.offset c.min-most.result c.min-most.ensures is.in_segment (kept_room _ _ _ is.whole is.so_far) in
    let on = c.is_end.ensures.goes_on c.if-is_end.false in
    record {
      so_far = omega (arith, c.in_ok-more.ensures.count, room.1, is.whole);
      in_segment = omega (arith, c.requires.0);
      placed = next_place c.args.size c.args.at c.loop-number.count c.in_ok-more.more c.min-most.result c.loop-number.number c.loop-number.offset (length c.loop-number.into) c.min-most.ensures on.0 c.in_ok-more.ensures.count
          (omega (arith, on.1, c.read_part.ensures.length)) is.placed is.in_segment;
      whole = c.read_part.ensures.length ∙ is.whole;
      bytes_read = told_next c.args.size c.args.last c.args.dropped c.args.at c.loop-number.count c.in_ok-more.more c.min-most.result c.loop-number.number c.loop-number.offset c.args.into.now c.loop-number.into c.read_part.new.into
          c.requires.1 c.requires.0 under is.placed room.0 (moved_room _ _ _ _ is.whole room.1) _ _ is.quiet.told is.bytes_read c.in_ok-more.ensures.bytes;
      quiet = quiet_on _ _ _ _ _ _ _ _ _ _ _ _ _ _ _ (λ t x le. g.met.F.Files.counts_now _ t x le) c.loop-number.invariant.quiet c.read_part.ensures.quiet;
      faults = c.in_ok-more.ensures.cause.kept ∙ is.faults;
    }

pub returns-in_err-more-clause-quiet : goal.returns-in_err-more-clause-quiet
returns-in_err-more-clause-quiet g c = quiet_on _ _ _ _ _ _ _ _ _ _ _ _ _ _ _ (λ t x le. g.met.F.Files.counts_now _ t x le) c.loop-number.invariant.quiet c.read_part.ensures.quiet

pub returns-in_err-more-clause-cause : goal.returns-in_err-more-clause-cause
returns-in_err-more-clause-cause g c =
    cause_err _ _ _ c.from_residual.result c.loop-number.invariant.faults c.from_residual.ensures.0 c.read_part.ensures.cause.later c.in_err-more.ensures.cause.failed

pub returns-then-is_end-clause-bytes : goal.returns-then-is_end-clause-bytes
returns-then-is_end-clause-bytes g c =
    let is = c.loop-number.invariant in
    let under = under_of c.loop-number.number c.args.last c.loop-number-test.true in
    let room = room_of (length c.loop-number.into) c.loop-number.count c.args.size c.loop-number.offset c.min-most.result c.min-most.ensures is.in_segment (kept_room _ _ _ is.whole is.so_far) in
    told_short c.args.size c.args.last c.args.dropped c.args.at c.loop-number.count c.in_ok-more.more c.min-most.result c.loop-number.number c.loop-number.offset c.args.into.now c.loop-number.into c.read_part.new.into
    c.requires.1 c.requires.0 under is.placed room.0 (moved_room _ _ _ _ is.whole room.1) _ _ is.quiet.told is.bytes_read c.in_ok-more.ensures.bytes
    (end_of _ _ _ _ _ (c.read_part.ensures.length ∙ is.whole) (c.is_end.ensures.ends c.if-is_end.true))

pub returns-then-is_end-clause-quiet : goal.returns-then-is_end-clause-quiet
returns-then-is_end-clause-quiet g c = quiet_on _ _ _ _ _ _ _ _ _ _ _ _ _ _ _ (λ t x le. g.met.F.Files.counts_now _ t x le) c.loop-number.invariant.quiet c.read_part.ensures.quiet

pub returns-then-is_end-clause-count : goal.returns-then-is_end-clause-count
returns-then-is_end-clause-count g c =
    let is = c.loop-number.invariant in
    let under = under_of c.loop-number.number c.args.last c.loop-number-test.true in
    let room = room_of (length c.loop-number.into) c.loop-number.count c.args.size c.loop-number.offset c.min-most.result c.min-most.ensures is.in_segment (kept_room _ _ _ is.whole is.so_far) in
    omega (arith, c.in_ok-more.ensures.count, room.1, is.whole)

pub returns-then-is_end-clause-cause : goal.returns-then-is_end-clause-cause
returns-then-is_end-clause-cause g c =
    let same = c.in_ok-more.ensures.cause.kept ∙ c.loop-number.invariant.faults in
    record { later = omega (arith, same); failed = tt; kept = same }

pub returns-clause-bytes : goal.returns-clause-bytes
returns-clause-bytes g c =
    let is = c.loop-number.invariant in
    told_all c.args.size c.args.last c.args.dropped c.args.at c.loop-number.count c.loop-number.number c.loop-number.offset c.args.into.now c.loop-number.into
    c.requires.1 c.requires.0 (above_of c.loop-number.number c.args.last c.loop-number-test.false) is.placed is.so_far _ is.bytes_read

pub returns-clause-quiet : goal.returns-clause-quiet
returns-clause-quiet g c = c.loop-number.invariant.quiet

pub returns-clause-cause : goal.returns-clause-cause
returns-clause-cause g c = record { later = omega (arith, c.loop-number.invariant.faults); failed = tt; kept = c.loop-number.invariant.faults }

pub returns-then-first-last-clause-bytes : goal.returns-then-first-last-clause-bytes
returns-then-first-last-clause-bytes g c = told_past c.args.size c.args.last c.args.dropped c.args.at c.args.into.now c.requires.1 c.requires.0 c.if-first-last.true _
