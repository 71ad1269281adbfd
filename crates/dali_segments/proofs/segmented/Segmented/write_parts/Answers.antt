use Rattle.std.specs.Prelude.{min}
use Rattle.std.proofs.Common.{◌≡◌, ◌∙◌, ℕ, ◌≤◌, ◌<◌, ◌+◌, ◌-◌, ◌*◌, length, inl, refl, ap, arith}
use Rattle.dali_segments.specs.Segments.{is_dropped, told_of}
use Rattle.dali_segments.proofs.Quiets.{cause_err}
use Rattle.dali_segments.proofs.Runs.{writes_none, writes_more, holds_none}
use Rattle.dali_segments.proofs.Turns.{a_turn, turn_place, turn_full, turn_reach, turn_writes, turn_holds, whole_holds}
use Rattle.dali_segments.proofs.segmented.Segmented.write_parts.Goals as goal

under_of : (number last : ℕ) → number < last + 1 → number ≤ last
under_of number last lt = omega (arith, lt)

above_of : (number last : ℕ) → last + 1 ≤ number → last < number
above_of number last le = omega (arith, le)

most_of : (count done offset now_size size most : ℕ) → now_size ≡ size → most ≡ min (count - done) (now_size - offset) → most ≡ min (count - done) (size - offset)
most_of count done offset now_size size most same is = is ∙ ap (λ (k : ℕ). min (count - done) (k - offset)) same

place_in : (number now_size size offset e : ℕ) → now_size ≡ size → number * size + offset ≡ e → number * now_size + offset ≡ e
place_in number now_size size offset e same is = ap (λ (k : ℕ). number * k + offset) same ∙ is

pub loop-number-init : goal.loop-number-init
loop-number-init g c = record {
  so_far = omega arith;
  in_segment = c.requires.inside.0;
  placed = λ le. omega arith;
  ended = λ lt. absurd (omega (arith, lt, c.requires.inside.1.0));
  reach = inl (omega arith);
  same = (refl, (refl, (refl, refl)));
  writes = writes_none _ _ _ _ _ _;
  written = holds_none (c.args.first * c.args.self.now.size + c.args.at) (told_of c.args.self.now.size (g.F.Files.told c.args.self.now.files));
  full = c.requires.full;
  faults = refl;
}

pub write_segment-requires-clause-found : goal.write_segment-requires-clause-found
write_segment-requires-clause-found g c = c.loop-number.invariant.same.1.1.0 ∙ c.requires.found

pub write_segment-requires-clause-number : goal.write_segment-requires-clause-number
write_segment-requires-clause-number g c =
    let under = under_of c.loop-number.number c.args.last c.loop-number-test.true in (
      omega (arith, under, c.requires.inside.1.1),
      ap (λ (k : ℕ). is_dropped k c.loop-number.number) c.loop-number.invariant.same.1.0 ∙ c.requires.kept c.loop-number.number c.loop-number.auto.number under,
    )

pub write_segment-requires-clause-inside : goal.write_segment-requires-clause-inside
write_segment-requires-clause-inside g c =
    let under = under_of c.loop-number.number c.args.last c.loop-number-test.true in
    let is = c.loop-number.invariant in
    let turn = a_turn c.args.self.now.size (c.args.first * c.args.self.now.size + c.args.at) (length c.args.bytes.now) c.args.last c.loop-number.number c.loop-number.offset c.loop-number.done c.min-most.result
    c.requires.span.0 c.requires.span.1 under is.so_far is.in_segment (is.placed under) (most_of _ _ _ _ _ _ is.same.0 c.min-most.ensures) in
    omega (arith, c.part_of-part.ensures.length, turn.inside, is.same.0)

pub write_segment-requires-clause-place : goal.write_segment-requires-clause-place
write_segment-requires-clause-place g c =
    let under = under_of c.loop-number.number c.args.last c.loop-number-test.true in
    let is = c.loop-number.invariant in
    turn_place _ c.loop-number.done _ c.args.bytes.now _ _ (place_in c.loop-number.number _ c.args.self.now.size c.loop-number.offset _ is.same.0 (is.placed under)) is.so_far c.requires.place is.written

pub write_segment-requires-clause-full : goal.write_segment-requires-clause-full
write_segment-requires-clause-full g c = turn_full _ c.args.self.now.last _ _ _ _ c.loop-number.invariant.reach c.loop-number.invariant.full

pub loop-number-preserved : goal.loop-number-preserved
loop-number-preserved g c =
    let under = under_of c.loop-number.number c.args.last c.loop-number-test.true in
    let is = c.loop-number.invariant in
    let ext = c.write_segment.ensures.extent in
    let turn = a_turn c.args.self.now.size (c.args.first * c.args.self.now.size + c.args.at) (length c.args.bytes.now) c.args.last c.loop-number.number c.loop-number.offset c.loop-number.done c.min-most.result
    c.requires.span.0 c.requires.span.1 under is.so_far is.in_segment (is.placed under) (most_of _ _ _ _ _ _ is.same.0 c.min-most.ensures) in
    let here = place_in c.loop-number.number _ c.args.self.now.size c.loop-number.offset _ is.same.0 (is.placed under) in
    record {
      so_far = turn.within;
      in_segment = omega (arith, c.requires.inside.0);
      placed = turn.next;
      ended = turn.ended;
      reach = turn_reach _ _ _ c.loop-number.number ext.1.0 is.reach;
      same = (ext.0 ∙ is.same.0, (ext.1.1.0 ∙ is.same.1.0, (ext.1.1.1.0 ∙ is.same.1.1.0, ext.1.1.1.1 ∙ is.same.1.1.1)));
      writes = turn_writes _ c.loop-number.done c.min-most.result _ here _ _ _ _ _ _ _ _ _ _ _ _ _ c.part_of-part.ensures.length is.writes c.write_segment.ensures.writes;
      written = turn_holds _ c.loop-number.done c.min-most.result _ here c.args.bytes.now c.part_of-part.result.now c.part_of-part.ensures.part is.so_far _ _ _ c.requires.place is.written c.in_ok-write_segment.ensures.written;
      full = c.write_segment.ensures.full c.args.self.now.last is.full;
      faults = c.in_ok-write_segment.ensures.cause.kept ∙ is.faults;
    }

pub returns-in_err-write_segment-clause-writes : goal.returns-in_err-write_segment-clause-writes
returns-in_err-write_segment-clause-writes g c =
    let under = under_of c.loop-number.number c.args.last c.loop-number-test.true in
    let is = c.loop-number.invariant in
    let turn = a_turn c.args.self.now.size (c.args.first * c.args.self.now.size + c.args.at) (length c.args.bytes.now) c.args.last c.loop-number.number c.loop-number.offset c.loop-number.done c.min-most.result
    c.requires.span.0 c.requires.span.1 under is.so_far is.in_segment (is.placed under) (most_of _ _ _ _ _ _ is.same.0 c.min-most.ensures) in
    let here = place_in c.loop-number.number _ c.args.self.now.size c.loop-number.offset _ is.same.0 (is.placed under) in
    writes_more _ (c.loop-number.done + c.min-most.result) _ turn.within _ _ _ _ _ _ _ _
    (turn_writes _ c.loop-number.done c.min-most.result _ here _ _ _ _ _ _ _ _ _ _ _ _ _ c.part_of-part.ensures.length is.writes c.write_segment.ensures.writes)

pub returns-in_err-write_segment-clause-extent : goal.returns-in_err-write_segment-clause-extent
returns-in_err-write_segment-clause-extent g c =
    let is = c.loop-number.invariant in
    let ext = c.write_segment.ensures.extent in
    (ext.0 ∙ is.same.0, (ext.1.1.0 ∙ is.same.1.0, ext.1.1.1.1 ∙ is.same.1.1.1))

pub returns-in_err-write_segment-clause-cause : goal.returns-in_err-write_segment-clause-cause
returns-in_err-write_segment-clause-cause g c =
    cause_err _ _ _ c.from_residual.result c.loop-number.invariant.faults c.from_residual.ensures.0 c.write_segment.ensures.cause.later c.in_err-write_segment.ensures.cause.failed

pub returns-clause-writes : goal.returns-clause-writes
returns-clause-writes g c =
    writes_more _ c.loop-number.done _ c.loop-number.invariant.so_far _ _ _ _ _ _ _ _ c.loop-number.invariant.writes

pub returns-clause-written : goal.returns-clause-written
returns-clause-written g c =
    let above = above_of c.loop-number.number c.args.last c.loop-number-test.false in
    whole_holds _ c.args.bytes.now c.loop-number.done _ _ (c.loop-number.invariant.ended above) c.loop-number.invariant.written

pub returns-clause-extent : goal.returns-clause-extent
returns-clause-extent g c = let is = c.loop-number.invariant in (is.same.0, (is.same.1.0, is.same.1.1.1))

pub returns-clause-cause : goal.returns-clause-cause
returns-clause-cause g c = record { later = omega (arith, c.loop-number.invariant.faults); failed = tt; kept = c.loop-number.invariant.faults }
