use Rattle.std.proofs.Common.{◌≡◌, ◌*◌, ◌≤◌, length, take, flat_map, refl, arith, rules}
use Rattle.dali_record.specs.Spelling.{words_bytes}
use Rattle.dali_crash.specs.Disks.Places.{place_of}
use Rattle.dali_restart.proofs.RenewalLemmas.Beside.{only_all, only_then}
use Rattle.dali_restart.proofs.RenewalLemmas.Bytes.{held_none, held_then, held_to, piece_after, sized, taken_are_512}
use Rattle.dali_restart.proofs.RenewalLemmas.Images.{fewer_none}
use Rattle.dali_restart.proofs.renewal.imaging.write_regions.Goals as goal

pub loop-number-init : goal.loop-number-init
loop-number-init g c = record {
  written = held_none c.args.file 64 (g.V.Store.told c.args.store.now);
  only = only_all g.V.Store.told g.V.Store.may_leave g.V.Store.moment g.V.Store.left_since c.args.file c.args.store.now g.met.V.Store.only_now;
  faults = refl;
  calls = fewer_none (g.V.Store.lets_pass c.args.store.now);
  room = c.requires.room;
  within = omega arith;
}

pub write_piece-requires-clause-inside : goal.write_piece-requires-clause-inside
write_piece-requires-clause-inside g c =
    let before : c.loop-number.number * 128 ≤ length c.args.regions.now = omega (arith, c.loop-number-test.true) in
    let far : length (flat_map words_bytes (take (128 * c.loop-number.number) c.args.regions.now)) ≡ 512 * (128 * c.loop-number.number) = taken_are_512 (128 * c.loop-number.number) c.args.regions.now (sized c.args.regions.now c.told-regions) (omega (arith, before)) in
    held_to c.args.file 64 (place_of (c.loop-number.number * 128)) (flat_map words_bytes (take (128 * c.loop-number.number) c.args.regions.now)) (g.V.Store.told c.args.store.now) (g.V.Store.told c.loop-number.store) (omega (arith, far)) c.requires.inside
    c.loop-number.invariant.written

pub returns-in_err-write_piece-clause-only : goal.returns-in_err-write_piece-clause-only
returns-in_err-write_piece-clause-only g c =
    only_then g.V.Store.told g.V.Store.may_leave g.V.Store.moment g.V.Store.left_since c.args.file c.args.store.now c.loop-number.store c.write_piece.new.store g.met.V.Store.counts_now c.loop-number.invariant.only c.write_piece.ensures.only

pub loop-number-preserved : goal.loop-number-preserved
loop-number-preserved g c = record {
  written =
      let before : c.loop-number.number * 128 ≤ length c.args.regions.now = omega (arith, c.loop-number-test.true) in
      let far : length (flat_map words_bytes (take (128 * c.loop-number.number) c.args.regions.now)) ≡ 512 * (128 * c.loop-number.number) = taken_are_512 (128 * c.loop-number.number) c.args.regions.now (sized c.args.regions.now c.told-regions) (omega (arith, before)) in
      held_then c.args.file 64 (place_of (c.loop-number.number * 128)) _ _ _ (g.V.Store.told c.args.store.now) (g.V.Store.told c.loop-number.store) (g.V.Store.told c.write_piece.new.store) (omega (arith, far))
      (piece_after c.args.regions.now c.loop-number.number c.min-until.result c.min-until.ensures before) c.requires.inside c.loop-number.invariant.written c.in_ok-write_piece.ensures.written;
  only = only_then g.V.Store.told g.V.Store.may_leave g.V.Store.moment g.V.Store.left_since c.args.file c.args.store.now c.loop-number.store c.write_piece.new.store g.met.V.Store.counts_now c.loop-number.invariant.only c.write_piece.ensures.only;
  faults = search rules;
  calls = search rules;
  room = omega (arith, c.loop-number.invariant.room, c.write_piece.ensures.room);
  within = omega (arith, c.loop-number-test.true);
}
