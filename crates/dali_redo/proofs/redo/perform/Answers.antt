use Rattle.std.proofs.Common.{◌≡◌, ◌+◌, ◌<◌, ap, arith, rules}
use Rattle.std.specs.FinMap.{empty, len, remove}
use Rattle.dali_redo.proofs.Rolls.{so_far_on, undos_on, rolled_length_on, performs_end, fewer}
use Rattle.dali_redo.proofs.redo.perform.Goals as goal

pub loop-txn-smaller : goal.loop-txn-smaller
loop-txn-smaller c =
    let less = fewer c.loop-txn.left c.loop-txn.table c.in-Some.txn c.in-Some.ensures.least in
    let a : len c.end.new.self ≡ len (remove c.loop-txn.table c.in-Some.txn) = ap len c.end.ensures in
    let b : len c.end-in-Some.new.self ≡ len (remove c.loop-txn.left c.in-Some.txn) = ap len c.end-in-Some.ensures in
    let g : len c.end.new.self + len c.end-in-Some.new.self < len c.loop-txn.table + len c.loop-txn.left = omega (arith, a, b, less) in
    g

pub loop-txn-preserved : goal.loop-txn-preserved
loop-txn-preserved c = record {
  so_far = so_far_on c.args.left.now c.args.table.now c.args.image.now c.loop-txn.left c.loop-txn.table c.loop-txn.image c.in-Some.txn c.end-in-Some.new.self c.end.new.self c.roll_back.new.self c.undos_performed.result.now
      c.loop-txn.invariant.so_far c.in-Some.ensures.least c.end-in-Some.ensures c.end.ensures c.undos_performed.ensures c.roll_back.ensures;
  undos = undos_on c.loop-txn.left c.loop-txn.table c.end-in-Some.new.self c.end.new.self c.in-Some.txn c.end-in-Some.ensures c.end.ensures c.loop-txn.invariant.undos;
  regions = rolled_length_on c.undos_performed.result.now c.args.image.now c.loop-txn.image c.roll_back.new.self c.roll_back.ensures c.loop-txn.invariant.regions;
}

pub returns-clause-image : goal.returns-clause-image
returns-clause-image c =
    let table : c.loop-txn.table ≡ empty = search rules in
    let left : c.loop-txn.left ≡ empty = search rules in
    performs_end c.args.left.now c.args.table.now c.loop-txn.left c.loop-txn.table c.args.image.now c.loop-txn.image c.loop-txn.invariant.so_far table left
